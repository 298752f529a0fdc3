use Rattle.kc_fastx.proofs.ReadingLemmas.{Filling}
use Rattle.std.proofs.Common.{◌≤◌, ◌<◌, ◌+◌, ◌*◌, length}
use Rattle.kc_fastx.proofs.record_reader.Reading.grow.Given as goal

abbrev pub invariant-filling : goal.invariant-filling
invariant-filling g l = record {
  filling : Filling (g.S.Source.seen l.fn.source) (g.S.Source.seen l.source) l.fn.self (record {
    unread = l.self-inside.intake;
    used = l.self-inside.used;
    lines_used = l.self-inside.lines_used;
    is_fastq = l.self-inside.is_fastq;
    ended = l.self-inside.ended;
    failed = l.self-inside.failed;
  });
  few : l.self-inside.lines_used ≤ l.self-inside.used;
  fits : l.self-inside.used + (length l.self-inside.intake.bytes + l.self-inside.intake.room) < 9223372036854775808;
  wanted : l.wanted ≤ 2 * length l.fn.self.unread.bytes;
  short : length l.self-inside.intake.bytes ≤ 2 * length l.fn.self.unread.bytes;
}

abbrev pub decreases-filling : goal.decreases-filling
decreases-filling g l = l.self-inside.intake.room

use Rattle.std.proofs.Common.{◌-◌, ◌++◌, length}
use Rattle.std.specs.Prelude.{flat_map}
use Rattle.std.specs.List.{range_with_len}
use Rattle.kc_io.proofs.SinksLemmas.{Pending}
use Rattle.kc_combine.specs.CopySpectra.{row_text}
use Rattle.kc_combine.proofs.SpectrumLemmas.{line_at}
use Rattle.kc_combine.proofs.spectrum_text.put_row.Given as goal

abbrev pub invariant-loop-count : goal.invariant-loop-count
invariant-loop-count g l =
    Pending (g.W.Sink.seen l.fn.writer) (g.W.Sink.seen l.writer) (l.fn.block ++ row_text l.copies l.words) (l.block ++ flat_map (line_at l.copies l.words) (range_with_len l.count (length l.words - l.count)))

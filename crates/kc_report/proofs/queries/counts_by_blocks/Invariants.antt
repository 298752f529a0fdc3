use Rattle.std.proofs.Common.{◌++◌, map, drop}
use Rattle.std.specs.Prelude.{string_bytes}
use Rattle.kc_report.specs.Querying.{query_text}
use Rattle.kc_io.proofs.SinksLemmas.{Pending}
use Rattle.kc_report.proofs.queries.counts_by_blocks.Given as goal

abbrev pub invariant-loop-word : goal.invariant-loop-word
invariant-loop-word g l =
    Pending (g.W.Sink.seen l.fn.writer) (g.W.Sink.seen l.writer) (query_text l.tally (map string_bytes l.words))
    (l.block ++ query_text l.tally (drop l.word-index (map string_bytes l.words)))

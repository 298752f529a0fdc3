use Rattle.std.proofs.Common.{◌-◌, ◌++◌}
use Rattle.std.specs.Prelude.{flat_map}
use Rattle.std.specs.List.{range_with_len}
use Rattle.kc_io.proofs.SinksLemmas.{Pending}
use Rattle.kc_combine.specs.CopySpectra.{rows_text}
use Rattle.kc_combine.proofs.SpectrumLemmas.{row_at}
use Rattle.kc_combine.proofs.spectrum_text.write_rows.Given as goal

abbrev pub invariant-loop-copies : goal.invariant-loop-copies
invariant-loop-copies g l =
    Pending (g.W.Sink.seen l.fn.writer) (g.W.Sink.seen l.writer) (rows_text l.width l.cells) (l.block ++ flat_map (row_at l.width l.cells) (range_with_len l.copies (6 - l.copies)))

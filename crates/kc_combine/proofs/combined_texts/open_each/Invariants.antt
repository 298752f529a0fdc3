use Rattle.std.proofs.Common.{◌≡◌, ◌≤◌, length, vec_capacity}
use Rattle.std.specs.Prelude.{vec_len}
use Rattle.kc_combine.specs.CombinedTexts.{AreOpenedTo}
use Rattle.kc_combine.proofs.combined_texts.open_each.Given as goal

abbrev pub invariant-sources : goal.invariant-sources
invariant-sources g l = record {
  opened : AreOpenedTo g.S.Source.seen l.i l.limit l.fn.sources l.sources l.openings.items;
  room : length l.fn.sources ≤ vec_capacity l.openings;
  counted : vec_len l.openings ≡ l.i;
  long : length l.sources ≡ length l.fn.sources;
}

use Rattle.std.proofs.Common.{◌≡◌, length, Some}
use Rattle.std.proofs.lemmas.List.Filters.{FiltersInPlace}
use Rattle.kc_kmer.specs.Rule.{is_listed}
use Rattle.kc_word.proofs.only.Only.keep_listed.Given as goal

abbrev pub invariant-loop-i : goal.invariant-loop-i
invariant-loop-i l = record {
  filtered : FiltersInPlace (is_listed (Some l.self.words)) l.initial.words.items l.words.items l.kept l.i;
  long : length l.places ≡ 64;
}

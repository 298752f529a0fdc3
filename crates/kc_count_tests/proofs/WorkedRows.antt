-- The rows of the parted tally, which are such as a tally has.
use Rattle.std.proofs.Common.{rules, false, List, [], ◌∷◌, refl}
use Rattle.kc_kmer.specs.Word.{form}
use Rattle.kc_tally.specs.declared.row.Row.{Row}
use Rattle.kc_tally.specs.Tally.{AreRows, row_of}

unfoldable pub parted : List Row
parted = row_of 1 2 ∷ row_of 6 1 ∷ row_of 11 70_000 ∷ row_of 15 1 ∷ []

pub parted_are_rows : AreRows 2 false parted
unfolding parted form
parted_are_rows = record {
  ordered = record { rising = search rules; words = search rules; present = search rules };
  forms = λ k d below. refl;
  small = search rules;
}

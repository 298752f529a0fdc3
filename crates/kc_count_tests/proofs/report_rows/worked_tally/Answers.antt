use Rattle.std.proofs.Common.{rules, false, List, [], ◌∷◌, refl}
use Rattle.kc_kmer.specs.Word.{form}
use Rattle.kc_tally.specs.declared.row.Row.{Row}
use Rattle.kc_tally.specs.Tally.{AreRows}
use Rattle.kc_count_tests.proofs.report_rows.worked_tally.Goals as goal

rows : List Row
rows = record { word = 1; count = 2 } ∷ record { word = 6; count = 1 } ∷ record { word = 11; count = 70000 } ∷ []

lawful : AreRows 2 false rows
unfolding rows form
lawful = record {
  ordered = record { rising = search rules; words = search rules; present = search rules };
  forms = λ k d below. refl;
  small = search rules;
}

pub of_rows-requires : goal.of_rows-requires
unfolding rows
of_rows-requires c = rw (c.requires, c.in_ok-from_slice.ensures.items) lawful

-- The count that an intersection gives a word.
-- Source: our formats page (`intersect`).
use Rattle.std.specs.Prelude.{ℕ, List}
use Rattle.kc_combine.specs.Combined.{first_of, greatest_of, least_of, sum_of}
use Rattle.kc_combine.specs.declared.combining_rules.Take.{Take}
use Rattle.kc_combine.specs.declared.combining_rules.Take.TheVariants.{First, Greatest, Least, Sum}

abbrev pub taken_by : Take → List ℕ → ℕ
taken_by Least counts = least_of counts
taken_by Greatest counts = greatest_of counts
taken_by Sum counts = sum_of counts
taken_by First counts = first_of counts

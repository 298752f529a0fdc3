-- What the options of a command ask for.
use Rattle.std.proofs.Common.{◌≡◌, ℕ, ◌^◌, ◌≤◌, Bool, true, false, List, codes, Option, Some, None, refl, ap, ◌∙◌}
use Rattle.std.proofs.Common.{sym, subst, arith, lit≤}
use Rattle.std.specs.Prelude.{◌==◌, ◌||◌, ◌∷◌, ◌++◌, [], if◌then◌else◌, is_none, unwrap_or}
use Rattle.std.specs.Option.{option_and_then}
use Rattle.std.proofs.lemmas.Bool.Decides.{nat_tests}
use Rattle.clap.specs.Words.{Row, first_of}
use Rattle.kc_command.specs.Arguments.{Judged, first_bad, first_bad_of_counting, first_bad_of_dump}
use Rattle.kc_command.specs.Arguments.{first_bad_of_histo, first_of_bad, judged}
use Rattle.kc_command.specs.Options.{as_stripes, batch_of, floor_of, high_of, is_stripe_count, lower_of, mer_len_of}
use Rattle.kc_command.specs.Options.{or_default, print_of, size_of, stripes_of, threads_of, upper_of}
use Rattle.kc_command.specs.Numbers.{number_between}
use Rattle.kc_command.specs.Settings.{AreStripes}
use Rattle.kc_command.specs.declared.option_name.OptionName.{OptionName}
use Rattle.kc_command.specs.declared.option_name.OptionName.TheVariants as option
use Rattle.kc_command.specs.declared.settings.Print.{Print}

some_same : {a b : ℕ} → Some a ≡ Some b → a ≡ b
some_same {a} e = ap (λ o. unwrap_or o a) e

same_number : (n m : ℕ) → (n == m) ≡ true → n ≡ m
same_number n m e = grind (arith, nat_tests)

one_power : (n s : ℕ) (rest : Bool) → 2 ^ s ≤ 64 → ((n == 2 ^ s) || rest) ≡ true → (rest ≡ true → AreStripes n)
    → AreStripes n
one_power n s rest few some other = pick (n == 2 ^ s) refl some where
  pick : (b : Bool) → (n == 2 ^ s) ≡ b → (b || rest) ≡ true → AreStripes n
  pick true same some =
      let e = same_number n (2 ^ s) same in
      record { power = (s, e); at_most = subst (λ m. m ≤ 64) (sym e) few }
  pick false same some = other some

are_stripes : (n : ℕ) → is_stripe_count n ≡ true → AreStripes n
are_stripes n is =
    one_power n 0 _ (lit≤ tt) is (λ is. one_power n 1 _ (lit≤ tt) is
    (λ is. one_power n 2 _ (lit≤ tt) is (λ is. one_power n 3 _ (lit≤ tt) is
    (λ is. one_power n 4 _ (lit≤ tt) is (λ is. one_power n 5 _ (lit≤ tt) is
    (λ is. one_power n 6 false (lit≤ tt) is (λ never. cc)))))))

-- the stripes that are asked for can be asked for
pub asked_stripes : (rows : List Row) (n : ℕ) → stripes_of rows ≡ Some n → AreStripes n
asked_stripes rows n e = number (or_default 16 (number_between 1 64) (first_of (codes "stripes") rows)) e where
  tested : (m : ℕ) (b : Bool) → is_stripe_count m ≡ b → (if b then Some m else None) ≡ Some n → AreStripes n
  tested m true is e = subst AreStripes (some_same e) (are_stripes m is)
  tested m false is e = cc

  number : (o : Option ℕ) → option_and_then as_stripes o ≡ Some n → AreStripes n
  number None e = cc
  number (Some m) e = tested m (is_stripe_count m) refl e

-- what is refused first of some values is refused first of those and more
refused_before : (front rest : List Judged) (name : OptionName) → first_of_bad front ≡ Some name
    → first_of_bad (front ++ rest) ≡ Some name
refused_before [] rest name e = cc
refused_before (one ∷ front) rest name e = pick one.is_bad e (refused_before front rest name) where
  pick : (bad : Bool) → (if bad then Some one.name else first_of_bad front) ≡ Some name
      → (first_of_bad front ≡ Some name → first_of_bad (front ++ rest) ≡ Some name)
      → (if bad then Some one.name else first_of_bad (front ++ rest)) ≡ Some name
  pick true e later = e
  pick false e later = later e

-- if none of them is refused, what is refused first of the others is refused first of all
passed_before : (front rest : List Judged) → first_of_bad front ≡ None
    → first_of_bad (front ++ rest) ≡ first_of_bad rest
passed_before [] rest e = refl
passed_before (one ∷ front) rest e = pick one.is_bad e (passed_before front rest) where
  pick : (bad : Bool) → (if bad then Some one.name else first_of_bad front) ≡ None
      → (first_of_bad front ≡ None → first_of_bad (front ++ rest) ≡ first_of_bad rest)
      → (if bad then Some one.name else first_of_bad (front ++ rest)) ≡ first_of_bad rest
  pick true e later = cc
  pick false e later = later e

-- a value that is allowed is not the first that is refused
passed : {X : Type 0} (name : OptionName) (value : Option X) (x : X) (rest : List Judged) → value ≡ Some x
    → first_of_bad (judged name value ∷ rest) ≡ first_of_bad rest
passed name value x rest e = ap (λ v. if is_none v then Some name else first_of_bad rest) e

abbrev of_counting : List Row → List Judged
of_counting rows = judged option.MerLen (mer_len_of rows)
    ∷ judged option.Size (size_of rows)
    ∷ judged option.Threads (threads_of rows)
    ∷ judged option.MinQualChar (floor_of rows)
    ∷ judged option.Stripes (stripes_of rows)
    ∷ judged option.Batch (batch_of rows)
    ∷ []

abbrev of_dump : List Row → List Judged
of_dump rows = judged option.LowerCount (lower_of rows) ∷ judged option.UpperCount (upper_of rows) ∷ []

abbrev of_high : List Row → List Judged
of_high rows = judged option.High (high_of rows) ∷ []

-- what is refused of the counting is refused of a count
pub refused_in_counting : (rows : List Row) (name : OptionName) → first_bad_of_counting rows ≡ Some name
    → first_bad rows ≡ Some name
refused_in_counting rows name e =
    refused_before (of_counting rows) (judged option.Print (print_of rows) ∷ of_dump rows ++ of_high rows) name e

-- what is refused of a count after its counting
pub behind_counting : (rows : List Row) → first_bad_of_counting rows ≡ None
    → first_bad rows ≡ first_of_bad (judged option.Print (print_of rows) ∷ of_dump rows ++ of_high rows)
behind_counting rows e =
    passed_before (of_counting rows) (judged option.Print (print_of rows) ∷ of_dump rows ++ of_high rows) e

-- the report that is printed is allowed
pub record IsPrinted (rows : List Row) (print : Print) : Type 0 where
  pub counting : first_bad_of_counting rows ≡ None
  pub print_is : print_of rows ≡ Some print

behind_print : {rows : List Row} {print : Print} → IsPrinted rows print
    → first_bad rows ≡ first_of_bad (of_dump rows ++ of_high rows)
behind_print {rows} {print} is =
    behind_counting rows is.counting
    ∙ passed option.Print (print_of rows) print (of_dump rows ++ of_high rows) is.print_is

-- then what is refused of a dump is refused of a count
pub refused_in_dump : (rows : List Row) (print : Print) (name : OptionName) → IsPrinted rows print
    → first_bad_of_dump rows ≡ Some name → first_bad rows ≡ Some name
refused_in_dump rows print name is e = behind_print is ∙ refused_before (of_dump rows) (of_high rows) name e

-- and if nothing of it is, what is refused of a histogram
pub behind_dump : (rows : List Row) (print : Print) → IsPrinted rows print → first_bad_of_dump rows ≡ None
    → first_bad rows ≡ first_bad_of_histo rows
behind_dump rows print is e = behind_print is ∙ passed_before (of_dump rows) (of_high rows) e

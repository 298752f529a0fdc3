-- A table text in three parts: the header, the rows and the end.
use Rattle.std.proofs.Common.{◌≡◌, ℕ, List, ◌++◌, sym, subst, append-nil}
use Rattle.std.specs.Prelude.{Result}
use Rattle.kc_io.specs.Sinks.{Written, HasTaken, HasBegun, Writes}
use Rattle.kc_io.proofs.SinksLemmas.{Pending, begin, took_front, began_front, last}

-- A text in three parts, of which the sink failed in the first.
pub first_begun : (s x : Written) (text a rest : List ℕ) → text ≡ a ++ rest → HasBegun s x a → HasBegun s x text
first_begun s x text a rest whole h = began_front s s x text a rest (subst (λ v. Pending s s text v) whole (begin s text)) h

-- The sink took the first part.
second_left : (s x : Written) (text a rest : List ℕ) → text ≡ a ++ rest → HasTaken s x a → Pending s x text rest
second_left s x text a rest whole h = took_front s s x text a rest (subst (λ v. Pending s s text v) whole (begin s text)) h

-- The sink took the first part and failed in the second.
pub second_begun : (s x y : Written) (text a b rest : List ℕ) → text ≡ a ++ (b ++ rest) → HasTaken s x a → HasBegun x y b
    → HasBegun s y text
second_begun s x y text a b rest whole first h = began_front s x y text b rest (second_left s x text a (b ++ rest) whole first) h

-- The sink took the first two parts, and then the third was written.
pub third_written : {A E : Type 0} (s x y z : Written) (text a b c : List ℕ) (r : Result A E) → text ≡ a ++ (b ++ c)
    → HasTaken s x a → HasTaken x y b → Writes y z r c → Writes s z r text
third_written s x y z text a b c r whole first second writes =
    let left = took_front s x y text b c (second_left s x text a (b ++ c) whole first) second in
    last s y z text c r (subst (λ v. Pending s y text v) (sym (append-nil c)) left) writes

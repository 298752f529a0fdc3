use Rattle.std.proofs.Common.{◌≡◌, ◌<◌, ◌≤◌, ℕ, zero, suc, List, [], ◌∷◌, get_or, length, refl, ap, sym, subst, arith}
use Rattle.std.proofs.lemmas.List.Elements.{All-nil, All-cons}
use Rattle.std.proofs.lemmas.List.Sorted.{sum_by-IsPermutation, length_permutation}
use mathlib.Core.Option.{some, some-ne-none, some-injective}
use Rattle.std.specs.Prelude.{sum_by}
use Rattle.std.specs.List.{flat_map}
use lib.ListN.{get_elem?}
use Rattle.kc_tickets.specs.declared.tickets.View.{View}
use Rattle.kc_tickets.specs.Tickets.{numbers_below, AreNumbersBelow}
use Rattle.kc_tickets.specs.WholeDraws.{numbers_past, Fits}
use Rattle.kc_tickets.specs.Laws.{TwoKeepRule, seat_view}
use Rattle.kc_tickets.proofs.ticket_laws.worked_rows.Goals as goal

-- one swap makes the numbers below four of what the seats drew
four : AreNumbersBelow 4 (0 ∷ 2 ∷ 1 ∷ 3 ∷ [])
unfolding numbers_below
four = record { moves = (1, 2) ∷ []; below = (omega arith, omega arith, tt); is = refl }

two_views : (first second : View) → Fits 2 first → Fits 2 second
    → (k : ℕ) (view : View) → get_elem? (first ∷ second ∷ []) k ≡ some view → Fits 2 view
two_views first second one other zero view at = subst (Fits 2) (some-injective first view at) one
two_views first second one other (suc zero) view at = subst (Fits 2) (some-injective second view at) other
two_views first second one other (suc (suc k)) view at = absurd (some-ne-none view (sym at))

-- a seat that has drawn a number below the limit and then one past it
drew_two : (number past : ℕ) → number < 2 → length (numbers_past 2 (number ∷ past ∷ [])) ≤ 1
    → Fits 2 (seat_view 1 (number ∷ past ∷ []))
drew_two number past less few = record {
  has_limit = λ _. refl;
  few_past = few;
  past_last = λ _. All-cons (λ n. n < 2) number [] less (All-nil (λ n. n < 2));
  spent = λ light. absurd (omega arith);
}

-- what is in cell 0
first_cell : {next : ℕ} (n : ℕ) → ◌≡◌ {A = List ℕ} (n ∷ 2 ∷ 2 ∷ []) (next ∷ 2 ∷ 2 ∷ []) → next ≡ n
first_cell n is = sym (ap (λ (cells : List ℕ). get_or cells 0 0) is)

abbrev AllFit : List View → Type 0
AllFit views = (k : ℕ) (view : View) → get_elem? views k ≡ some view → Fits 2 view

keeps : (next : ℕ) (views : List View) → sum_by (λ view. view.weight) views ≡ 2
    → AreNumbersBelow next (flat_map (λ view. view.drawn) views) → AllFit views → TwoKeepRule next views
keeps next views shared_out each_once fits = (
  next,
  refl,
  record {
    small = omega arith;
    few_seats = omega arith;
    shared_out = shared_out;
    each_once = each_once;
    fits = fits;
  },
)

pub returns-clause-numbers : goal.returns-clause-numbers
unfolding numbers_below
returns-clause-numbers c = refl

pub returns-clause-start : goal.returns-clause-start
unfolding numbers_below
returns-clause-start c = keeps 0 (seat_view 2 [] ∷ []) refl (record { moves = []; below = tt; is = refl }) only
  where
    fresh : Fits 2 (seat_view 2 [])
    fresh = record {
      has_limit = λ _. refl;
      few_past = omega arith;
      past_last = λ one. absurd (omega arith);
      spent = λ light. absurd (omega arith);
    }

    only : AllFit (seat_view 2 [] ∷ [])
    only zero view at = subst (Fits 2) (some-injective (seat_view 2 []) view at) fresh
    only (suc k) view at = absurd (some-ne-none view (sym at))

pub returns-clause-in_turn : goal.returns-clause-in_turn
returns-clause-in_turn c =
    let one = drew_two 0 2 (omega arith) (omega arith) in
    let other = drew_two 1 3 (omega arith) (omega arith) in
    let first = seat_view 1 (0 ∷ 2 ∷ []) in
    let second = seat_view 1 (1 ∷ 3 ∷ []) in
    keeps 4 (first ∷ second ∷ []) refl four (two_views first second one other)

pub returns-clause-back : goal.returns-clause-back
returns-clause-back c =
    let first = seat_view 2 (0 ∷ 2 ∷ 1 ∷ 3 ∷ []) in
    keeps 4 (first ∷ seat_view 0 [] ∷ []) refl four (two_views first (seat_view 0 []) both spent)
  where
    both : Fits 2 (seat_view 2 (0 ∷ 2 ∷ 1 ∷ 3 ∷ []))
    both = record {
      has_limit = λ _. refl;
      few_past = omega arith;
      past_last = λ one. absurd (omega arith);
      spent = λ light. absurd (omega arith);
    }

    spent : Fits 2 (seat_view 0 [])
    spent = record {
      has_limit = λ _. refl;
      few_past = omega arith;
      past_last = λ one. absurd (omega arith);
      spent = λ light. refl;
    }

pub returns-clause-twice : goal.returns-clause-twice
unfolding numbers_below
returns-clause-twice c (next, is, whole) =
    let same = subst (λ (n : ℕ). AreNumbersBelow n (0 ∷ 0 ∷ [])) (first_cell 2 is) whole.each_once in
    omega (arith, sum_by-IsPermutation (λ (n : ℕ). n) (0 ∷ 0 ∷ []) (numbers_below 2) same)

pub returns-clause-left_out : goal.returns-clause-left_out
unfolding numbers_below
returns-clause-left_out c (next, is, whole) =
    let same = subst (λ (n : ℕ). AreNumbersBelow n (0 ∷ [])) (first_cell 2 is) whole.each_once in
    omega (arith, length_permutation (0 ∷ []) (numbers_below 2) same)

pub returns-clause-drew_on : goal.returns-clause-drew_on
returns-clause-drew_on c (next, is, whole) =
    let first = whole.fits 0 (seat_view 1 (0 ∷ 2 ∷ 3 ∷ [])) refl in
    let two_below : 2 < 2 = first.past_last refl 1 0 (omega arith) in
    omega (arith, two_below)

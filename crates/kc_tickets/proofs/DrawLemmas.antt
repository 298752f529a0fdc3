-- Each atomic step keeps the rule, and what follows from the rule at the end.
use Rattle.std.proofs.Common.{◌≡◌, ◌≢◌, ℕ, zero, suc, ◌+◌, ◌%◌, ◌^◌, ◌<◌, ◌≤◌, List, [], ◌∷◌, ◌++◌, length, set, Bool}
use Rattle.std.proofs.Common.{true, false, cond, eqb, leb, refl, sym, ap, ◌∙◌, subst, ⊎_elim, arith, length-append}
use Rattle.std.specs.Prelude.{All, sum_by, slice_index}
use Rattle.std.specs.List.{flat_map}
use mathlib.Core.Option.{none, some, some-ne-none, some-injective}
use lib.ListN.{get_elem?}
use Rattle.atomic_table.specs.Table.{State, Me, Act, keeps, carried_after, Allows, Splits, Joins, Valid, stepped, step}
use Rattle.atomic_table.specs.Table.{opening}
use Rattle.atomic_table.proofs.Lists.{at_set, at_snoc, set_again}
use Rattle.std.proofs.Math.Nat.{mod-eq_of_lt}
use Rattle.std.proofs.lemmas.Bool.Decides.{eqb_tells, leb_tells}
use Rattle.std.proofs.lemmas.List.Elements.{filter-append, All-nil, All-head, All-tail}
use Rattle.std.proofs.lemmas.List.Sums.{sum_by-cons, sum_by-append, sum_by_push, length-filter}
use Rattle.std.proofs.lemmas.List.Sorted.{sum_by-IsPermutation}
use Rattle.kc_lemmas.proofs.Lists.{front-push}
use Rattle.kc_lemmas.proofs.Permutations.{IsPermutation-from_weights}
use Rattle.kc_lemmas.proofs.Sums.{sum_by-flat_map, sum_by-ones, sum_by-set_elem, sum_by-at_most_elem}
use Rattle.kc_tickets.specs.declared.tickets.View.{View}
use Rattle.kc_tickets.specs.declared.tickets.Plan.{Plan}
use Rattle.kc_tickets.specs.Tickets.{numbers_below, AreNumbersBelow}
use Rattle.kc_tickets.specs.WholeDraws.{numbers_past, Fits, AreWholeDraws, HasWholeDraws, view_of, first_view, TakesNumber}
use Rattle.kc_tickets.specs.WholeDraws.{FindsLimit, lighter_view, new_view, joined_view, spent_view}
use Rattle.kc_tickets.proofs.NumbersBelow.{numbers_below-zero, length-numbers_below, sum_by-numbers_below-suc}

-- ---- lists of views

-- what all views drew, weighed view by view
weights : (f : ℕ → ℕ) (views : List View) → ℕ
weights f views = sum_by (λ view. sum_by f view.drawn) views

weights_is : (f : ℕ → ℕ) (views : List View) → sum_by f (flat_map (λ view. view.drawn) views) ≡ weights f views
unfolding weights
weights_is f views = sum_by-flat_map f (λ (view : View). view.drawn) views

weights-set : (f : ℕ → ℕ) (views : List View) (k : ℕ) (v w : View) → get_elem? views k ≡ some v
    → weights f (set views k w) + sum_by f v.drawn ≡ weights f views + sum_by f w.drawn
unfolding weights
weights-set f views k v w at = sum_by-set_elem (λ view. sum_by f view.drawn) views k v w at

weights-push : (f : ℕ → ℕ) (views : List View) (w : View)
    → weights f (views ++ w ∷ []) ≡ weights f views + sum_by f w.drawn
unfolding weights
weights-push f views w = sum_by_push (λ (view : View). sum_by f view.drawn) views w

-- the views weigh what the numbers below the next one weigh
weights-whole : {limit seats next : ℕ} {views : List View} (f : ℕ → ℕ) → AreWholeDraws limit seats next views
    → weights f views ≡ sum_by f (numbers_below next)
weights-whole {limit} {seats} {next} {views} f whole =
    sym (weights_is f views)
    ∙ sym (sum_by-IsPermutation f (flat_map (λ (view : View). view.drawn) views) (numbers_below next) whole.each_once)

are_numbers : (views : List View) (next : ℕ) → ((f : ℕ → ℕ) → weights f views ≡ sum_by f (numbers_below next))
    → AreNumbersBelow next (flat_map (λ view. view.drawn) views)
are_numbers views next same =
    IsPermutation-from_weights eqb eqb_tells (flat_map (λ (view : View). view.drawn) views) (numbers_below next)
    (λ f. weights_is f views ∙ same f)

abbrev AllFit : ℕ → List View → Type 0
AllFit limit views = (k : ℕ) (v : View) → get_elem? views k ≡ some v → Fits limit v

AllFit-set : (limit : ℕ) (views : List View) (k : ℕ) (w : View) → AllFit limit views → Fits limit w
    → AllFit limit (set views k w)
AllFit-set limit views k w others mine j v at = ⊎_elim
    (λ (t : (j ≡ k) × (w ≡ v)). subst (Fits limit) t.1 mine)
    (λ (t : (j ≢ k) × (get_elem? views j ≡ some v)). others j v t.1)
    (at_set views k j w v at)

AllFit-push : (limit : ℕ) (views : List View) (w : View) → AllFit limit views → Fits limit w
    → AllFit limit (views ++ w ∷ [])
AllFit-push limit views w others mine j v at = ⊎_elim
    (λ (old : get_elem? views j ≡ some v). others j v old)
    (λ (new : w ≡ v). subst (Fits limit) new mine)
    (at_snoc views w v j at)

-- a view that has drawn nothing fits, if it has weight
Fits-fresh : (limit weight : ℕ) → 0 < weight → Fits limit (view_of limit weight [])
Fits-fresh limit weight heavy = record {
  has_limit = λ _. refl;
  few_past = omega arith;
  past_last = λ _. All-nil (λ number. number < limit);
  spent = λ light. refl;
}

Fits-spent : (limit : ℕ) → Fits limit spent_view
Fits-spent limit = record {
  has_limit = λ heavy. absurd (omega arith);
  few_past = omega arith;
  past_last = λ one. absurd (omega arith);
  spent = λ light. refl;
}

-- ---- numbers at or past the limit

none_past : (limit : ℕ) (numbers : List ℕ) → All (λ number. number < limit) numbers → numbers_past limit numbers ≡ []
none_past limit [] below = refl
none_past limit (x ∷ xs) below = ⊎_elim
    (λ (t : (leb limit x ≡ true) × (limit ≤ x)).
    let less = All-head (λ number. number < limit) x xs below in
    absurd (omega arith))
    (λ (t : (leb limit x ≡ false) × (x < limit)).
    ap (λ (b : Bool). cond b (x ∷ numbers_past limit xs) (numbers_past limit xs)) t.0
    ∙ none_past limit xs (All-tail (λ number. number < limit) x xs below))
    (leb_tells limit x)

-- 1 for a number at or past the limit, and 0 below it
past_one : ℕ → ℕ → ℕ
past_one limit number = cond (leb limit number) 1 0

past_one-past : (limit number : ℕ) → limit ≤ number → past_one limit number ≡ 1
unfolding past_one
past_one-past limit number later = ⊎_elim
    (λ (t : (leb limit number ≡ true) × (limit ≤ number)). ap (λ b. cond b 1 0) t.0)
    (λ (t : (leb limit number ≡ false) × (number < limit)). absurd (omega arith))
    (leb_tells limit number)

length-past : (limit : ℕ) (numbers : List ℕ) → length (numbers_past limit numbers) ≡ sum_by (past_one limit) numbers
unfolding past_one
length-past limit numbers = length-filter (leb limit) numbers

-- of the numbers below n, all from the limit on are past it
few_below : (limit n : ℕ) → n ≤ limit + sum_by (past_one limit) (numbers_below n)
few_below limit zero = omega arith
few_below limit (suc n) = ⊎_elim
    (λ (t : (leb limit n ≡ true) × (limit ≤ n)).
    omega (arith, few_below limit n, past_one-past limit n t.1, sum_by-numbers_below-suc (past_one limit) n))
    (λ (t : (leb limit n ≡ false) × (n < limit)). omega arith)
    (leb_tells limit n)

-- so the next number is at most as far past the limit as there are seats
next_is_near : {limit seats next : ℕ} {views : List View} → AreWholeDraws limit seats next views → next ≤ limit + seats
unfolding weights
next_is_near {limit} {seats} {next} {views} whole =
    let few = sum_by-at_most_elem (λ v. sum_by (past_one limit) v.drawn) (λ v. v.weight) views
    (λ k v at. omega (arith, (whole.fits k v at).few_past, length-past limit v.drawn)) in
    omega (arith, few_below limit next, weights-whole (past_one limit) whole, few, whole.shared_out)

one_past : (limit number : ℕ) → length (numbers_past limit (number ∷ [])) ≤ 1
one_past limit number =
    elim (leb limit number) as (λ b. length (cond b (number ∷ []) []) ≤ 1) [ true ↦ omega arith | false ↦ omega arith ]

-- one more number is at most one more past the limit
few_past-push : (limit : ℕ) (numbers : List ℕ) (number : ℕ) → All (λ n. n < limit) numbers
    → length (numbers_past limit (numbers ++ number ∷ [])) ≤ 1
few_past-push limit numbers number below =
    let parts = ap length (filter-append (leb limit) numbers (number ∷ [])) in
    let before = none_past limit numbers below in
    let none_before = ap length (ap (λ (xs : List ℕ). xs ++ numbers_past limit (number ∷ [])) before) in
    omega (arith, parts, none_before, one_past limit number)

-- ---- the rule at the start

pub HasWholeDraws-opening : (plan : Plan) → plan.limit ≤ 2 ^ 40 → 1 ≤ plan.seats → plan.seats ≤ 64
    → HasWholeDraws {S = Unit {0}} plan (opening (0 ∷ plan.limit ∷ plan.seats ∷ []) [] (first_view plan))
unfolding weights
HasWholeDraws-opening plan small seated few = (
  0,
  refl,
  record {
    small = small;
    few_seats = few;
    shared_out = omega arith;
    each_once = are_numbers (first_view plan ∷ []) 0 (λ f. ap (sum_by f) (sym numbers_below-zero));
    fits = only;
  },
)
  where
    only : (k : ℕ) (view : View) → get_elem? (first_view plan ∷ []) k ≡ some view → Fits plan.limit view
    only zero view at = subst (Fits plan.limit) (some-injective _ _ at) (Fits-fresh plan.limit plan.seats seated)
    only (suc k) view at = absurd (some-ne-none view (sym at))

-- ---- a draw

-- the seat `id`, of weight 1, which has drawn no number at or past its limit
record MayDraw (limit seats next : ℕ) (views : List View) (id : ℕ) (v : View) : Type 0 where
  whole : AreWholeDraws limit seats next views
  at : get_elem? views id ≡ some v
  one : v.weight ≡ 1
  below : All (λ number. number < v.limit) v.drawn

-- the views after it drew the next number
abbrev after_draw : ℕ → List View → ℕ → View → List View
after_draw next views id v = set views id (view_of v.limit v.weight (v.drawn ++ next ∷ []))

drawn_on : {limit seats next : ℕ} {views : List View} {id : ℕ} {v : View} → MayDraw limit seats next views id v
    → AreWholeDraws limit seats (next + 1) (after_draw next views id v)
drawn_on {limit} {seats} {next} {views} {id} {v} may =
    let w = view_of v.limit v.weight (v.drawn ++ next ∷ []) in
    let whole = may.whole in
    let one = may.one in
    let same : v.limit ≡ limit = (whole.fits id v may.at).has_limit (omega (arith, one)) in
    let below = subst (λ (l : ℕ). All (λ number. number < l) v.drawn) same may.below in
    record {
      small = whole.small;
      few_seats = whole.few_seats;
      shared_out = omega (arith, sum_by-set_elem (λ view. view.weight) views id v w may.at, whole.shared_out);
      each_once = are_numbers (set views id w) (next + 1) weighed;
      fits = AllFit-set limit views id w whole.fits (record {
        has_limit = λ _. same;
        few_past = rw one (few_past-push limit v.drawn next below);
        past_last = λ _. rw (front-push v.drawn next) below;
        spent = λ light. absurd (omega (arith, one));
      });
    }
  where
    weighed : (f : ℕ → ℕ) → weights f (after_draw next views id v) ≡ sum_by f (numbers_below (next + 1))
    weighed f =
        let more : next + 1 ≡ suc next = omega arith in
        omega (
          arith,
          weights-set f views id v (view_of v.limit v.weight (v.drawn ++ next ∷ [])) may.at,
          weights-whole f may.whole,
          sum_by_push f v.drawn next,
          sum_by-numbers_below-suc f next,
          ap (λ n. sum_by f (numbers_below n)) more,
        )

-- a view has at most as many numbers as were drawn
drawn_before : {limit seats next : ℕ} {views : List View} (id : ℕ) (v : View) → AreWholeDraws limit seats next views
    → get_elem? views id ≡ some v → length v.drawn ≤ next
drawn_before {limit} {seats} {next} {views} id v whole at =
    omega (
      arith,
      weights-set (λ _. 1) views id v spent_view at,
      weights-whole (λ _. 1) whole,
      sum_by-ones v.drawn,
      sum_by-ones (numbers_below next),
      length-numbers_below next,
    )

-- what a step on cell i leaves, if the cells were `ws` and become n there
abbrev StepLeaves : {S : Type 0} → Plan → State S View → ℕ → Me S View → ℕ → ℕ → List ℕ → (ℕ → Me S View → Type 0)
    → Type 0
StepLeaves {S} plan s id me i n ws then =
    (u : View) × (a : Act S) × Valid s.homes me.1 a
    × HasWholeDraws plan (stepped record { words = ws; homes = s.homes; views = s.views } i n id me.1 u a)
    × then (slice_index ws i) (u, carried_after me.1 a)

-- a draw: one fetch_add on cell 0
pub draw_keeps : {S : Type 0} (plan : Plan) (slots id : ℕ) (me : Me S View) → me.0.weight ≡ 1
    → All (λ number. number < me.0.limit) me.0.drawn
    → Allows (HasWholeDraws plan) slots id me 0 (λ n. (n + 1) % 2 ^ 64) (TakesNumber (step slots 0 1 0 none) me)
draw_keeps {S} plan slots id me one below s (next, is, whole) long at fits =
    let near = next_is_near whole in
    let small : (next + 1) % 2 ^ 64 ≡ next + 1 = mod-eq_of_lt (omega (arith, whole.small, whole.few_seats)) in
    let cells = ap (λ (n : ℕ). n ∷ plan.limit ∷ plan.seats ∷ []) small in
    let drawn = drawn_on (record { whole = whole; at = at; one = one; below = below }) in
    let w = view_of me.0.limit me.0.weight (me.0.drawn ++ next ∷ []) in
    let takes = TakesNumber (step slots 0 1 0 none) me in
    let P : List ℕ → Type 0 = λ ws. StepLeaves plan s id me 0 ((slice_index ws 0 + 1) % 2 ^ 64) ws takes in
    subst P (sym is) (w, keeps, tt, (next + 1, cells, drawn), (refl, drawn_before id me.0 whole at))

-- what decides: one load of cell 1
pub decision_keeps : {S : Type 0} (plan : Plan) (slots id : ℕ) (me : Me S View) → 0 < me.0.weight
    → Allows (HasWholeDraws plan) slots id me 1 (λ n. n) (FindsLimit (step slots 1 0 0 none) me)
decision_keeps {S} plan slots id me heavy s (next, is, whole) long at fits =
    let again = subst (AreWholeDraws plan.limit plan.seats next) (sym (set_again s.views id me.0 at)) whole in
    let limit = (whole.fits id me.0 at).has_limit heavy in
    let finds = FindsLimit (step slots 1 0 0 none) me in
    let P : List ℕ → Type 0 = λ ws. StepLeaves plan s id me 1 (slice_index ws 1) ws finds in
    subst P (sym is) (me.0, keeps, tt, (next, refl, again), (refl, sym limit))

-- a seat is made: one load of cell 0
pub new_seat_keeps : {S : Type 0} (plan : Plan) (id : ℕ) (v : View) → 1 < v.weight → v.drawn ≡ []
    → Splits {S = S} (HasWholeDraws plan) id v (lighter_view v) (new_view v)
new_seat_keeps plan id v heavy fresh s (next, is, whole) at =
    let views' = set s.views id (lighter_view v) in
    let mine = whole.fits id v at in
    let same : v.limit ≡ plan.limit = mine.has_limit (omega arith) in
    let lighter : Fits plan.limit (lighter_view v) = record {
      has_limit = λ _. same;
      few_past = rw fresh (omega arith);
      past_last = λ _. rw fresh (All-nil (λ number. number < plan.limit));
      spent = λ light. absurd (omega arith);
    } in
    let fresh_one = Fits-fresh plan.limit 1 (omega arith) in
    let new : Fits plan.limit (new_view v) = subst (λ (limit : ℕ). Fits plan.limit (view_of limit 1 [])) (sym same) fresh_one in
    let old_fit = AllFit-set plan.limit s.views id (lighter_view v) whole.fits lighter in (
      next,
      is,
      record {
        small = whole.small;
        few_seats = whole.few_seats;
        shared_out = omega (
          arith,
          sum_by_push (λ (u : View). u.weight) views' (new_view v),
          sum_by-set_elem (λ u. u.weight) s.views id v (lighter_view v) at,
          whole.shared_out,
        );
        each_once = are_numbers (views' ++ new_view v ∷ []) next
            (λ f. omega (
              arith,
              weights-push f views' (new_view v),
              weights-set f s.views id v (lighter_view v) at,
              weights-whole f whole,
            ));
        fits = AllFit-push plan.limit views' (new_view v) old_fit new;
      },
    )

-- two views that fit do so together
Fits-joined : (limit : ℕ) (v w : View) → 0 < v.weight → 0 < w.weight → Fits limit v → Fits limit w
    → Fits limit (joined_view v w)
Fits-joined limit v w heavy other_heavy mine theirs = record {
  has_limit = λ _. mine.has_limit heavy;
  few_past = omega (
    arith,
    ap length (filter-append (leb limit) v.drawn w.drawn),
    length-append (numbers_past limit v.drawn) (numbers_past limit w.drawn),
    mine.few_past,
    theirs.few_past,
  );
  past_last = λ one. absurd (omega arith);
  spent = λ light. absurd (omega arith);
}

-- a seat comes back: one load of cell 0
pub return_keeps : {S : Type 0} (plan : Plan) (id : ℕ) (v : View) (other : ℕ) (w : View) → 0 < v.weight → 0 < w.weight
    → Joins {S = S} (HasWholeDraws plan) id v other w (joined_view v w) spent_view
return_keeps plan id v other w heavy other_heavy s (next, is, whole) at apart there =
    let both = joined_view v w in
    let views' = set s.views id both in
    let was : get_elem? s.views other ≡ some w = ⊎_elim
    (λ (t : (other ≡ id) × (both ≡ w)). absurd (apart t.0))
    (λ (t : (other ≢ id) × (get_elem? s.views other ≡ some w)). t.1)
    (at_set s.views id other both w there) in
    let joined = Fits-joined plan.limit v w heavy other_heavy (whole.fits id v at) (whole.fits other w was) in
    let one_fit = AllFit-set plan.limit s.views id both whole.fits joined in (
      next,
      is,
      record {
        small = whole.small;
        few_seats = whole.few_seats;
        shared_out = omega (
          arith,
          sum_by-set_elem (λ u. u.weight) s.views id v both at,
          sum_by-set_elem (λ u. u.weight) views' other w spent_view there,
          whole.shared_out,
        );
        each_once = are_numbers (set views' other spent_view) next (λ f. omega (
          arith,
          weights-set f s.views id v both at,
          weights-set f views' other w spent_view there,
          sum_by-append f v.drawn w.drawn,
          weights-whole f whole,
        ));
        fits = AllFit-set plan.limit views' other spent_view one_fit (Fits-spent plan.limit);
      },
    )

-- ---- the end

-- views without weight have no numbers
no_weight : (f : ℕ → ℕ) (limit : ℕ) (views : List View) → AllFit limit views → sum_by (λ view. view.weight) views ≡ 0
    → weights f views ≡ 0
unfolding weights
no_weight f limit [] fits light = refl
no_weight f limit (x ∷ xs) fits light =
    let parts = sum_by-cons (λ (v : View). v.weight) x xs in
    let mine : x.drawn ≡ [] = (fits zero x refl).spent (omega arith) in
    let rest = no_weight f limit xs (λ k. fits (suc k)) (omega arith) in
    omega (arith, sum_by-cons (λ (v : View). sum_by f v.drawn) x xs, ap (sum_by f) mine, rest)

-- a view with all the weight has drawn every number below the next one
pub whole_view_has_all : {limit seats next : ℕ} {views : List View} (id : ℕ) (v : View)
    → AreWholeDraws limit seats next views
    → get_elem? views id ≡ some v → v.weight ≡ seats → AreNumbersBelow next v.drawn
whole_view_has_all {limit} {seats} {next} {views} id v whole at all =
    let others = set views id spent_view in
    let fits = AllFit-set limit views id spent_view whole.fits (Fits-spent limit) in
    let weight = sum_by-set_elem (λ view. view.weight) views id v spent_view at in
    let light : sum_by (λ view. view.weight) others ≡ 0 = omega (arith, weight, whole.shared_out) in
    IsPermutation-from_weights eqb eqb_tells v.drawn (numbers_below next)
    (λ f. omega (
      arith,
      weights-set f views id v spent_view at,
      no_weight f limit others fits light,
      weights-whole f whole,
    ))

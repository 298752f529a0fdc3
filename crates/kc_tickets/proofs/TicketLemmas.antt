-- Whether a seat is done, and what the seats' numbers are when all are.
use Rattle.std.proofs.Common.{◌≡◌, ℕ, zero, suc, ◌+◌, ◌-◌, ◌<◌, ◌≤◌, List, [], ◌∷◌, ◌++◌, length, get_or, Bool, true}
use Rattle.std.proofs.Common.{false, cond, eqb, ltb, refl, sym, ap, ◌∙◌, subst, arith, append-nil, lt_of_not-le}
use Rattle.std.specs.Prelude.{All, filter, sum_by, ◌↔◌, IsTrue}
use Rattle.std.specs.List.{flat_map}
use Rattle.std.specs.List.Sorted.{IsPermutation}
use Rattle.std.proofs.lemmas.Bool.{lt-ltb, le-ltb}
use Rattle.std.proofs.lemmas.Bool.Decides.{eqb_tells}
use Rattle.std.proofs.lemmas.List.{get_or_default, length_push}
use Rattle.std.proofs.lemmas.List.Concat.{flat_map-append, length-flat_map}
use Rattle.std.proofs.lemmas.List.Elements.{All-push, All-head, All-tail, Contains-append_left, filter-append}
use Rattle.std.proofs.lemmas.List.Quantifiers.{Any-push}
use Rattle.std.proofs.lemmas.List.Sorted.{IsPermutation-refl, Contains-permutation}
use Rattle.std.proofs.lemmas.List.Sorted.{length_permutation, sum_by-IsPermutation}
use Rattle.std.proofs.lemmas.List.Sums.{sum_by-append, length-filter, count_by-le-length}
use Rattle.atomic_table.specs.Seated.{TableId}
use Rattle.atomic_table.specs.Table.{Me}
use Rattle.kc_tickets.specs.declared.tickets.View.{View}
use Rattle.kc_tickets.specs.WholeDraws.{seat_of, view_of}
use Rattle.kc_tickets.specs.Tickets.{SeatSeen, IsDone, Draws, answers_of, numbers_below, AreNumbersBelow}
use Rattle.kc_lemmas.proofs.Permutations.{IsPermutation-from_weights, IsPermutation-filter}
use Rattle.kc_tickets.proofs.NumbersBelow.{length-numbers_below, numbers_below-zero, numbers_below-suc, below-from_Contains}

-- a seat that isn't done has only numbers below the limit
pub all_below : (seat : SeatSeen) → ¬ IsDone seat → All (λ number. number < seat.limit) seat.drawn
all_below seat more k d within =
    let number = get_or seat.drawn k d in
    lt_of_not-le (λ later. more (k, number, within, get_or_default seat.drawn k number d within, later))

pub not_done : (seat : SeatSeen) → All (λ number. number < seat.limit) seat.drawn → ¬ IsDone seat
not_done seat below (k, number, within, is, later) =
    let less : get_or seat.drawn k number < seat.limit = below k number within in
    omega (arith, is)

-- a seat that has drawn nothing is open
pub fresh_is_open : (seat : SeatSeen) → seat.drawn ≡ [] → IsTrue false ↔ IsDone seat
fresh_is_open seat fresh = (λ never. absurd (cc never), λ (k, number, within, is, later). absurd (omega (arith, within, ap length fresh)))

-- A seat after the two steps of a draw: it found this number and this limit.
pub record Stepped {S : Type 0} (table table' : TableId) (me me' : Me S View) (number limit : ℕ) : Type 0 where
  pub drawn : Draws (seat_of table me.0) (seat_of table' me'.0) number
  pub limit_is : limit ≡ me.0.limit
  pub weight : me'.0.weight ≡ me.0.weight
  pub slots : me'.1 ≡ me.1
  pub few : length me.0.drawn ≤ number

-- the two steps: from the seat m0 one draw makes m1, and one load of the limit m2
pub record TwoSteps {S : Type 0} (t0 t1 t2 : TableId) (m0 m1 m2 : Me S View) (number limit : ℕ) : Type 0 where
  pub drew_at : t1 ≡ t0
  pub drew : (m1 ≡ (view_of m0.0.limit m0.0.weight (m0.0.drawn ++ number ∷ []), m0.1)) × (length m0.0.drawn ≤ number)
  pub decided_at : t2 ≡ t1
  pub decided : (m2 ≡ m1) × (limit ≡ m1.0.limit)

pub two_steps : {S : Type 0} {t0 t1 t2 : TableId} {m0 m1 m2 : Me S View} {number limit : ℕ}
    → TwoSteps t0 t1 t2 m0 m1 m2 number limit → Stepped t0 t2 m0 m2 number limit
two_steps steps =
    let me = steps.decided.0 ∙ steps.drew.0 in
    record {
      drawn = λ k. seat_of ((steps.decided_at ∙ steps.drew_at) k) (me k).0;
      limit_is = steps.decided.1 ∙ ap (λ m. m.0.limit) steps.drew.0;
      weight = ap (λ m. m.0.weight) me;
      slots = ap (λ m. m.1) me;
      few = steps.drew.1;
    }

module _ {S : Type 0} {table table' : TableId} {me me' : Me S View} {number limit : ℕ} (steps : Stepped table table' me me' number limit) where
  -- a number below the limit leaves the seat open
  pub stays_open : ¬ IsDone (seat_of table me.0) → number < limit → ¬ IsDone (seat_of table' me'.0)
  stays_open more less =
      let below : number < me.0.limit = omega (arith, steps.limit_is) in
      let all = All-push (λ n. n < me.0.limit) me.0.drawn number (all_below (seat_of table me.0) more) below in
      let after : SeatSeen = record { table = table; limit = me.0.limit; drawn = me.0.drawn ++ number ∷ [] } in
      subst (λ (d : SeatSeen). ¬ IsDone d) (sym steps.drawn) (not_done after all)

  -- a number at or past it ends the draws
  pub ends : limit ≤ number → IsDone (seat_of table' me'.0)
  ends later =
      let past : me.0.limit ≤ number = omega (arith, steps.limit_is) in
      subst IsDone (sym steps.drawn) (Any-push (λ n. me.0.limit ≤ n) me.0.drawn number past)

  -- a seat's draws return at most as many numbers as there are
  pub few_answers : number < limit → length (answers_of (seat_of table' me'.0)) ≤ me.0.limit
  few_answers less =
      let same = ap (λ (d : SeatSeen). length d.drawn) steps.drawn in
      omega (
        arith,
        same,
        length_push me.0.drawn number,
        length-filter (λ n. ltb n me'.0.limit) me'.0.drawn,
        count_by-le-length (λ n. ltb n me'.0.limit) me'.0.drawn,
        steps.limit_is,
        steps.few,
      )

-- ---- the seats together

-- all that the seats drew
abbrev pub all_drawn : List SeatSeen → List ℕ
all_drawn seats = flat_map (λ (seat : SeatSeen). seat.drawn) seats

all_but_one : (seats others : List SeatSeen) (seat : SeatSeen) → seats ≡ others ++ seat ∷ []
    → all_drawn seats ≡ all_drawn others ++ (seat.drawn ++ [])
all_but_one seats others seat is = ap all_drawn is ∙ flat_map-append (λ (s : SeatSeen). s.drawn) others (seat ∷ [])

-- the last seat's numbers go to the seat that takes it in
pub takes_in : (drawn : List ℕ) (seats others : List SeatSeen) (seat : SeatSeen) (whole : List ℕ)
    → seats ≡ others ++ seat ∷ [] → IsPermutation drawn (all_drawn seats ++ whole)
    → IsPermutation drawn (all_drawn others ++ (whole ++ seat.drawn))
takes_in drawn seats others seat whole is same =
    IsPermutation-from_weights eqb eqb_tells drawn (all_drawn others ++ (whole ++ seat.drawn)) (λ f.
    let parts = all_but_one seats others seat is in
    omega (
      arith,
      sum_by-IsPermutation f drawn (all_drawn seats ++ whole) same,
      sum_by-append f (all_drawn seats) whole,
      ap (sum_by f) parts,
      sum_by-append f (all_drawn others) (seat.drawn ++ []),
      sum_by-append f seat.drawn [],
      sum_by-append f (all_drawn others) (whole ++ seat.drawn),
      sum_by-append f whole seat.drawn,
    ))

-- the first seat that takes others in
pub begins_with : (seats others : List SeatSeen) (seat : SeatSeen) → seats ≡ others ++ seat ∷ []
    → IsPermutation (all_drawn seats) (all_drawn others ++ seat.drawn)
begins_with seats others seat is =
    let parts = all_but_one seats others seat is ∙ ap (λ xs. all_drawn others ++ xs) (append-nil seat.drawn) in
    subst (IsPermutation (all_drawn seats)) parts (IsPermutation-refl (all_drawn seats))

-- a seat that is done has a number at or past the limit, so the next number is past it
pub limit_reached : (limit next : ℕ) (seats : List SeatSeen) → 0 < length seats
    → All (λ (seat : SeatSeen). seat.limit ≡ limit) seats → All IsDone seats → AreNumbersBelow next (all_drawn seats)
    → limit ≤ next
limit_reached limit next [] some same done whole = absurd (omega arith)
limit_reached limit next (x ∷ xs) some same done whole =
    let (k, number, within, is, later) = All-head IsDone x xs done in
    let stands = Contains-append_left x.drawn (all_drawn xs) number (k, within, is) in
    let among = Contains-permutation (all_drawn (x ∷ xs)) (numbers_below next) number whole stands in
    let less = below-from_Contains next number among in
    let limit_is = All-head (λ (seat : SeatSeen). seat.limit ≡ limit) x xs same in
    omega arith

-- what was returned is what was drawn below the limit
answers_is : (limit : ℕ) (seats : List SeatSeen) → All (λ (seat : SeatSeen). seat.limit ≡ limit) seats
    → flat_map answers_of seats ≡ filter (λ number. ltb number limit) (all_drawn seats)
answers_is limit [] same = refl
answers_is limit (x ∷ xs) same =
    ap (λ l. filter (λ number. ltb number l) x.drawn ++ flat_map answers_of xs) (All-head (λ (seat : SeatSeen). seat.limit ≡ limit) x xs same)
    ∙ ap (λ rest. filter (λ number. ltb number limit) x.drawn ++ rest) (answers_is limit xs (All-tail (λ (seat : SeatSeen). seat.limit ≡ limit) x xs same))
    ∙ sym (filter-append (λ number. ltb number limit) x.drawn (all_drawn xs))

-- the numbers below next that are below the limit
all_below_limit : (limit n : ℕ) → n ≤ limit → filter (λ number. ltb number limit) (numbers_below n) ≡ numbers_below n
all_below_limit limit zero few = ap (filter (λ number. ltb number limit)) numbers_below-zero ∙ sym numbers_below-zero
all_below_limit limit (suc n) few =
    let passes : ltb n limit ≡ true = lt-ltb n limit (omega arith) in
    ap (filter (λ number. ltb number limit)) (numbers_below-suc n)
    ∙ filter-append (λ number. ltb number limit) (numbers_below n) (n ∷ [])
    ∙ ap (λ xs. xs ++ filter (λ number. ltb number limit) (n ∷ [])) (all_below_limit limit n (omega arith))
    ∙ ap (λ b. numbers_below n ++ cond b (n ∷ []) []) passes
    ∙ sym (numbers_below-suc n)

below_limit : (limit more : ℕ)
    → filter (λ number. ltb number limit) (numbers_below (limit + more)) ≡ numbers_below limit
below_limit limit zero =
    let same : limit + 0 ≡ limit = omega arith in
    ap (λ n. filter (λ number. ltb number limit) (numbers_below n)) same ∙ all_below_limit limit limit (omega arith)
below_limit limit (suc more) =
    let one_more : limit + suc more ≡ suc (limit + more) = omega arith in
    let fails : ltb (limit + more) limit ≡ false = le-ltb (limit + more) limit (omega arith) in
    ap (λ n. filter (λ number. ltb number limit) (numbers_below n)) one_more
    ∙ ap (filter (λ number. ltb number limit)) (numbers_below-suc (limit + more))
    ∙ filter-append (λ number. ltb number limit) (numbers_below (limit + more)) ((limit + more) ∷ [])
    ∙ ap (λ b. filter (λ number. ltb number limit) (numbers_below (limit + more)) ++ cond b ((limit + more) ∷ []) []) fails
    ∙ append-nil (filter (λ number. ltb number limit) (numbers_below (limit + more)))
    ∙ below_limit limit more

-- if all seats are done, the draws returned each number below the limit, once
pub all_answers : (limit next : ℕ) (seats : List SeatSeen) → 0 < length seats
    → All (λ (seat : SeatSeen). seat.limit ≡ limit) seats → AreNumbersBelow next (all_drawn seats) → All IsDone seats
    → AreNumbersBelow limit (flat_map answers_of seats)
all_answers limit next seats some same whole done =
    let reached = limit_reached limit next seats some same done whole in
    let total : limit + (next - limit) ≡ next = omega arith in
    let p : ℕ → Bool = λ number. ltb number limit in
    let kept = IsPermutation-filter eqb eqb_tells p (all_drawn seats) (numbers_below next) whole in
    subst (λ xs. IsPermutation xs (numbers_below limit)) (sym (answers_is limit seats same))
    (subst (IsPermutation (filter p (all_drawn seats))) (ap (λ n. filter p (numbers_below n)) (sym total) ∙ below_limit limit (next - limit)) kept)

pub answer_count : (limit : ℕ) (seats : List SeatSeen) → AreNumbersBelow limit (flat_map answers_of seats)
    → sum_by (λ (seat : SeatSeen). length (answers_of seat)) seats ≡ limit
answer_count limit seats whole =
    sym (length-flat_map answers_of seats)
    ∙ sym (length_permutation (flat_map answers_of seats) (numbers_below limit) whole) ∙ length-numbers_below limit

-- the seat that took all others in has drawn what they all drew
pub nothing_left : (drawn : List ℕ) (seats : List SeatSeen) (whole : List ℕ) → length seats ≡ 0
    → IsPermutation drawn (all_drawn seats ++ whole) → IsPermutation drawn whole
nothing_left drawn [] whole no_more same = same
nothing_left drawn (x ∷ xs) whole no_more same = absurd (omega arith)

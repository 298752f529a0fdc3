-- The rule of the tickets' cells and of the seats' views, which holds between any two atomic steps, in whatever order
-- threads take them, and the effect of each step on a view. It is this project's own.
-- A cell is an atomic word of the table. Cell 0 has the next number, cell 1 the limit, and cell 2 the number of seats.
use Rattle.std.specs.Prelude.{◌≡◌, ℕ, ◌+◌, ◌-◌, ◌^◌, ◌<◌, ◌≤◌, List, [], ◌∷◌, ◌++◌, length, take, filter, All, nat_le}
use Rattle.std.specs.Prelude.{sum_by}
use Rattle.std.specs.List.{flat_map}
use mathlib.Core.Option.{some}
use lib.ListN.{get_elem?}
use Rattle.atomic_table.specs.Table.{State, Step, Me}
use Rattle.kc_tickets.specs.declared.tickets.View.{View}
use Rattle.kc_tickets.specs.declared.tickets.Plan.{Plan}
use Rattle.atomic_table.specs.Seated.{TableId}
use Rattle.kc_tickets.specs.Tickets.{AreNumbersBelow, SeatSeen}

-- the numbers at or past the limit
abbrev pub numbers_past : ℕ → List ℕ → List ℕ
numbers_past limit numbers = filter (λ number. nat_le limit number) numbers

-- all but the last
abbrev pub front : List ℕ → List ℕ
front numbers = take (length numbers - 1) numbers

-- A view with weight has the limit. It has at most as many numbers at or past the limit as its weight, and with weight
-- 1 such a number can only be its last. A view without weight is spent, and has no numbers.
pub record Fits (limit : ℕ) (view : View) : Type 0 where
  pub has_limit : 0 < view.weight → view.limit ≡ limit
  pub few_past : length (numbers_past limit view.drawn) ≤ view.weight
  pub past_last : view.weight ≡ 1 → All (λ number. number < limit) (front view.drawn)
  pub spent : view.weight ≡ 0 → view.drawn ≡ []

-- The views share out the seats, one for each unit of weight. Together they drew each number below the next one once,
-- and no other number.
pub record AreWholeDraws (limit seats next : ℕ) (views : List View) : Type 0 where
  pub small : limit ≤ 2 ^ 40
  pub few_seats : seats ≤ 64
  pub shared_out : sum_by (λ view. view.weight) views ≡ seats
  pub each_once : AreNumbersBelow next (flat_map (λ view. view.drawn) views)
  pub fits : (k : ℕ) (view : View) → get_elem? views k ≡ some view → Fits limit view

-- the rule: the cells have the next number, the limit and the number of seats, and the draws are whole
abbrev pub HasWholeDraws : {S : Type 0} → Plan → State S View → Type 0
HasWholeDraws plan table =
    (next : ℕ) × (table.words ≡ next ∷ plan.limit ∷ plan.seats ∷ [])
    × AreWholeDraws plan.limit plan.seats next table.views

abbrev pub view_of : ℕ → ℕ → List ℕ → View
view_of limit weight drawn = record { limit = limit; weight = weight; drawn = drawn }

-- at the start one seat has the whole weight
abbrev pub first_view : Plan → View
first_view plan = view_of plan.limit plan.seats []

-- A draw is one fetch_add of 1 on cell 0. The view gets the number found there, at its end. All seats together drew as
-- many numbers before as that number, so this view has no more than that.
abbrev pub TakesNumber : {S : Type 0} → Step S → Me S View → ℕ → Me S View → Type 0
TakesNumber step me found now =
    (now ≡ (view_of me.0.limit me.0.weight (me.0.drawn ++ found ∷ []), me.1)) × (length me.0.drawn ≤ found)

-- One load of cell 1, which finds the limit, decides whether the draw returns its number. The view does not change.
abbrev pub FindsLimit : {S : Type 0} → Step S → Me S View → ℕ → Me S View → Type 0
FindsLimit step me found now = (now ≡ me) × (found ≡ me.0.limit)

-- A seat is made at one load of cell 0: the first seat's view loses one unit of weight, and the new one has it.
abbrev pub lighter_view : View → View
lighter_view view = view_of view.limit (view.weight - 1) view.drawn

abbrev pub new_view : View → View
new_view view = view_of view.limit 1 []

-- A seat joins another at one load of cell 0: the other has both weights and all numbers, and the first is spent.
abbrev pub joined_view : View → View → View
joined_view view other = view_of view.limit (view.weight + other.weight) (view.drawn ++ other.drawn)

abbrev pub spent_view : View
spent_view = view_of 0 0 []

-- a seat as callers see it
abbrev pub seat_of : TableId → View → SeatSeen
seat_of table view = record { table = table; limit = view.limit; drawn = view.drawn }

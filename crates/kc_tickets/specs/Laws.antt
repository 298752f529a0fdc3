-- Laws for callers of the tickets, and the table of the worked rows.
use Rattle.std.specs.Prelude.{◌≡◌, ◌↔◌, ℕ, ◌<◌, ◌∷◌, [], List, length, All, Contains, nat_eq}
use Rattle.std.specs.List.{IsDistinct}
use Rattle.atomic_table.specs.Table.{State}
use Rattle.kc_tickets.specs.declared.tickets.View.{View}
use Rattle.kc_tickets.specs.declared.tickets.Plan.{Plan}
use Rattle.kc_tickets.specs.Tickets.{AreNumbersBelow}
use Rattle.kc_tickets.specs.WholeDraws.{HasWholeDraws, view_of}

-- they contain each number below n once, and no other number
abbrev pub EachStandsOnce : Type 0
EachStandsOnce =
    (n : ℕ) (numbers : List ℕ) → AreNumbersBelow n numbers
    → IsDistinct nat_eq numbers × ((number : ℕ) → Contains numbers number ↔ (number < n))

-- n distinct numbers below n are all numbers below n
abbrev pub NoneIsLeftOut : Type 0
NoneIsLeftOut =
    (n : ℕ) (numbers : List ℕ) → IsDistinct nat_eq numbers → All (λ number. number < n) numbers → length numbers ≡ n
    → (number : ℕ) → number < n → Contains numbers number

-- Tickets with the limit 2 and two seats keep the rule if cell 0 holds the next number and these are the views.
abbrev pub TwoKeepRule : ℕ → List View → Type 0
TwoKeepRule next views =
    let plan : Plan = record { limit = 2; seats = 2 } in
    let table : State (Unit {0}) View = record { words = next ∷ 2 ∷ 2 ∷ []; homes = []; views = views } in
    HasWholeDraws plan table

-- a view of one of them, with the weight of so many seats
abbrev pub seat_view : ℕ → List ℕ → View
seat_view weight drawn = view_of 2 weight drawn

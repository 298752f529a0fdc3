-- Numbered tickets as callers see them, and the seats that draw them. They are this project's own.
use Rattle.std.specs.Prelude.{◌≡◌, ℕ, ◌≤◌, ◌∷◌, [], ◌++◌, List, Any, filter, nat_lt}
use Rattle.std.specs.List.{range_with_len}
use Rattle.std.specs.List.Sorted.{IsPermutation}
use Rattle.atomic_table.specs.Seated.{TableId}

-- Tickets: the table of their cells, the limit below which numbers are returned, and the number of seats.
pub record TicketsSeen : Type 0 where
  pub table : TableId
  pub limit : ℕ
  pub seats : ℕ

-- A seat: its tickets' table and limit, and every number that it drew, in the order of its draws.
pub record SeatSeen : Type 0 where
  pub table : TableId
  pub limit : ℕ
  pub drawn : List ℕ

-- the seat draws from these tickets
abbrev pub IsSeatOf : TicketsSeen → SeatSeen → Type 0
IsSeatOf tickets seat = (seat.table ≡ tickets.table) × (seat.limit ≡ tickets.limit)

-- the seat has drawn a number at or past the limit
abbrev pub IsDone : SeatSeen → Type 0
IsDone seat = Any (λ number. seat.limit ≤ number) seat.drawn

-- the numbers that the seat's draws returned: of those that it drew, the ones below the limit
abbrev pub answers_of : SeatSeen → List ℕ
answers_of seat = filter (λ number. nat_lt number seat.limit) seat.drawn

-- the seat drew this number after the earlier ones, and nothing else of it changed
abbrev pub Draws : SeatSeen → SeatSeen → ℕ → Type 0
Draws old new number = new ≡ record { table = old.table; limit = old.limit; drawn = old.drawn ++ number ∷ [] }

-- 0, 1, 2 and so on: n numbers
unfoldable pub numbers_below : ℕ → List ℕ
numbers_below n = range_with_len 0 n

-- these are the numbers below n, each once, in some order
abbrev pub AreNumbersBelow : ℕ → List ℕ → Type 0
AreNumbersBelow n numbers = IsPermutation numbers (numbers_below n)

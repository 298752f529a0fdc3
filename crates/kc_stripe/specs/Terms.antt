-- The terms on which batches are booked into the stripes of a count. They are this project's own.
use Rattle.std.specs.Prelude.{ℕ, ◌<◌, ◌^◌, List, All, Contains}
use Rattle.kc_word.specs.Cutting.{NumberedPieces}
use Rattle.kc_table.specs.Counts.{KeyCounts}
use Rattle.kc_booking.specs.Stripe.{NumbersDiffer, position_sum}

-- some batches with different numbers that may be booked have more than 2 ^ 62 positions together
pub record MayBeTooMany (k : ℕ) (may_be_booked : NumberedPieces → Type 0) : Type 0 where
  pub batches : List NumberedPieces
  pub differ : NumbersDiffer batches
  pub booked : All may_be_booked batches
  pub many : 2 ^ 62 < position_sum k batches

-- one of the tables may be full for this key at these counts
abbrev pub SomeTableMayBeFull : {C : Type 0} → (C → KeyCounts → ℕ → Type 0) → List C → KeyCounts → ℕ → Type 0
SomeTableMayBeFull {C} may_be_full tables counts key =
    (table : C) × Contains tables table × may_be_full table counts key

-- at some counts a table may be full for one of the keys
abbrev pub SomeKeyMayBeFull : (KeyCounts → ℕ → Type 0) → List ℕ → Type 0
SomeKeyMayBeFull may_be_full keys = (counts : KeyCounts) × (key : ℕ) × Contains keys key × may_be_full counts key

-- a table may be full only where this is allowed
abbrev pub IsFullOnlyWhere : (KeyCounts → ℕ → Type 0) → (KeyCounts → ℕ → Type 0) → Type 0
IsFullOnlyWhere allowed may_be_full = (counts : KeyCounts) (key : ℕ) → may_be_full counts key → allowed counts key

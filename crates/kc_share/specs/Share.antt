-- A share, and what is behind a stripe's lock, as callers see them. They are this project's own.
use Rattle.std.specs.Prelude.{◌≡◌, ℕ, ◌-◌, ◌+◌, ◌<◌, List, [], ◌∷◌, ◌++◌, length, slice_index}
use Rattle.kc_share.specs.declared.entry.Entry.{Entry}
use Rattle.kc_share.specs.declared.entry.Booking.{Booking}
use Rattle.kc_share.specs.declared.entry.Plan.{Plan}
use Rattle.kc_share.specs.declared.entry.KeptStripe.{KeptStripe}
use Rattle.kc_share.specs.Entries.{entries_in, word_total, booking_of}

-- A share: the plan of its sheet, how many of the parts it has, and all that it booked, in order.
pub record ShareSeen : Type 0 where
  pub plan : Plan
  pub parts : ℕ
  pub booked : List Booking

abbrev pub share_of : Plan → ℕ → List Booking → ShareSeen
share_of plan parts booked = record { plan = plan; parts = parts; booked = booked }

-- the numbers of words and of entries that were booked into a stripe
abbrev pub word_total_in : ℕ → List Booking → ℕ
word_total_in stripe booked = word_total (entries_in stripe booked)

abbrev pub entry_total_in : ℕ → List Booking → ℕ
entry_total_in stripe booked = length (entries_in stripe booked)

-- a kept stripe: its number and its journal
abbrev pub kept_stripe : ℕ → List Entry → KeptStripe
kept_stripe stripe journal = record { stripe = stripe; journal = journal }

-- with one more entry, at the end of the journal, and with one more booking, at the end of the share's
abbrev pub with_entry : KeptStripe → Entry → KeptStripe
with_entry it entry = kept_stripe it.stripe (it.journal ++ entry ∷ [])

abbrev pub with_booking : ShareSeen → ℕ → Entry → ShareSeen
with_booking share stripe entry = share_of share.plan share.parts (share.booked ++ booking_of stripe entry ∷ [])

-- with one part fewer
abbrev pub with_one_part_less : ShareSeen → ShareSeen
with_one_part_less share = share_of share.plan (share.parts - 1) share.booked

-- a share of one part that has booked nothing
abbrev pub new_share : ShareSeen → ShareSeen
new_share share = share_of share.plan 1 []

-- two shares joined
abbrev pub joined_shares : ShareSeen → ShareSeen → ShareSeen
joined_shares share other = share_of share.plan (share.parts + other.parts) (share.booked ++ other.booked)

-- the first of some kept stripes; stripe 0 with an empty journal if there are none
abbrev pub first_kept : List KeptStripe → KeptStripe
first_kept [] = kept_stripe 0 []
first_kept (it ∷ more) = it

-- the list has, for each stripe below 64, the number that the function `tell` gives it
abbrev pub AreNumbersOf : (ℕ → ℕ) → List ℕ → Type 0
AreNumbersOf tell numbers = (stripe : ℕ) → stripe < 64 → slice_index numbers stripe ≡ tell stripe

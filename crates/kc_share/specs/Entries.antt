-- Batches that were booked into stripes, each with the number of its words there. A stripe's journal is a list of such
-- entries, and so is what a share booked into it. They are this project's own.
use Rattle.std.specs.Prelude.{◌≡◌, ℕ, ◌≤◌, ◌==◌, List, map, filter, sum_by}
use Rattle.kc_share.specs.declared.entry.Entry.{Entry}
use Rattle.kc_share.specs.declared.entry.Booking.{Booking}
use Rattle.kc_word.specs.Cutting.{NumberedPieces}

-- the entry of a batch with this many words in the stripe
abbrev pub entry_of : NumberedPieces → ℕ → Entry
entry_of batch words = record { batch = batch; words = words }

-- the booking of an entry into the stripe with this number
abbrev pub booking_of : ℕ → Entry → Booking
booking_of stripe entry = record { stripe = stripe; entry = entry }

-- the entries of those bookings that are into the stripe with this number, in order
unfoldable pub entries_in : ℕ → List Booking → List Entry
entries_in stripe booked = map (λ booking. booking.entry) (filter (λ booking. booking.stripe == stripe) booked)

-- how many words the entries have
abbrev pub word_total : List Entry → ℕ
word_total entries = sum_by (λ entry. entry.words) entries

-- Both lists have the same entries, each as often: under every weight of entries their weights are equal.
abbrev pub AreSame : List Entry → List Entry → Type 0
AreSame entries others = (weight : Entry → ℕ) → sum_by weight entries ≡ sum_by weight others

-- The others contain the entries, each at least as often: under every weight of entries, the entries weigh no more.
abbrev pub AreAmong : List Entry → List Entry → Type 0
AreAmong entries others = (weight : Entry → ℕ) → sum_by weight entries ≤ sum_by weight others

-- A stripe behind its lock, and the entries of its journal on the sheet of the shares. It is this project's own.
use Rattle.std.specs.Prelude.{◌≡◌, ℕ, ◌≤◌, ◌^◌, List, [], ◌∷◌, ◌++◌, length, map, All}
use Rattle.kc_word.specs.Cutting.{NumberedPieces}
use Rattle.kc_share.specs.declared.entry.Entry.{Entry}
use Rattle.kc_share.specs.declared.entry.Booking.{Booking}
use Rattle.kc_share.specs.declared.entry.KeptStripe.{KeptStripe}
use Rattle.kc_share.specs.Entries.{entry_of, entries_in, word_total, AreSame}
use Rattle.kc_share.specs.Share.{ShareSeen, word_total_in, entry_total_in, kept_stripe, with_booking}
use Rattle.kc_booking.specs.Setup.{StripeSetup}
use Rattle.kc_booking.specs.Cut.{StripeCut, keys_of, cut_at}
use Rattle.kc_booking.specs.Stripe.{StripeState}
use Rattle.kc_table.specs.Counts.{KeyCounts}
use Rattle.kc_stripe.specs.Terms.{IsFullOnlyWhere}

-- the entry of a cut: its batch, and how many of the batch's words belong to its stripe
abbrev pub cut_entry : StripeCut → Entry
cut_entry cut = entry_of cut.batch (length (keys_of cut))

-- the share with one more booking for each of the cuts, in order
abbrev pub with_bookings : ShareSeen → List StripeCut → ShareSeen
with_bookings share [] = share
with_bookings share (cut ∷ cuts) = with_bookings (with_booking share cut.stripe (cut_entry cut)) cuts

-- the kept stripe with one more entry for each of the cuts, in order
abbrev pub with_entries : KeptStripe → List StripeCut → KeptStripe
with_entries kept cuts = kept_stripe kept.stripe (kept.journal ++ map cut_entry cuts)

-- the entries of a stripe's journal
abbrev pub journal_entries : StripeSetup → ℕ → List NumberedPieces → List Entry
journal_entries setup number journal = map (λ batch. cut_entry (cut_at setup batch number)) journal

-- the sheet keeps this stripe: its number and its journal, and the total of the words is the stripe's, at most 2 ^ 62
pub record IsOnSheet {C : Type 0} (stripe : StripeState C) (kept : KeptStripe) : Type 0 where
  pub number : kept.stripe ≡ stripe.number
  pub journal : kept.journal ≡ journal_entries stripe.setup stripe.number stripe.journal
  pub total : word_total kept.journal ≡ stripe.total
  pub total_at_most : stripe.total ≤ 2 ^ 62

-- What is behind a lock: a stripe as the sheet keeps it, into which only such batches were booked, and a table that may
-- be full only where that is allowed.
pub record IsLocked {C : Type 0} (may_be_booked : NumberedPieces → Type 0) (allowed : KeyCounts → ℕ → Type 0)
    (may_be_full : C → KeyCounts → ℕ → Type 0) (stripe : StripeState C) (kept : KeptStripe) : Type 0 where
  pub on_sheet : IsOnSheet stripe kept
  pub journal : All may_be_booked stripe.journal
  pub limits : IsFullOnlyWhere allowed (may_be_full stripe.table)

-- All of a stripe is in these bookings: their words are its total, they are as many as its journal's entries, and their
-- batches are the journal's, each as often.
pub record IsAllOf {C : Type 0} (booked : List Booking) (stripe : StripeState C) : Type 0 where
  pub words : word_total_in stripe.number booked ≡ stripe.total
  pub entries : entry_total_in stripe.number booked ≡ length stripe.journal
  pub batches : AreSame (entries_in stripe.number booked) (journal_entries stripe.setup stripe.number stripe.journal)

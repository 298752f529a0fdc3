-- The shares into which the batches of a round are booked.
use Rattle.std.proofs.Common.{ℕ, ◌+◌, List, [], ◌∷◌, length, subst, arith, refl}
use Rattle.kc_word.specs.Cutting.{NumberedPieces}
use Rattle.kc_share.specs.declared.entry.Booking.{Booking}
use Rattle.kc_share.specs.Share.{ShareSeen, with_booking}
use Rattle.kc_booking.specs.Setup.{StripeSetup}
use Rattle.kc_booking.specs.Cut.{StripeCut, cut_at}
use Rattle.kc_booking.specs.Cuts.{cuts_in, round_at}
use Rattle.kc_stripe.specs.Locked.{cut_entry, with_bookings}
use Rattle.kc_run.specs.Runs.{HaveMoreIn}
use Rattle.kc_run.proofs.EntryLemmas.{HaveMoreIn-none, HaveMoreIn-more}

-- one more booking for each batch
more_for_each : {old : List Booking} (setup : StripeSetup) (stripe n : ℕ) (batches : List NumberedPieces) (share : ShareSeen)
    → HaveMoreIn stripe (stripe + 1) n old share.booked
    → HaveMoreIn stripe (stripe + 1) (n + length batches) old (with_bookings share (cuts_in (round_at setup batches stripe))).booked
more_for_each {old} setup stripe n [] share before =
    subst (λ (m : ℕ). HaveMoreIn stripe (stripe + 1) m old share.booked) (omega arith) before
more_for_each {old} setup stripe n (batch ∷ batches) share before =
    let cut : StripeCut = cut_at setup batch stripe in
    let next : ShareSeen = with_booking share stripe (cut_entry cut) in
    let more = HaveMoreIn-more stripe stripe (cut_entry cut) share next (record { is = refl; here = refl }) before in
    subst (λ (m : ℕ). HaveMoreIn stripe (stripe + 1) m old (with_bookings next (cuts_in (round_at setup batches stripe))).booked) (omega arith)
    (more_for_each setup stripe (n + 1) batches next more)

pub all_booked : (setup : StripeSetup) (stripe : ℕ) (batches : List NumberedPieces) (share : ShareSeen)
    → HaveMoreIn stripe (stripe + 1) (length batches) share.booked (with_bookings share (cuts_in (round_at setup batches stripe))).booked
all_booked setup stripe batches share =
    subst (λ (m : ℕ). HaveMoreIn stripe (stripe + 1) m share.booked (with_bookings share (cuts_in (round_at setup batches stripe))).booked) (omega arith)
    (more_for_each setup stripe 0 batches share (HaveMoreIn-none stripe (stripe + 1) share.booked))

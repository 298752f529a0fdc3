-- Why the stripes of a run lack no batch.
use Rattle.std.proofs.Common.{◌≡◌, ◌≢◌, ℕ, ◌<◌, List, length, get_or, sym, ◌∙◌, subst, arith}
use Rattle.std.specs.Prelude.{All}
use Rattle.std.proofs.lemmas.Option.{slice_get_within, get_or_from_slice_get}
use Rattle.kc_word.specs.Cutting.{NumberedPieces}
use Rattle.kc_share.specs.declared.entry.Booking.{Booking}
use Rattle.kc_share.specs.Share.{entry_total_in}
use Rattle.kc_booking.specs.Setup.{StripeSetup, stripe_count}
use Rattle.kc_booking.specs.Stripe.{StripeState}
use Rattle.kc_stripe.specs.Locked.{IsAllOf}
use Rattle.kc_gather.specs.declared.gather_fault.GatherFault.{GatherFault}
use Rattle.kc_gather.specs.declared.gather_fault.GatherFault.TheVariants.{Missing}
use Rattle.kc_gather.specs.Gathering.{IsRefusal}
use Rattle.kc_run.specs.Runs.{HaveCounted}

-- each journal has as many entries as were booked into its stripe
pub journals_counted : {C : Type 0} (stripes : List (StripeState C)) (booked : List Booking) (n count : ℕ) → All (λ stripe. IsAllOf booked stripe) stripes
    → ((stripe : ℕ) → stripe < count → entry_total_in stripe booked ≡ n) → All (λ stripe. stripe.number < count → length stripe.journal ≡ n) stripes
journals_counted stripes booked n count all each k d within less =
    sym (all k d within).entries ∙ each (get_or stripes k d).number less

-- no gathering of the stripes of a run is refused since one lacks a batch: its journal has as many entries as there are
-- batches
pub never_missing : {C : Type 0} {n : ℕ} {stripes : List (StripeState C)} (setup : StripeSetup) (batches : List NumberedPieces) (fault : GatherFault) → length batches ≡ n
    → HaveCounted setup n stripes → IsRefusal setup batches stripes fault → (index batch : ℕ) → fault ≢ Missing index batch
never_missing {C} {n} {stripes} setup batches fault many counted refused index batch is =
    let (stripe, at, lacking) = (subst (IsRefusal setup batches stripes) is refused).1 in
    let within = slice_get_within stripes index stripe at in
    let here : get_or stripes index stripe ≡ stripe = get_or_from_slice_get stripes index stripe stripe at in
    let number : stripe.number ≡ index = lacking.0.same_number in
    let one_each = counted.one_each in
    lacking.1.counted (subst (λ (s : StripeState C). s.number < stripe_count setup → length s.journal ≡ n) here (counted.counted index stripe within) (omega (arith, number, within, one_each)) ∙ sym many)

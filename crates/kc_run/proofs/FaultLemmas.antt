-- The faults with which workers and runs end.
use Rattle.std.proofs.Common.{◌≡◌, ◌⊎◌, ℕ, ◌<◌, ◌≤◌, List, length, refl, sym, subst, inl, inr, arith}
use Rattle.std.proofs.lemmas.Option.{slice_get_within}
use Rattle.kc_word.specs.Cutting.{NumberedPieces}
use Rattle.kc_table.specs.Counts.{KeyCounts}
use Rattle.kc_booking.specs.Setup.{StripeSetup}
use Rattle.kc_booking.specs.Stripe.{StripeState}
use Rattle.kc_booking.specs.declared.booking_fault.BookFault.{BookFault}
use Rattle.kc_booking.specs.declared.booking_fault.BookFault.TheVariants as book
use Rattle.kc_gather.specs.declared.gather_fault.GatherFault.{GatherFault}
use Rattle.kc_gather.specs.declared.gather_fault.GatherFault.TheVariants as gather
use Rattle.kc_gather.specs.Gathering.{IsRefusal}
use Rattle.kc_stripe.specs.Terms.{SomeKeyMayBeFull}
use Rattle.kc_run.specs.declared.run_fault.RunFault.{RunFault}
use Rattle.kc_run.specs.declared.run_fault.RunFault.TheVariants as run
use Rattle.kc_run.specs.Runs.{booking_fault, IsOfGathering, IsWorkerFault, IsGatheringFault, IsRunFault, MayEverBeFull}

-- what a refused booking into one of the stripes ends with
pub fault_of_booking : (MayBeFull : Type 0) (stripes stripe : ℕ) (why : BookFault) → stripe < stripes → (why ≡ book.Full → MayBeFull)
    → IsWorkerFault MayBeFull stripes (booking_fault stripe why)
fault_of_booking MayBeFull stripes stripe book.Twice less full = less
fault_of_booking MayBeFull stripes stripe book.Stranger less full = less
fault_of_booking MayBeFull stripes stripe book.Full less full = (less, full refl)
fault_of_booking MayBeFull stripes stripe book.Memory less full = tt

-- if not too many batches may be booked, a table is full only if it may be at some counts
pub ever_full : (TooMany : Type 0) (may_be_full : KeyCounts → ℕ → Type 0) (keys : List ℕ) → ¬ TooMany → TooMany ⊎ SomeKeyMayBeFull may_be_full keys
    → MayEverBeFull may_be_full
ever_full TooMany may_be_full keys few (inl many) = absurd (few many)
ever_full TooMany may_be_full keys few (inr (counts, key, there, full)) = (counts, key, full)

-- if there are more stripes
pub fault_of_more : (MayBeFull : Type 0) (few more : ℕ) (fault : RunFault) → few ≤ more → IsWorkerFault MayBeFull few fault
    → IsWorkerFault MayBeFull more fault
fault_of_more MayBeFull few more run.Memory le it = it
fault_of_more MayBeFull few more (run.Foreign stripe) le it = omega (arith, le, it)
fault_of_more MayBeFull few more (run.Full stripe) le it = (omega (arith, le, it.0), it.1)
fault_of_more MayBeFull few more (run.NoThread worker) le it = it

-- memory may be refused to any run
pub fault_of_memory : (MayBeFull : Type 0) (workers stripes : ℕ) (fault : RunFault) → fault ≡ run.Memory → IsRunFault MayBeFull workers stripes fault
fault_of_memory MayBeFull workers stripes fault is = inl (subst (IsWorkerFault MayBeFull stripes) (sym is) tt)

-- what the gathering ends with
pub fault_of_gathering : (MayBeFull : Type 0) (workers stripes : ℕ) (fault : RunFault) → IsGatheringFault stripes fault
    → IsRunFault MayBeFull workers stripes fault
fault_of_gathering MayBeFull workers stripes run.Memory it = inl it
fault_of_gathering MayBeFull workers stripes (run.Foreign stripe) it = inl it
fault_of_gathering MayBeFull workers stripes (run.Full stripe) it = absurd it
fault_of_gathering MayBeFull workers stripes (run.NoThread worker) it = absurd it

-- a stripe that was refused is one of them
pub fault_of_refusal : {C : Type 0} (setup : StripeSetup) (batches : List NumberedPieces) (stripes : List (StripeState C)) (n : ℕ) (why : GatherFault) (fault : RunFault)
    → length stripes ≡ n → IsRefusal setup batches stripes why → IsOfGathering why fault → IsGatheringFault n fault
fault_of_refusal setup batches stripes n (gather.Foreign i) fault many refused is =
    let (before, (stripe, there, foreign)) = refused in
    let less : i < n = omega (arith, slice_get_within stripes i stripe there, many) in
    subst (IsGatheringFault n) (sym is) less
fault_of_refusal setup batches stripes n (gather.Missing i batch) fault many refused is = absurd is
fault_of_refusal setup batches stripes n gather.Memory fault many refused is = subst (IsGatheringFault n) (sym is) tt

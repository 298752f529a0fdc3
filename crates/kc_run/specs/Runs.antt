-- Whole runs: the state of a worker at its start and at its end, and the errors of a run. They are this project's own.
use Rattle.std.specs.Prelude.{◌≡◌, ℕ, ◌+◌, ◌-◌, ◌<◌, ◌≤◌, ◌⊎◌, max, List, [], All, Option, Some, None, Result, Ok, Err}
use Rattle.std.specs.Prelude.{IfOk, IfErr}
use Rattle.std.specs.Prelude.{length, map, sum_by, slice_get, take}
use Rattle.std.specs.declared.alloc.Global.{Global}
use Rattle.std.specs.declared.sync.Arc.{Arc}
use Rattle.kc_word.specs.Cutting.{NumberedPieces}
use Rattle.kc_word.specs.Shared.{values}
use Rattle.kc_word.specs.declared.batch.Batch.{Batch}
use Rattle.kc_share.specs.declared.entry.Plan.{Plan}
use Rattle.kc_share.specs.declared.entry.Booking.{Booking}
use Rattle.kc_share.specs.Share.{ShareSeen, share_of, entry_total_in}
use Rattle.kc_table.specs.Counts.{KeyCounts}
use Rattle.kc_booking.specs.Setup.{StripeSetup, stripe_count}
use Rattle.kc_booking.specs.Stripe.{StripeState}
use Rattle.kc_booking.specs.declared.booking_fault.BookFault.{BookFault}
use Rattle.kc_booking.specs.declared.booking_fault.BookFault.TheVariants as book
use Rattle.kc_stripe.specs.Terms.{MayBeTooMany}
use Rattle.kc_gather.specs.declared.gather_fault.GatherFault.{GatherFault}
use Rattle.kc_gather.specs.declared.gather_fault.GatherFault.TheVariants as gather
use Rattle.kc_tickets.specs.Tickets.{TicketsSeen, SeatSeen, IsSeatOf, IsDone, answers_of}
use Rattle.kc_run.specs.declared.run_fault.RunFault.{RunFault}
use Rattle.kc_run.specs.declared.run_fault.RunFault.TheVariants as run

-- what the workers share fits together: the tickets' limit is the number of batches, the sheet with this plan is for
-- the stripes of this setup, and the batches may be booked, and are not too many
pub record IsJob (may_be_booked : NumberedPieces → Type 0) (tickets : TicketsSeen) (plan : Plan)
    (batches : List (Arc Batch Global)) (setup : StripeSetup) : Type 0 where
  pub limit : tickets.limit ≡ length batches
  pub stripes : plan.stripes ≡ stripe_count setup
  pub allowed : All may_be_booked (values batches)
  pub few_allowed : ¬ MayBeTooMany setup.rule.k may_be_booked

-- the seat draws from these tickets, and has drawn nothing
pub record IsFreshSeatOf (tickets : TicketsSeen) (seat : SeatSeen) : Type 0 where
  pub own : IsSeatOf tickets seat
  pub fresh : seat.drawn ≡ []

-- a worker before its work: its seat has drawn nothing, and its share has one part of a sheet with this plan and has
-- booked nothing
pub record IsReady (tickets : TicketsSeen) (plan : Plan) (seat : SeatSeen) (share : ShareSeen) : Type 0 where
  pub seat_fresh : IsFreshSeatOf tickets seat
  pub unused : share ≡ share_of plan 1 []

-- n more batches were booked in each of so many stripes
abbrev pub HaveMore : ℕ → ℕ → List Booking → List Booking → Type 0
HaveMore stripes n old new =
    (stripe : ℕ) → stripe < stripes → entry_total_in stripe new ≡ entry_total_in stripe old + n

-- n more batches were booked in each stripe from one number to before another, and none in the other stripes
pub record HaveMoreIn (from to n : ℕ) (old new : List Booking) : Type 0 where
  pub there : (stripe : ℕ) → from ≤ stripe → stripe < to → entry_total_in stripe new ≡ entry_total_in stripe old + n
  pub before : (stripe : ℕ) → stripe < from → entry_total_in stripe new ≡ entry_total_in stripe old
  pub behind : (stripe : ℕ) → to ≤ stripe → entry_total_in stripe new ≡ entry_total_in stripe old

-- a worker after its work: its seat is done, and its share still has one part, with as many entries in each stripe as
-- its draws returned numbers
pub record HasWorked (tickets : TicketsSeen) (plan : Plan) (seat : SeatSeen) (share : ShareSeen) : Type 0 where
  pub own : IsSeatOf tickets seat
  pub done : IsDone seat
  pub one_part : share.parts ≡ 1
  pub same_plan : share.plan ≡ plan
  pub booked : (stripe : ℕ) → stripe < plan.stripes
      → entry_total_in stripe share.booked ≡ length (answers_of seat)

-- workers after their work: their seats, and their shares joined
pub record HaveWorked (tickets : TicketsSeen) (plan : Plan) (seats : List SeatSeen) (share : ShareSeen) : Type 0 where
  pub own : All (IsSeatOf tickets) seats
  pub done : All IsDone seats
  pub parts : share.parts ≡ length seats
  pub same_plan : share.plan ≡ plan
  pub booked : (stripe : ℕ) → stripe < plan.stripes
      → entry_total_in stripe share.booked ≡ sum_by (λ seat. length (answers_of seat)) seats

-- a thread is promised to work with these tickets and a sheet with this plan
abbrev pub IsPromised : TicketsSeen → Plan → TicketsSeen → Plan → Type 0
IsPromised tickets plan promised_tickets promised_plan = (promised_tickets ≡ tickets) × (promised_plan ≡ plan)

-- the error of a worker whose booking into the stripe of this number was refused
abbrev pub booking_fault : ℕ → BookFault → RunFault
booking_fault stripe book.Twice = run.Foreign stripe
booking_fault stripe book.Stranger = run.Foreign stripe
booking_fault stripe book.Full = run.Full stripe
booking_fault stripe book.Memory = run.Memory

-- the error of a run whose gathering failed with this one; none of its stripes lacks a batch
abbrev pub IsOfGathering : GatherFault → RunFault → Type 0
IsOfGathering (gather.Foreign stripe) fault = fault ≡ run.Foreign stripe
IsOfGathering (gather.Missing stripe batch) fault = ⊥
IsOfGathering gather.Memory fault = fault ≡ run.Memory

-- at some counts a table may be full for some key
abbrev pub MayEverBeFull : (KeyCounts → ℕ → Type 0) → Type 0
MayEverBeFull may_be_full = (counts : KeyCounts) × (key : ℕ) × may_be_full counts key

-- an error that a worker may return if there are so many stripes: memory was refused, or it names one of the stripes,
-- as full only if one may be full
abbrev pub IsWorkerFault : Type 0 → ℕ → RunFault → Type 0
IsWorkerFault MayBeFull stripes run.Memory = Unit
IsWorkerFault MayBeFull stripes (run.Foreign stripe) = stripe < stripes
IsWorkerFault MayBeFull stripes (run.Full stripe) = (stripe < stripes) × MayBeFull
IsWorkerFault MayBeFull stripes (run.NoThread worker) = ⊥

-- the stripes of a count of so many batches, one for each number of the setup: the journal of a stripe with such a
-- number has as many entries as there are batches
pub record HaveCounted {C : Type 0} (setup : StripeSetup) (batches : ℕ) (stripes : List (StripeState C)) : Type 0 where
  pub one_each : length stripes ≡ stripe_count setup
  pub counted : All (λ stripe. stripe.number < stripe_count setup → length stripe.journal ≡ batches) stripes

-- an error that the gathering may return: memory was refused, or one of the stripes is foreign
abbrev pub IsGatheringFault : ℕ → RunFault → Type 0
IsGatheringFault stripes run.Memory = Unit
IsGatheringFault stripes (run.Foreign stripe) = stripe < stripes
IsGatheringFault stripes (run.Full stripe) = ⊥
IsGatheringFault stripes (run.NoThread worker) = ⊥

-- an error that a run may return if there are so many workers and stripes: that of a worker, or that no thread could be
-- started for one of the workers
abbrev pub IsRunFault : Type 0 → ℕ → ℕ → RunFault → Type 0
IsRunFault MayBeFull workers stripes fault =
    IsWorkerFault MayBeFull stripes fault ⊎ ((worker : ℕ) × (worker < workers) × (fault ≡ run.NoThread worker))

module _ {W : Type 0} where
  -- the results of the threads of n workers over so many stripes: each Ok keeps its promise, each error is one that
  -- such a run may return, and if all are Ok, there are n
  pub record AreEnds (HasEnded : W → Type 0) (MayBeFull : Type 0) (n stripes : ℕ) (results : List (Result W RunFault))
      : Type 0 where
    pub kept : All (λ result. IfOk result HasEnded) results
    pub faults : All (λ result. IfErr result (IsRunFault MayBeFull n stripes)) results
    pub all : (workers : List W) → map (λ worker. Ok worker) workers ≡ results → length workers ≡ n

  -- the worker at this index returned Ok
  abbrev pub EndedWell : List (Result W RunFault) → ℕ → Type 0
  EndedWell results i = (worker : W) × (slice_get results i ≡ Some (Ok worker))

  -- every worker returned Ok
  abbrev pub AllEndedWell : List (Result W RunFault) → Type 0
  AllEndedWell results = (i : ℕ) → i < length results → EndedWell results i

  -- the error is that of the first worker, in their order, that has one
  abbrev pub IsFirstFault : List (Result W RunFault) → RunFault → Type 0
  IsFirstFault results fault =
      (i : ℕ) × (slice_get results i ≡ Some (Err fault)) × ((j : ℕ) → j < i → EndedWell results j)

-- the least number of positions in a round: 4 million, or the number of words in the list if that is greater
abbrev pub least_positions : Option (List ℕ) → ℕ
least_positions None = 4000000
least_positions (Some words) = max 4000000 (length words)

-- a list without its last item
abbrev pub but_last : {T : Type 0} → List T → List T
but_last items = take (length items - 1) items

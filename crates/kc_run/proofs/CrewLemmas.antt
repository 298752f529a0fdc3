-- Workers that are made, that end, and whose seats and shares are taken together.
use Rattle.std.proofs.Common.{◌≡◌, ◌≢◌, ℕ, zero, suc, ◌+◌, ◌<◌, ◌≤◌, List, [], ◌∷◌, ◌++◌, length, length-append, get_or, map, Option, Some, None, slice_get, sum_by, refl, ap, sym, ◌∙◌, subst, ⊎_elim, arith}
use Rattle.std.specs.Prelude.{All, Result, Ok, Err, IfOk, IfErr}
use Rattle.std.proofs.lemmas.Bool.{cases_lt}
use Rattle.std.proofs.lemmas.List.{length-map, get_or-map}
use Rattle.std.proofs.lemmas.List.Elements.{All-cons, All-push, All-nil}
use Rattle.std.proofs.lemmas.Option.{slice_get-get_or, get_or_from_slice_get, slice_get_within}
use Rattle.std.proofs.lemmas.List.Sums.{sum_by_push}
use Rattle.kc_share.specs.declared.entry.Plan.{Plan}
use Rattle.kc_share.specs.Share.{ShareSeen, joined_shares}
use Rattle.kc_run.specs.declared.run_fault.RunFault.{RunFault}
use Rattle.kc_run.specs.declared.run_fault.RunFault.TheVariants.{NoThread}
use Rattle.kc_tickets.specs.Tickets.{TicketsSeen, SeatSeen, IsSeatOf, IsDone, answers_of}
use Rattle.kc_run.proofs.EntryLemmas.{entries-joined}
use Rattle.kc_run.specs.Runs.{IsFreshSeatOf, HasWorked, HaveWorked, IsFirstFault, EndedWell}

-- one worker
pub HaveWorked-one : (tickets : TicketsSeen) (plan : Plan) (seat : SeatSeen) (share : ShareSeen) → HasWorked tickets plan seat share → HaveWorked tickets plan (seat ∷ []) share
HaveWorked-one tickets plan seat share it = record {
  own = All-cons (IsSeatOf tickets) seat [] it.own (All-nil (IsSeatOf tickets));
  done = All-cons IsDone seat [] it.done (All-nil IsDone);
  parts = it.one_part;
  same_plan = it.same_plan;
  booked = λ stripe less.
      let alone : sum_by (λ (s : SeatSeen). length (answers_of s)) (seat ∷ []) ≡ 0 + length (answers_of seat) = refl in
      omega (arith, alone, it.booked stripe less);
}

-- one more worker
pub HaveWorked-more : (tickets : TicketsSeen) (plan : Plan) (seats : List SeatSeen) (share : ShareSeen) (seat : SeatSeen) (other : ShareSeen) → HaveWorked tickets plan seats share
    → HasWorked tickets plan seat other → HaveWorked tickets plan (seats ++ seat ∷ []) (joined_shares share other)
HaveWorked-more tickets plan seats share seat other them it = record {
  own = All-push (IsSeatOf tickets) seats seat them.own it.own;
  done = All-push IsDone seats seat them.done it.done;
  parts = omega (arith, length-append seats (seat ∷ []), them.parts, it.one_part);
  same_plan = them.same_plan;
  booked = λ stripe less.
      let sum = sum_by_push (λ (s : SeatSeen). length (answers_of s)) seats seat in
      omega (arith, sum, entries-joined stripe share.booked other.booked, them.booked stripe less, it.booked stripe less);
}

-- the workers before this number succeeded
abbrev pub WellBefore : {W : Type 0} → List (Result W RunFault) → ℕ → Type 0
WellBefore results n = (i : ℕ) → i < n → EndedWell results i

-- and so did the one of this number
pub well_more : {W : Type 0} (results : List (Result W RunFault)) (n : ℕ) (ended : Result W RunFault) (worker : W) → WellBefore results n
    → (n < length results) → ended ≡ get_or results n ended → ended ≡ Ok worker → WellBefore results (n + 1)
well_more {W} results n ended worker before within here is i less =
    ⊎_elim
    (λ (lt : i < n). before i lt)
    (λ (le : n ≤ i).
    let same : n ≡ i = omega (arith, le, less) in
    (worker, subst (λ k. slice_get results k ≡ Some (Ok worker)) same (slice_get-get_or results n ended within ∙ ap Some (sym here ∙ is))))
    (cases_lt i n)

-- the result at an index at which a worker succeeded is no fault
pub no_fault_there : {W : Type 0} {fault : RunFault} (results : List (Result W RunFault)) (n : ℕ) (ended : Result W RunFault) → EndedWell results n
    → ended ≡ get_or results n ended → ended ≢ Err fault
no_fault_there {W} {fault} results n ended (worker, there) here is =
    let both : Ok worker ≡ Err fault = sym (here ∙ get_or_from_slice_get results n (Ok worker) ended there) ∙ is in
    absurd (cc)

-- what holds for each fault holds for the first
pub holds_of_first : {W : Type 0} (Q : RunFault → Type 0) (results : List (Result W RunFault)) (fault : RunFault) → All (λ result. IfErr result Q) results
    → IsFirstFault results fault → Q fault
holds_of_first {W} Q results fault all (i, there, before) =
    let is : get_or results i (Err fault) ≡ Err fault = get_or_from_slice_get results i (Err fault) (Err fault) there in
    subst (λ (result : Result W RunFault). IfErr result Q) is (all i (Err fault) (slice_get_within results i (Err fault) there))

-- seats of these tickets that have drawn nothing
pub fresh_seats : (tickets : TicketsSeen) (seats : List SeatSeen) → All (IsSeatOf tickets) seats → All (λ seat. seat.drawn ≡ []) seats → All (IsFreshSeatOf tickets) seats
fresh_seats tickets seats own fresh k d within = record { own = own k d within; fresh = fresh k d within }

-- among workers that succeeded is no fault
abbrev well_of : {W : Type 0} → List W → List (Result W RunFault)
well_of workers = map (λ worker. Ok worker) workers

no_fault : {W : Type 0} (workers : List W) (j : ℕ) (fault : RunFault) → slice_get (well_of workers) j ≢ Some (Err fault)
no_fault [] j fault is = absurd (cc)
no_fault (worker ∷ workers) zero fault is = absurd (cc)
no_fault (worker ∷ workers) (suc j) fault is = no_fault workers j fault is

-- if all succeeded none was refused, so they are as many as were to be started
pub all_started : {W : Type 0} {results : List (Result W RunFault)} (refused : Option ℕ) (threads n : ℕ) → (refused ≡ None → length results ≡ threads)
    → ((number : ℕ) → refused ≡ Some number → slice_get results threads ≡ Some (Err (NoThread number))) → (refused ≡ None → threads ≡ n)
    → (workers : List W) → map (λ worker. Ok worker) workers ≡ results → length workers ≡ n
all_started {W} {results} None threads n all last started workers well =
    sym (length-map workers (λ (worker : W). Ok worker)) ∙ ap length well ∙ all refl ∙ started refl
all_started {W} {results} (Some number) threads n all last started workers well =
    absurd (no_fault workers threads (NoThread number) (ap (λ rs. slice_get rs threads) well ∙ last number refl))

-- workers that succeeded are as was promised
pub all_kept : {W : Type 0} (HasEnded : W → Type 0) (workers : List W) (results : List (Result W RunFault)) → map (λ worker. Ok worker) workers ≡ results
    → All (λ result. IfOk result HasEnded) results → All HasEnded workers
all_kept {W} HasEnded workers results well kept k d within =
    let long : length workers ≡ length results = sym (length-map workers (λ (worker : W). Ok worker)) ∙ ap length well in
    let here : get_or results k (Ok d) ≡ Ok (get_or workers k d) = ap (λ rs. get_or rs k (Ok d)) (sym well) ∙ get_or-map (λ (worker : W). Ok worker) workers k d (Ok d) within in
    subst (λ (result : Result W RunFault). IfOk result HasEnded) here (kept k (Ok d) (omega (arith, long, within)))

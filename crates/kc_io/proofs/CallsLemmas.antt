-- Calls of a stream that were interrupted, and the one that was not or was the last that is tolerated.
use Rattle.std.proofs.Common.{◌≡◌, ◌∙◌, ℕ, ◌+◌, ◌-◌, ◌<◌, ◌≤◌, ◌^◌, ap, arith, inl, inr, ⊎_elim, refl, Some}
use Rattle.std.proofs.Common.{Result}
use Rattle.std.specs.Prelude.{IsErr}
use Rattle.kc_io.specs.declared.failures.Failed.{Failed}
use Rattle.kc_io.specs.Answers.{Calls, Hears, Settles, and_answer, and_interruption, most_tries}

-- So far each call was interrupted, and so many more interruptions are tolerated.
pub record OnlyInterrupted (old now : Calls) (tries : ℕ) : Type 0 where
  pub interrupted : now.interrupted + tries ≡ old.interrupted + most_tries
  pub few : tries ≤ most_tries
  pub unanswered : now.answered ≡ old.answered

pub settled_by : {A : Type 0} {old now new : Calls} {tries left : ℕ} {answer : Result A Failed}
    → OnlyInterrupted old now tries → Hears now tries new left (Some answer) → Settles old new answer
settled_by {A} {old} {now} {new} {tries} {left} {answer} so_far heard =
    let before = so_far.interrupted in
    let few = so_far.few in
    let unanswered = so_far.unanswered in
    let answered : new ≡ and_answer now → Settles old new answer = λ e.
    let one : new.answered ≡ now.answered + 1 = ap (λ (calls : Calls). calls.answered) e in
    let same : new.interrupted ≡ now.interrupted = ap (λ (calls : Calls). calls.interrupted) e in
    let fewer : most_tries - tries < 2 ^ 64 = omega arith in
    record {
      more = most_tries - tries;
      interrupted = omega (arith, same, before, few);
      settled = inl (fewer, omega (arith, one, unanswered));
    } in
    let given_up : (new ≡ and_interruption now) × (tries ≡ 0) × IsErr answer → Settles old new answer = λ last.
    let one : new.interrupted ≡ now.interrupted + 1 = ap (λ (calls : Calls). calls.interrupted) last.0 in
    let none = last.1 in
    record {
      more = 2 ^ 64;
      interrupted = omega (arith, before, one, none);
      settled = inr (refl, ap (λ (calls : Calls). calls.answered) last.0 ∙ unanswered, last.2);
    } in
    ⊎_elim answered given_up heard.0

use Rattle.std.proofs.Common.{◌≡◌, refl, ap, sym, subst, ◌∙◌, inl, inr, Some, Err}
use Rattle.kc_fastx.specs.Reading.{Stand, HasGiven, GivesNext, HoldNoRecord, BeginsRecord}
use Rattle.std.proofs.lemmas.Result.{err_from_is_err_and}
use Rattle.kc_fastx.proofs.ReadingLemmas.{given_grown, given_kept, given_refused, meets_kept}
use Rattle.kc_fastx.proofs.ReadingLemmas.{comes_kept, comes_taking}
use Rattle.kc_fastx.specs.Faults.{kept_fault}
use Rattle.kc_fastx.specs.declared.read_faults.FastxFault.TheVariants.{Memory}
use Rattle.kc_fastx.proofs.TakingLemmas.{Taking, begins_kept, err_is, taken_in_steps, taking_more}
use Rattle.kc_fastx.specs.Titles.{reads_in, HasGivenRecords, GivesRecord}
use Rattle.kc_fastx.proofs.TitlesLemmas.{IsLonger, longer_grown, longer_kept, records_more, records_same, records_all}
use Rattle.kc_fastx.proofs.record_reader.Reading.next_of.Goals as goal

pub returns-in-Ok-Given-clause-given : goal.returns-in-Ok-Given-clause-given
returns-in-Ok-Given-clause-given g c = λ start limit reads h.
    rw c.in-Ok-Given.field-0-is at c.in-Ok-Given.ensures.tells start (g.S.Source.seen c.reading.source) limit reads
    (c.reading.invariant.given start limit reads h)

pub returns-in-Ok-Given-clause-titled : goal.returns-in-Ok-Given-clause-titled
returns-in-Ok-Given-clause-titled g c = λ wanted start limit records h.
    let titled = rw c.in-Ok-Given.field-0-is at c.in-Ok-Given.ensures.titled wanted in
    records_more h c.reading.invariant.longer c.next_of_whole.new.self _ _ titled
    (returns-in-Ok-Given-clause-given g c start limit (reads_in records) h.given)

pub returns-in-Ok-End-clause-given : goal.returns-in-Ok-End-clause-given
returns-in-Ok-End-clause-given g c = λ start limit reads h.
    rw c.in-Ok-End.field-0-is at c.in-Ok-End.ensures.tells start (g.S.Source.seen c.reading.source) limit reads
    (c.reading.invariant.given start limit reads h)

pub returns-in-Ok-End-clause-titled : goal.returns-in-Ok-End-clause-titled
returns-in-Ok-End-clause-titled g c = λ wanted start limit records h.
    let now = g.S.Source.seen c.reading.source in
    let tells = returns-in-Ok-End-clause-given g c start limit (reads_in records) h.given in
    let titled = rw c.in-Ok-End.field-0-is at c.in-Ok-End.ensures.titled wanted in
    let same = records_same h c.reading.invariant.longer
    (subst (λ v. HasGiven start now limit (reads_in records) v) titled.0 tells.0) in (
      subst (λ v. HasGivenRecords start now limit records v) (sym titled.0) same,
      ap (λ (s : Stand). s.ended) titled.0 ∙ titled.1,
      records_all same titled.1 titled.2 tells.1,
    )

pub reading-preserved : goal.reading-preserved
reading-preserved g c =
    let seen = g.S.Source.seen in
    let more = rw c.in-Ok-Short.field-0-is at c.in-Ok-Short.ensures.moves in
    let grown = c.in_ok-grow-in-Ok-Short.ensures.grows in
    let wants = rw c.in-Ok-Short.field-0-is at c.in-Ok-Short.ensures.wants in
    record {
      given = λ start limit reads h.
          let tells = rw c.in-Ok-Short.field-0-is at c.in-Ok-Short.ensures.tells start (seen c.reading.source) limit
          reads (c.reading.invariant.given start limit reads h) in
          given_grown (record { given = tells; unended = more.1 }) (seen c.grow.new.source) c.grow.new.self grown;
      longer = longer_grown (subst (λ v. IsLonger c.args.self.now v) (sym more.0) c.reading.invariant.longer) more.1
          (seen c.reading.source) (seen c.grow.new.source) c.grow.new.self grown;
      unfailed = grown.unfailed;
      used = grown.used ∙ ap (λ (s : Stand). s.used) more.0 ∙ c.reading.invariant.used;
      taking = taking_more (subst (λ v. Taking c.args.self.now v) (sym more.0) c.reading.invariant.taking)
          (subst (λ (v : Stand). HoldNoRecord v.is_fastq v.unread.bytes) (sym more.0) wants) c.grow.ensures.few
          grown.is_fastq;
    }

pub returns-in_err-grow-in-Ok-Short-clause-given : goal.returns-in_err-grow-in-Ok-Short-clause-given
returns-in_err-grow-in-Ok-Short-clause-given g c = λ start limit reads h.
    let seen = g.S.Source.seen in
    let more = rw c.in-Ok-Short.field-0-is at c.in-Ok-Short.ensures.moves in
    let tells = rw c.in-Ok-Short.field-0-is at c.in-Ok-Short.ensures.tells start (seen c.reading.source) limit
    reads (c.reading.invariant.given start limit reads h) in
    let p = err_from_is_err_and c.from_residual.result c.from_residual.ensures.1 in
    rw (p.1, p.2) (given_refused (record { given = tells; unended = more.1 }) (seen c.grow.new.source) c.grow.new.self
    c.in_err-grow-in-Ok-Short.field-0.0 c.in_err-grow-in-Ok-Short.ensures.grows.0)

pub returns-in_err-grow-in-Ok-Short-clause-titled : goal.returns-in_err-grow-in-Ok-Short-clause-titled
returns-in_err-grow-in-Ok-Short-clause-titled g c = λ wanted start limit records h.
    let now = g.S.Source.seen c.grow.new.source in
    let p = err_from_is_err_and c.from_residual.result c.from_residual.ensures.1 in
    subst (λ v. GivesRecord start now limit records c.grow.new.self c.next_of_whole.new.title.items v) (sym p.1)
    (subst (λ v. GivesNext start now limit (reads_in records) c.grow.new.self v) p.1
    (returns-in_err-grow-in-Ok-Short-clause-given g c start limit (reads_in records) h.given))

pub returns-in-Err-clause-given : goal.returns-in-Err-clause-given
returns-in-Err-clause-given g c = λ start limit reads h.
    let seen = g.S.Source.seen in
    let met = c.in-Err.ensures.tells start (seen c.reading.source) limit reads (c.reading.invariant.given start limit reads h) in
    rw (c.keep.ensures.answered, c.keep.ensures.kept)
    (meets_kept start (seen c.reading.source) limit c.next_of_whole.new.self c.in-Err.fault _ met)

pub returns-in-Err-clause-titled : goal.returns-in-Err-clause-titled
returns-in-Err-clause-titled g c = λ wanted start limit records h.
    returns-in-Err-clause-given g c start limit (reads_in records) h.given

pub returns-in-Err-clause-resumed_titled : goal.returns-in-Err-clause-resumed_titled
returns-in-Err-clause-resumed_titled g c = λ none start limit records h.
    let same : c.next_of_whole.new.self ≡ c.reading.self = c.in-Err.ensures.moves in
    let unfailed = rw (c.keep.ensures.kept, same) at none in
    let given = c.reading.invariant.given start limit (reads_in records) h.given in
    rw (c.keep.ensures.kept, same) (records_same h (longer_kept _ c.reading.invariant.longer)
    (given_kept _ given unfailed))

pub returns-in_err-grow-in-Ok-Short-clause-behind : goal.returns-in_err-grow-in-Ok-Short-clause-behind
returns-in_err-grow-in-Ok-Short-clause-behind g c = λ start limit reads h.
    let p = err_from_is_err_and c.from_residual.result c.from_residual.ensures.1 in
    rw (p.1, p.2) (comes_taking reads c.grow.new.self c.in_err-grow-in-Ok-Short.field-0.0)

pub returns-in-Err-clause-behind : goal.returns-in-Err-clause-behind
returns-in-Err-clause-behind g c = λ start limit reads h.
    let now = g.S.Source.seen c.reading.source in
    let stand = c.next_of_whole.new.self in
    let fault = c.in-Err.fault in
    let comes = c.in-Err.ensures.behind start now limit reads
    (c.reading.invariant.given start limit reads h) in
    rw (c.keep.ensures.answered, c.keep.ensures.kept)
    (comes_kept reads stand fault (kept_fault stand.failed fault) comes)

pub returns-in_err-grow-in-Ok-Short-clause-few : goal.returns-in_err-grow-in-Ok-Short-clause-few
returns-in_err-grow-in-Ok-Short-clause-few g c =
    let more = rw c.in-Ok-Short.field-0-is at c.in-Ok-Short.ensures.moves in
    let wants = rw c.in-Ok-Short.field-0-is at c.in-Ok-Short.ensures.wants in
    taken_in_steps (subst (λ v. Taking c.args.self.now v) (sym more.0) c.reading.invariant.taking)
    (subst (λ (v : Stand). HoldNoRecord v.is_fastq v.unread.bytes) (sym more.0) wants) c.grow.ensures.few

pub returns-in_err-grow-in-Ok-Short-clause-memory : goal.returns-in_err-grow-in-Ok-Short-clause-memory
returns-in_err-grow-in-Ok-Short-clause-memory g c = λ refused unfailed.
    let p = err_from_is_err_and c.from_residual.result c.from_residual.ensures.1 in
    let fault = sym p.2 ∙ err_is c.from_residual.result p.0 Memory p.1 refused in
    inl (
      c.in_err-grow-in-Ok-Short.ensures.unended,
      c.in_err-grow-in-Ok-Short.ensures.grows.1 ∙ ap (λ v. Some v) fault,
    )

pub returns-in-Err-clause-memory : goal.returns-in-Err-clause-memory
returns-in-Err-clause-memory g c = λ refused unfailed.
    let same : c.next_of_whole.new.self ≡ c.reading.self = c.in-Err.ensures.moves in
    let fault : c.in-Err.fault ≡ Memory = sym c.keep.ensures.answered ∙ err_is _ c.keep.result Memory refl refused in
    let begins = c.next_of_whole.ensures.memory (subst (λ v. c.next_of_whole.result ≡ Err v) fault c.in-Err.is) in
    rw c.keep.ensures.kept (inr (begins_kept _ (subst (λ v. BeginsRecord v) (sym same) begins)))

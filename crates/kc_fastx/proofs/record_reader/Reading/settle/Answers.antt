use Rattle.std.proofs.Common.{rules, subst, Ok}
use Rattle.kc_gzip.specs.Intakes.{Skips}
use Rattle.kc_fastx.specs.Reading.{Stand}
use Rattle.kc_fastx.proofs.ReadingLemmas.{IsMetEarly, settled, settled_ended, settled_other, settled_refused}
use Rattle.kc_fastx.proofs.record_reader.Reading.settle.Goals as goal
use Rattle.kc_fastx.proofs.record_reader.Reading.settle.Goals.{then-self-via-then-self}
use Rattle.kc_fastx.proofs.record_reader.Reading.settle.Goals.{then-self-via-else-self+then-not-is_of_lines}

pub returns-then-self : goal.returns-then-self
returns-then-self g c = λ start limit meets.
    let now = g.S.Source.seen c.args.source.now in
    elim c.then-self.branch [
      | then-self-via-then-self w ↦ settled_ended start now limit c.args.self c.args.fault (search rules) meets
      | then-self-via-else-self+then-not-is_of_lines w ↦ settled_other start now limit c.args.self c.args.fault
          (search rules) meets
    ]

pub returns-in-Ok : goal.returns-in-Ok
returns-in-Ok g c = λ start limit meets.
    let seen = g.S.Source.seen in
    let early : IsMetEarly start (seen c.args.source.now) limit c.args.self c.args.fault = record {
      of_lines = search rules;
      unended = search rules;
      meets = meets;
    } in
    settled early (seen c.skip_rest.new.source) c.in-Ok.field-0
    (subst (λ (s : Stand). Skips (seen c.args.source.now) (seen c.skip_rest.new.source) s.unread (Ok c.in-Ok.field-0)) c.self.view_is c.in-Ok.ensures)

pub returns-in-Err : goal.returns-in-Err
returns-in-Err g c = λ start limit meets.
    let seen = g.S.Source.seen in
    let early : IsMetEarly start (seen c.args.source.now) limit c.args.self c.args.fault = record {
      of_lines = search rules;
      unended = search rules;
      meets = meets;
    } in
    rw c.from.ensures
    (settled_refused early (seen c.skip_rest.new.source) c.in-Err.why (search (rules, c.in-Err.ensures)))

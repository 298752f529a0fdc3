use Rattle.std.proofs.Common.{◌+◌, ◌-◌, ◌/◌, ◌≤◌, OnOk, subst, arith}
use Rattle.kc_word.specs.Shared.{values}
use Rattle.kc_gather.specs.Gathering.{AreWholeIn}
use Rattle.kc_gather.proofs.Stripes.{second-told}
use Rattle.kc_gather.proofs.given_stripes.+halves.Goals as goal

pub returns-clause-whole : goal.returns-clause-whole
returns-clause-whole g t c =
    let setup = c.args.self.now.setup.now in
    let batches = values c.args.self.now.batches.now in
    let stripes = c.args.self.now.stripes.now in
    let middle = c.args.from + (c.args.to - c.args.from) / 2 in
    let within : c.args.from ≤ middle = omega arith in
    let first = subst (λ r. OnOk r (AreWholeIn setup batches stripes c.args.from middle)) c.in_ok-first.was c.join-first.ensures.first.0 in
    (second-told setup batches stripes c.args.from middle c.args.to c.join-first.result.1 within first c.join-first.ensures.second).0

pub returns-clause-refused : goal.returns-clause-refused
returns-clause-refused g t c =
    let setup = c.args.self.now.setup.now in
    let batches = values c.args.self.now.batches.now in
    let stripes = c.args.self.now.stripes.now in
    let middle = c.args.from + (c.args.to - c.args.from) / 2 in
    let within : c.args.from ≤ middle = omega arith in
    let first = subst (λ r. OnOk r (AreWholeIn setup batches stripes c.args.from middle)) c.in_ok-first.was c.join-first.ensures.first.0 in
    (second-told setup batches stripes c.args.from middle c.args.to c.join-first.result.1 within first c.join-first.ensures.second).1

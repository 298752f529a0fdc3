use Rattle.std.proofs.Common.{◌<◌, length, arith}
use Rattle.std.proofs.lemmas.Result.{err_from_is_err_and}
use Rattle.kc_word.specs.Shared.{values}
use Rattle.kc_gather.proofs.Stripes.{stands-at, one-more-whole}
use Rattle.kc_gather.proofs.given_stripes.GivenStripes.check.Goals as goal

pub returns-in_err-check_stripe-clause-refused : goal.returns-in_err-check_stripe-clause-refused
returns-in_err-check_stripe-clause-refused g c =
    let stripes = c.args.self.now.stripes.now in
    let within : c.loop-index.index < length stripes = omega (arith, c.loop-index-test.true, c.requires.0) in
    let p = err_from_is_err_and c.from_residual.result c.from_residual.ensures.1 in
    rw (p.1, p.2) (record {
      at = c.loop-index.index;
      behind = omega (arith, c.loop-index.auto.index);
      before = c.loop-index-test.true;
      whole = c.loop-index.invariant;
      refusal = stands-at c.args.self.now.setup.now (values c.args.self.now.batches.now) stripes c.loop-index.index c.index-self-index.result within c.in_err-check_stripe.ensures.refused;
    })

pub loop-index-preserved : goal.loop-index-preserved
loop-index-preserved g c =
    let setup = c.args.self.now.setup.now in
    let batches = values c.args.self.now.batches.now in
    let stripes = c.args.self.now.stripes.now in
    let within : c.loop-index.index < length stripes = omega (arith, c.loop-index-test.true, c.requires.0) in
    one-more-whole setup batches stripes c.args.from c.loop-index.index c.loop-index.invariant
    (stands-at setup batches stripes c.loop-index.index c.index-self-index.result within c.in_ok-check_stripe.ensures.whole)

pub returns-clause-whole : goal.returns-clause-whole
returns-clause-whole g c = λ i behind before. c.loop-index.invariant i behind (omega (arith, before, c.loop-index-test.false))

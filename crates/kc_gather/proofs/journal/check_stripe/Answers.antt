use Rattle.std.proofs.Common.{subst}
use Rattle.kc_word.specs.Shared.{values}
use Rattle.kc_gather.specs.Gathering.{HasAllNumbers}
use Rattle.kc_gather.proofs.journal.check_stripe.Goals as goal

pub returns-in-None-clause-whole : goal.returns-in-None-clause-whole
returns-in-None-clause-whole g c = record {
  own = c.is_own.ensures.0 c.if-not-is_own.false;
  all = subst (HasAllNumbers (values c.args.batches.now)) c.journal.ensures c.in-None.ensures.none;
}

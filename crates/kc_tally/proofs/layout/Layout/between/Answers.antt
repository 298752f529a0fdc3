use Rattle.std.proofs.Common.{arith}
use Rattle.kc_tally.proofs.PackingLemmas.{IsSpan, span_room, span_fits}
use Rattle.kc_tally.proofs.layout.Layout.between.Goals as goal
use Rattle.kc_tally.proofs.layout.Layout.between.Goals.{After-ilog2-highest}

span : (c : After-ilog2-highest) → IsSpan c.args.least c.args.greatest c.ilog2-highest.result
span c =
    let widest = c.max.ensures in
    let least = c.ilog2-highest.ensures.power_le in
    let next = c.ilog2-highest.ensures.next_power_gt in
    record {
      order = c.requires.order;
      small = c.requires.small;
      least_power = omega (arith, widest, least);
      next_power = omega (arith, widest, next);
      bound = c.ilog2-highest.ensures.bound;
    }

pub invariant_of-result : goal.invariant_of-result
invariant_of-result c =
    (omega arith, span_fits c.args.least c.args.greatest c.ilog2-highest.result (span (goal.at.invariant_of-result c).After-ilog2-highest))

pub returns-clause-room : goal.returns-clause-room
returns-clause-room c =
    span_room c.args.least c.args.greatest c.ilog2-highest.result (span (goal.at.returns-clause-room c).After-ilog2-highest)

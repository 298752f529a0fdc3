use Rattle.std.proofs.Common.{All, arith, rules}
use Rattle.std.proofs.lemmas.Grind.{common_steps}
use Rattle.kc_run.proofs.AllowedLemmas.{allowed_more}
use Rattle.kc_run.proofs.worker.Worker.draw_batches.Goals as goal

pub returns-then-taken-positions-clause-allowed : goal.returns-then-taken-positions-clause-allowed
returns-then-taken-positions-clause-allowed g c =
    allowed_more g.N.Terms.may_be_booked c.args.job.now.batches.now c.loop-taken.drawn c.index-job-drawn.result c.loop-taken.round.batches c.cut_up.new.self.batches
    c.requires.allowed c.loop-taken.invariant.drawn c.loop-taken.invariant.allowed c.in_ok-cut_up.ensures.batches

pub returns-in_default-clause-allowed : goal.returns-in_default-clause-allowed
returns-in_default-clause-allowed g c =
    allowed_more g.N.Terms.may_be_booked c.args.job.now.batches.now c.loop-taken.drawn c.index-job-drawn.result c.loop-taken.round.batches c.cut_up.new.self.batches
    c.requires.allowed c.loop-taken.invariant.drawn c.loop-taken.invariant.allowed c.in_ok-cut_up.ensures.batches

pub loop-taken-preserved : goal.loop-taken-preserved
loop-taken-preserved g c =
    let allowed : All g.N.Terms.may_be_booked c.cut_up.new.self.batches =
    allowed_more g.N.Terms.may_be_booked c.args.job.now.batches.now c.loop-taken.drawn c.index-job-drawn.result c.loop-taken.round.batches c.cut_up.new.self.batches
    c.requires.allowed c.loop-taken.invariant.drawn c.loop-taken.invariant.allowed c.in_ok-cut_up.ensures.batches in
    record {
      own = search rules;
      more = search rules;
      share = search rules;
      drawn = search rules;
      setup = search rules;
      answered = grind (arith, common_steps);
      allowed = allowed;
      few = grind (arith, common_steps);
      taken = grind (arith, common_steps);
      small = grind (arith, common_steps);
    }

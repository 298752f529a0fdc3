use Rattle.std.proofs.Common.{◌∙◌, ap, sym, refl, subst, length, arith}
use Rattle.kc_word.specs.Cutting.{cleaned}
use Rattle.kc_word.specs.Walking.{IsWalking, at_front}
use Rattle.kc_word.proofs.Cleaning.{length-cleaned}
use Rattle.kc_select.specs.CountWalks.{runs_left}
use Rattle.kc_select.proofs.CountWalkLemmas.{runs-start}
use Rattle.kc_select.proofs.count_walk.CountWalk.new.Goals as goal

pub invariant_of-result : goal.invariant_of-result
invariant_of-result c =
    let long = length-cleaned c.args.rule c.args.read.now in
    let same = ap (λ r. r.k) c.new.ensures.rule in
    let some = c.new.ensures.some in
    record {
      place = subst (λ r. IsWalking (at_front r (cleaned r c.args.read.now)) c.new.result) (sym c.new.ensures.rule)
          (c.new.ensures.front (cleaned c.args.rule c.args.read.now) (omega (arith, long, ap length c.bases-count.ensures.value)));
      at = omega (arith, c.new-2.ensures.at, same, some);
    }

pub returns : goal.returns
returns c =
    ap (λ r. runs_left (record { tally = c.args.index.now; rule = r; read = c.args.read.now; taken = 0; runs = c.new-2.result }))
    c.new.ensures.rule
    ∙ runs-start (record { tally = c.args.index.now; rule = c.args.rule; read = c.args.read.now; taken = 0; runs = c.new-2.result })
    c.new.ensures.some refl c.new-2.ensures.runs

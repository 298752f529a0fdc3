use Rattle.std.proofs.Common.{sym, arith}
use Rattle.kc_word.proofs.RunLemmas.{inside-run, before-run, behind-run, is_in_runs-none, is_in_runs-more, is_in_runs-at, is_in_runs-all, read-run}
use Rattle.kc_word.proofs.runs.is_in_runs.Goals as goal
use Rattle.kc_word.proofs.runs.is_in_runs.Goals.{else-run-i-via-then-run-i+else-i-run, else-run-i-via-else-run-i}

pub loop-run-init : goal.loop-run-init
loop-run-init c = is_in_runs-none c.args.i

pub returns-then-i-run : goal.returns-then-i-run
returns-then-i-run c =
    let start = c.if-run-i.true in
    let length = c.if-i-run.true in
    sym (is_in_runs-at c.args.runs.now c.args.i c.loop-run.run-index _ (omega arith) (read-run c.args.runs.now c.loop-run.run-index (omega arith))
    (inside-run _ c.args.i start (omega (arith, start, length))))

pub loop-run-preserved : goal.loop-run-preserved
loop-run-preserved c =
    is_in_runs-more c.args.runs.now c.args.i c.loop-run.run-index _ (omega arith) (read-run c.args.runs.now c.loop-run.run-index (omega arith))
    (elim c.else-run-i.branch [
      | else-run-i-via-then-run-i+else-i-run w ↦
          let start = w.if-run-i.true in
          let length = w.if-i-run.false in
          behind-run _ c.args.i (omega (arith, start, length))
      | else-run-i-via-else-run-i w ↦ before-run _ c.args.i (let start = w.if-run-i.false in omega (arith, start))
    ]) c.loop-run.invariant

pub returns : goal.returns
returns c = sym (is_in_runs-all c.args.runs.now c.args.i c.loop-run.run-index (omega arith) c.loop-run.invariant)

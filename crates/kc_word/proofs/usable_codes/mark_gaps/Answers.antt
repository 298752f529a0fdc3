use Rattle.std.proofs.Common.{◌≡◌, ◌+◌, ◌<◌, ◌≤◌, List, ap, sym, subst, arith}
use Rattle.kc_word.specs.declared.runs.Run.{Run}
use Rattle.kc_word.specs.UsableCodes.{AreGaps}
use Rattle.kc_word.specs.Runs.{AreGrown}
use Rattle.kc_word.proofs.UsableLemmas.{gaps-base, gaps-gap}
use Rattle.kc_word.proofs.usable_codes.mark_gaps.Goals as goal
use Rattle.kc_word.proofs.usable_codes.mark_gaps.Goals.{then-usable_code-ge-NO_BASE+in_ok-push_run}
use Rattle.kc_word.proofs.usable_codes.mark_gaps.Goals.{else-usable_code-ge-NO_BASE}

pub loop-i-preserved : goal.loop-i-preserved
loop-i-preserved c =
    let next : c.args.from + c.loop-i.i + 1 ≡ c.args.from + (c.loop-i.i + 1) = omega arith in
    subst (λ n. AreGaps c.args.rule.now c.args.read.now n c.if-usable_code-ge-NO_BASE.runs.items) next
    (elim c.if-usable_code-ge-NO_BASE.branch [
      | then-usable_code-ge-NO_BASE+in_ok-push_run w ↦
          gaps-gap c.args.rule.now c.args.read.now (c.args.from + c.loop-i.i) c.loop-i.runs.items c.if-usable_code-ge-NO_BASE.runs.items c.loop-i.invariant
          (subst (λ n. 4 ≤ n) c.usable_code.ensures w.if-usable_code-ge-NO_BASE.true)
          (subst (λ (rs : List Run). AreGrown c.loop-i.runs.items rs (c.args.from + c.loop-i.i) 1) (sym (ap (λ v. v.items) w.runs-is)) w.in_ok-push_run.ensures.grown)
      | else-usable_code-ge-NO_BASE w ↦
          subst (λ (rs : List Run). AreGaps c.args.rule.now c.args.read.now (c.args.from + c.loop-i.i + 1) rs) (sym (ap (λ v. v.items) w.runs-is))
          (gaps-base c.args.rule.now c.args.read.now (c.args.from + c.loop-i.i) c.loop-i.runs.items c.loop-i.invariant
          (subst (λ n. n < 4) c.usable_code.ensures w.if-usable_code-ge-NO_BASE.false))
    ])

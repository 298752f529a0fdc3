use Rattle.std.proofs.Common.{◌+◌, ap, sym, ◌∙◌, subst, arith}
use Rattle.std.proofs.lemmas.List.{nil_from_length}
use Rattle.kc_word.specs.Runs.{run_end, AreGrown}
use Rattle.kc_word.proofs.RunLemmas.{last-read, last-end, AreGrown-longer, AreGrown-first, AreGrown-push}
use Rattle.kc_word.proofs.runs.push_run.Goals as goal
use Rattle.kc_word.proofs.runs.push_run.Goals.{else-last-gt0-via-then-last-gt0+else-index-at, else-last-gt0-via-else-last-gt0}

pub overflow_add-index : goal.overflow_add-index
overflow_add-index c =
    let last = last-read c.args.at c.len-last.result c.args.runs.now.items c.index.result.now c.index-then-last-gt0.result.now c.if-last-gt0.true
    (c.len-last.ensures ∙ c.args.runs.now.ok.0) c.requires.rising c.index.ensures c.index-then-last-gt0.ensures in
    let long = ap (λ run. run.length) last.same in
    let below = last-end last.found in
    let fits = c.requires.fits in
    omega (arith, long, below, fits)

pub returns-then-index-at-clause-grown : goal.returns-then-index-at-clause-grown
returns-then-index-at-clause-grown c =
    let last = last-read c.args.at c.len-last.result c.args.runs.now.items c.index_mut.result.now c.index.result.now c.if-last-gt0.true
    (c.len-last.ensures ∙ c.args.runs.now.ok.0) c.requires.rising c.index_mut.ensures.value c.index.ensures in
    let again = last-read c.args.at c.len-last.result c.args.runs.now.items c.index.result.now c.index-then-last-gt0.result.now c.if-last-gt0.true
    (c.len-last.ensures ∙ c.args.runs.now.ok.0) c.requires.rising c.index.ensures c.index-then-last-gt0.ensures in
    AreGrown-longer c.args.count last.found
    (ap run_end last.same ∙ ap (λ run. c.index.result.now.start + run.length) again.same ∙ c.if-index-at.true)

pub returns-clause-grown : goal.returns-clause-grown
returns-clause-grown c =
    let count = c.len-last.ensures in
    let long = c.args.runs.now.ok.0 in
    subst (λ next. AreGrown c.args.runs.now.items next c.args.at c.args.count) (sym (c.in_ok-push.ensures.items))
    (elim c.else-last-gt0.branch [
      | else-last-gt0-via-then-last-gt0+else-index-at w ↦
          let last = last-read c.args.at c.len-last.result c.args.runs.now.items w.index.result.now w.index-then-last-gt0.result.now w.if-last-gt0.true
          (count ∙ long) c.requires.rising w.index.ensures w.index-then-last-gt0.ensures in
          AreGrown-push c.args.count last.found c.requires.some
          (λ e. w.if-index-at.false (sym (ap (λ run. w.index.result.now.start + run.length) last.same) ∙ e))
      | else-last-gt0-via-else-last-gt0 w ↦
          let none = w.if-last-gt0.false in
          AreGrown-first c.args.at c.args.count c.args.runs.now.items c.requires.some (nil_from_length c.args.runs.now.items (omega (arith, none, count, long)))
    ])

use Rattle.std.proofs.Common.{◌∙◌, ◌+◌, ℕ, List, sym, subst}
use Rattle.kc_tally.proofs.Bins.{AreLeft, all-left, one-left, left-fits, none-left}
use Rattle.kc_tally.proofs.Parts.{all_rows}
use Rattle.kc_tally.proofs.histogram.Histogram.of_packed.Goals as goal

pub loop-row-init : goal.loop-row-init
loop-row-init c =
    subst (AreLeft (all_rows c.args.parts.now) c.in_ok-histogram.histogram 0) (sym (c.into_iter-row-iterator.ensures.into_iter_gives ∙ c.new-row-items.ensures))
    (all-left (all_rows c.args.parts.now) c.in_ok-histogram.histogram c.in_ok-histogram.ensures c.requires.rows)

pub overflow_add-total : goal.overflow_add-total
overflow_add-total c =
    let all = all_rows c.args.parts.now in
    let left = subst (AreLeft all c.loop-row.histogram c.loop-row.total) c.in-Some.ensures.steps c.loop-row.invariant in
    record { fits = (left-fits all c.loop-row.histogram c.loop-row.total c.in-Some.row c.next.new.self left c.requires.total).1 }

pub count_in-requires : goal.count_in-requires
count_in-requires c =
    let all = all_rows c.args.parts.now in
    let left = subst (AreLeft all c.loop-row.histogram c.loop-row.total) c.in-Some.ensures.steps c.loop-row.invariant in
    (left-fits all c.loop-row.histogram c.loop-row.total c.in-Some.row c.next.new.self left c.requires.total).0

pub loop-row-preserved : goal.loop-row-preserved
loop-row-preserved c =
    let all = all_rows c.args.parts.now in
    let left = subst (AreLeft all c.loop-row.histogram c.loop-row.total) c.in-Some.ensures.steps c.loop-row.invariant in
    subst (λ (bins : List ℕ). AreLeft all bins (c.loop-row.total + c.in-Some.row.count) c.next.new.self) (sym c.count_in.ensures)
    (one-left all c.loop-row.histogram c.loop-row.total c.in-Some.row c.next.new.self left)

pub returns-clause-bins : goal.returns-clause-bins
returns-clause-bins c =
    let all = all_rows c.args.parts.now in
    (none-left all c.loop-row.histogram c.loop-row.total (subst (AreLeft all c.loop-row.histogram c.loop-row.total) c.in-None.ensures.steps.0 c.loop-row.invariant)).0

pub returns-clause-total : goal.returns-clause-total
returns-clause-total c =
    let all = all_rows c.args.parts.now in
    (none-left all c.loop-row.histogram c.loop-row.total (subst (AreLeft all c.loop-row.histogram c.loop-row.total) c.in-None.ensures.steps.0 c.loop-row.invariant)).1

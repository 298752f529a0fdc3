use Rattle.std.proofs.Common.{◌≤◌, ◌-◌, ◌<◌, length, All, arith, subst}
use Rattle.std.proofs.lemmas.List.Elements.{All-head, All-rest}
use Rattle.kc_tally.proofs.Parts.{rows-few}
use Rattle.kc_report.proofs.CountLemmas.{counted-row, counted-past, counted-most}
use Rattle.kc_report.proofs.histogram_text.count_rows.Goals as goal
use Rattle.kc_report.proofs.histogram_text.count_rows.Goals.{In-Some}

some : (c : In-Some) → 1 ≤ c.in-Some.row.count
some c =
    All-head (λ row. 1 ≤ row.count) c.in-Some.row c.next.new.self
    (subst (All (λ row. 1 ≤ row.count)) c.in-Some.ensures.steps c.loop-row.invariant.present)

rest : (c : In-Some) → All (λ row. 1 ≤ row.count) c.next.new.self
rest c = All-rest (λ row. 1 ≤ row.count) c.in-Some.row c.next.new.self c.loop-row.row-iterator c.in-Some.ensures.steps c.loop-row.invariant.present

pub overflow_add-words : goal.overflow_add-words
overflow_add-words c =
    let tally = c.args.tally.now in
    let count = c.in-Some.row.count in
    let one = some (goal.at.overflow_add-words c).In-Some in
    let few = rows-few tally.k tally.both tally.rows c.rows-row-items.ensures.lawful in
    let below : count - 1 < length c.args.words.now = omega (arith, one, c.if-row-words.true) in
    let most = counted-most c.loop-row.invariant.counted c.in-Some.ensures.steps (count - 1) below in
    record { fits = omega (arith, few, most) }

pub loop-row-preserved-then-row-words : goal.loop-row-preserved-then-row-words
loop-row-preserved-then-row-words c =
    let shared = (goal.at.loop-row-preserved-then-row-words c).In-Some in
    record {
      can_next = tt;
      is_finite = tt;
      counted = counted-row c.loop-row.invariant.counted c.in-Some.ensures.steps (some shared) (omega (arith, c.if-row-words.true));
      present = rest shared;
    }

pub loop-row-preserved : goal.loop-row-preserved
loop-row-preserved c =
    let shared = (goal.at.loop-row-preserved c).In-Some in
    record {
      can_next = tt;
      is_finite = tt;
      counted = counted-past c.loop-row.invariant.counted c.in-Some.ensures.steps (omega (arith, c.if-row-words.false));
      present = rest shared;
    }

use Rattle.std.proofs.Common.{◌≡◌, ◌+◌, List, length, get_or, ap, arith}
use Rattle.kc_tally.specs.declared.row.Row.{Row}
use Rattle.kc_tally.proofs.Parts.{long-front, long-next}
use Rattle.kc_tally.proofs.tally.row_count.Goals as goal

pub overflow_add-count : goal.overflow_add-count
overflow_add-count c =
    let parts = c.args.parts.now in
    let i = c.loop-part.part-index in
    let part = c.part-item.result in
    let is : length part ≡ length (get_or parts i part) = ap length c.part-item.is in
    let next = long-next (λ (part : List Row). part) parts i part c.loop-part-test.true in
    let front = long-front (λ (part : List Row). part) parts (i + 1) in
    record { fits = omega (arith, is, next, front, c.requires, c.loop-part.invariant, c.len.ensures) }

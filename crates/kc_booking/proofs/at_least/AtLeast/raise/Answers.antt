use Rattle.std.proofs.Common.{◌-◌, ◌+◌, arith}
use Rattle.std.proofs.lemmas.List.{get_or_read}
use Rattle.kc_booking.proofs.AtLeastLemmas.{changed-beyond, changed-within}
use Rattle.kc_booking.proofs.at_least.AtLeast.raise.Goals as goal

pub returns-then-count-gt-LAST_BIN : goal.returns-then-count-gt-LAST_BIN
returns-then-count-gt-LAST_BIN c = changed-beyond (λ n. n + 1) c.args.self.now c.args.count (omega arith)

pub returns : goal.returns
returns c =
    changed-within (λ n. n + 1) c.self.inside.numbers.items c.args.self.now c.args.count c.index_mut.result.now c.self.view_is
    (get_or_read c.self.inside.numbers.items (c.args.count - 1) _ (omega (arith, c.self.invariant)) c.index_mut.ensures.value 0) (omega arith)

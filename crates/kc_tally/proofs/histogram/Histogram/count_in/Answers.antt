use Rattle.std.proofs.Common.{◌+◌, ◌-◌, ℕ, ◌≡◌, ◌<◌, length, set, sym, ◌∙◌, ap, arith}
use Rattle.std.proofs.lemmas.List.{get_or_read}
use Rattle.kc_tally.specs.Histogram.{gained}
use Rattle.kc_tally.proofs.Bins.{counted_in-none, counted_in-some}
use Rattle.kc_tally.proofs.histogram.Histogram.count_in.Goals as goal

pub returns-then-count-gt0 : goal.returns-then-count-gt0
returns-then-count-gt0 c =
    let bin = c.min.result in
    let long : length c.self.inside.bins.items ≡ 10_001 = c.self.invariant in
    let there : c.min.result - 1 < length c.self.inside.bins.items = omega (arith, long) in
    let gain = λ (size : ℕ). set c.self.inside.bins.items (bin - 1) (size + 1) in
    ap gain (get_or_read c.self.inside.bins.items (bin - 1) _ there c.index_mut.ensures.value 0)
    ∙ ap (λ bins. gained bins bin) c.self.view_is
    ∙ ap (gained c.args.self.now) c.min.ensures ∙ sym (counted_in-some c.args.self.now c.args.count (omega arith))

pub returns-else-count-gt0 : goal.returns-else-count-gt0
returns-else-count-gt0 c = sym (counted_in-none c.args.self.now c.args.count (omega arith))

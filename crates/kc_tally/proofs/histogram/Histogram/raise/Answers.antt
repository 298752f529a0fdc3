use Rattle.std.proofs.Common.{ℕ, ◌≡◌, ◌+◌, ◌-◌, length, length-set, set, get_or, sym, ◌∙◌, ap, arith}
use Rattle.std.proofs.lemmas.List.{get_or_read}
use Rattle.kc_tally.specs.Histogram.{gained, lost}
use Rattle.kc_tally.specs.declared.histogram.Histogram.TheInside.{Inside}
use Rattle.kc_tally.proofs.Bins.{raised-beyond, raised-here, raised-new}
use Rattle.kc_tally.proofs.histogram.Histogram.raise.Goals as goal
use Rattle.kc_tally.proofs.histogram.Histogram.raise.Goals.{then-count-gt0, else-count-gt0}

pub returns-then-count-ge-LAST_BIN : goal.returns-then-count-ge-LAST_BIN
returns-then-count-ge-LAST_BIN c = sym (raised-beyond c.args.self.now c.args.count (omega arith) c.requires.some)

pub returns : goal.returns
returns c =
    let left = c.if-count-gt0.self-inside.bins.items in
    let next : c.args.count ≡ c.args.count + 1 - 1 = omega arith in
    let long : length c.self.inside.bins.items ≡ 10_001 = c.self.invariant in
    let gain : length left ≡ 10_001 → set left c.args.count (c.index_mut-2.result.now + 1) ≡ gained left (c.args.count + 1) = λ whole.
    ap (λ (size : ℕ). set left c.args.count (size + 1))
    (get_or_read left c.args.count _ (omega (arith, whole)) c.index_mut-2.ensures.value 0)
    ∙ ap (λ i. set left i (get_or left i 0 + 1)) next in
    elim c.if-count-gt0.branch [
      | then-count-gt0 w ↦
          let was = ap (λ (inside : Inside). inside.bins.items) w.self-inside-is in
          gain (ap length was ∙ length-set _ _ _ ∙ long) ∙ ap (λ bins. gained bins (c.args.count + 1))
          (was ∙ ap (λ (size : ℕ). set c.self.inside.bins.items (c.args.count - 1) (size - 1))
          (get_or_read c.self.inside.bins.items (c.args.count - 1) _ (omega (arith, long)) w.index_mut.ensures.value 0)
          ∙ ap (λ bins. lost bins c.args.count) c.self.view_is)
          ∙ raised-here c.args.self.now c.args.count (omega arith) (omega arith)
      | else-count-gt0 w ↦
          let was = ap (λ (inside : Inside). inside.bins.items) w.self-inside-is in
          gain (ap length was ∙ long) ∙ ap (λ bins. gained bins (c.args.count + 1)) (was ∙ c.self.view_is)
          ∙ raised-new c.args.self.now c.args.count (omega arith)
    ]

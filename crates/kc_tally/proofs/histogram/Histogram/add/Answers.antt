use Rattle.std.proofs.Common.{ℕ, ◌+◌, ◌<◌, ◌^◌, sym, ◌∙◌, ap, subst, arith, List, All}
use Rattle.kc_tally.specs.Histogram.{joined_bins}
use Rattle.kc_tally.proofs.Bins.{joined-fits, IsJoinedTo-all}
use Rattle.kc_tally.proofs.histogram.Histogram.add.Goals as goal

pub overflow_add-index_mut : goal.overflow_add-index_mut
overflow_add-index_mut c =
    let P : List ℕ → List ℕ → Type 0 = λ old others. All (λ size. size < 2 ^ 64) (joined_bins old others) in
    let fits : P c.self.inside.bins.items c.other.inside.bins.items =
    subst (λ old. P old c.other.inside.bins.items) (sym c.self.view_is) (subst (P c.args.self.now) (sym c.other.view_is) c.requires) in
    let sum : c.index_mut.result.now + c.index.result.now < 2 ^ 64 =
    joined-fits c.self.inside.bins.items c.other.inside.bins.items c.loop-i.self-inside.bins.items (record {
      index = c.loop-i.i;
      size = c.index_mut.result.now;
      other_size = c.index.result.now;
      within = omega arith;
      long = c.self.invariant;
      others_long = c.other.invariant;
      size_is = c.index_mut.ensures.value;
      other_size_is = c.index.ensures;
    }) fits c.loop-i.invariant in
    omega (arith, sum)

pub returns : goal.returns
returns c =
    IsJoinedTo-all c.loop-i.i c.self.inside.bins.items c.other.inside.bins.items c.loop-i.self-inside.bins.items (c.self.invariant ∙ sym c.other.invariant)
    (let long = c.self.invariant in omega (arith, long)) c.loop-i.invariant
    ∙ ap (λ old. joined_bins old c.other.inside.bins.items) c.self.view_is ∙ ap (joined_bins c.args.self.now) c.other.view_is

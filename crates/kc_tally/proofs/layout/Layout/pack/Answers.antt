use Rattle.std.proofs.Common.{◌+◌, ◌-◌, ◌*◌, ◌^◌, ◌<◌, ◌≤◌, ◌∙◌, ap, subst, sym, arith}
use Rattle.kc_tally.specs.Packing.{LayoutSeen}
use Rattle.kc_tally.proofs.PackingLemmas.{shifted, small}
use Rattle.kc_tally.proofs.layout.Layout.pack.Goals as goal
use Rattle.kc_tally.proofs.layout.Layout.pack.Goals.{After-small_count}

-- how far the word is above the least one, and what is below that
gap : (c : After-small_count) → c.args.row.word - c.self.inside.least < 2 ^ (64 - c.self.inside.low)
gap c =
    let room = subst (λ (layout : LayoutSeen). c.args.row.word < layout.least + 2 ^ (64 - layout.low)) (sym c.self.view_is) c.requires.room in
    let least = subst (λ (layout : LayoutSeen). layout.least ≤ c.args.row.word) (sym c.self.view_is) c.requires.least in
    omega (arith, room, least)

fits : (c : After-small_count) → c.small_count.result < 2 ^ c.self.inside.low
fits c = subst (λ (layout : LayoutSeen). c.small_count.result < 2 ^ layout.low) (sym c.self.view_is) c.small_count.ensures.fits

pub overflow_add-result : goal.overflow_add-result
overflow_add-result c =
    let shared = (goal.at.overflow_add-result c).After-small_count in
    record { fits = (shifted (c.args.row.word - c.self.inside.least) c.small_count.result c.self.inside.low c.self.invariant.0 (gap shared) (fits shared)).1 }

pub returns : goal.returns
returns c =
    let shared = (goal.at.returns c).After-small_count in
    (shifted (c.args.row.word - c.self.inside.least) c.small_count.result c.self.inside.low c.self.invariant.0 (gap shared) (fits shared)).0
    ∙ ap (λ n. (c.args.row.word - c.self.inside.least) * 2 ^ c.self.inside.low + n) c.small_count.ensures.value
    ∙ ap (λ (layout : LayoutSeen). (c.args.row.word - layout.least) * 2 ^ layout.low + small c.args.self c.args.row) c.self.view_is

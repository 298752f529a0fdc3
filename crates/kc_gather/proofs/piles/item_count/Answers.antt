use Rattle.std.proofs.Common.{◌≡◌, ◌-◌, ◌^◌, ◌∙◌, length, min, vec_len, refl, ap, arith, rules}
use Rattle.std.proofs.lemmas.List.{take_all}
use Rattle.kc_gather.proofs.PileLemmas.{all_items, count-more}
use Rattle.kc_gather.proofs.piles.item_count.Goals as goal

pub loop-list-init : goal.loop-list-init
loop-list-init g c = refl

pub loop-list-preserved : goal.loop-list-preserved
loop-list-preserved g c =
    let long : vec_len c.list-item.result ≡ length c.list-item.result.items = search rules in
    count-more c.args.lists.now c.loop-list.list-index c.list-item.result c.loop-list.count c.saturating_add-count.result (c.loop-list-test.true, c.list-item.is) c.loop-list.invariant
    (omega (arith, c.saturating_add-count.ensures, c.len.ensures, long))

pub returns : goal.returns
returns g c = c.loop-list.invariant ∙ ap (λ lists. min (length (all_items lists)) (2 ^ 64 - 1)) (take_all c.loop-list.list-index c.args.lists.now c.loop-list-test.false)

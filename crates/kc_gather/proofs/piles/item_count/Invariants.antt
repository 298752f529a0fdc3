use Rattle.std.proofs.Common.{◌≡◌, ◌-◌, ◌^◌, length, min, take}
use Rattle.kc_gather.proofs.PileLemmas.{all_items}
use Rattle.kc_gather.proofs.piles.item_count.Given as goal

abbrev pub invariant-loop-list : goal.invariant-loop-list
invariant-loop-list g l = l.count ≡ min (length (all_items (take l.list-index l.lists))) (2 ^ 64 - 1)

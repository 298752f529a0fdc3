use Rattle.std.proofs.Common.{◌≡◌}
use Rattle.kc_gather.proofs.PileLemmas.{all_items}
use Rattle.kc_gather.proofs.piles.concat_lists.Given as goal

abbrev pub invariant-loop-list : goal.invariant-loop-list
invariant-loop-list g l = l.all.items ≡ all_items l.yielded

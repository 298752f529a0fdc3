use Rattle.std.proofs.Common.{◌≡◌, ◌≤◌, ◌+◌, ◌++◌, length}
use Rattle.kc_gather.proofs.PileLemmas.{all_items}
use Rattle.kc_gather.proofs.piles.piles_of.Given as goal

abbrev pub invariant-loop-item : goal.invariant-loop-item
invariant-loop-item g l = record {
  few : length l.piles.items + 1 ≤ l.most;
  all : all_items l.piles.items ++ l.pile.items ≡ l.yielded;
}

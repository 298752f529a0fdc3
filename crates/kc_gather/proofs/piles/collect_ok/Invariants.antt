use Rattle.std.proofs.Common.{◌≡◌, map, Ok}
use Rattle.kc_gather.proofs.piles.collect_ok.Given as goal

abbrev pub invariant-loop-answer : goal.invariant-loop-answer
invariant-loop-answer g l = map (λ list. Ok list) l.lists.items ≡ l.yielded

use Rattle.kc_gather.specs.Gathering.{HavePartsOf}
use Rattle.kc_gather.proofs.taken_parts.take_parts.Given as goal

abbrev pub invariant-loop-stripe : goal.invariant-loop-stripe
invariant-loop-stripe g l = HavePartsOf g.S.Summary.is_part l.yielded l.taken.items

use Rattle.std.proofs.Common.{ap, map, refl}
use Rattle.kc_word.proofs.Batching.{HasTaken-none}
use Rattle.kc_word.proofs.cutting.Cutting.new.Goals as goal

pub returns-clause-none : goal.returns-clause-none
returns-clause-none c = HasTaken-none _ (ap (map (λ batch. batch.value)) c.new.ensures.items) c.new-2.ensures.items refl

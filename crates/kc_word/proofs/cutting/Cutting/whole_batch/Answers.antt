use Rattle.std.proofs.Common.{ap, ◌∙◌}
use Rattle.kc_word.specs.PackedBatch.{pieces_in}
use Rattle.kc_word.proofs.Splitting.{pieces_in-none}
use Rattle.kc_word.proofs.cutting.Cutting.whole_batch.Goals as goal

pub loop-part-init : goal.loop-part-init
loop-part-init c = ap (pieces_in c.new.result) c.new-2.ensures.items ∙ pieces_in-none c.new.result

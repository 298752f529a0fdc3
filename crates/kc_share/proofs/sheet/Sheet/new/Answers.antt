use Rattle.kc_share.proofs.Steps.{begins}
use Rattle.kc_share.specs.Sheet.{plan_of}
use Rattle.kc_share.proofs.sheet.Sheet.new.Goals as goal

pub of_words-requires : goal.of_words-requires
of_words-requires c = begins (plan_of c.from.result c.args.parts)

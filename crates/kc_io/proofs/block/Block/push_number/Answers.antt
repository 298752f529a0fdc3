use Rattle.kc_io.proofs.BlockLemmas.{small_behind}
use Rattle.kc_io.proofs.block.Block.push_number.Goals as goal

pub returns-then-number-lt100-clause-short : goal.returns-then-number-lt100-clause-short
returns-then-number-lt100-clause-short c =
    small_behind c.args.number c.args.self.now c.push_front.new.self _ c.if-number-lt100.true
    c.small_decimal-count.ensures.digits c.push_front.ensures.pushed

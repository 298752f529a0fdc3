use Rattle.std.proofs.Common.{arith}
use Rattle.kc_io.proofs.BlockLemmas.{one_digit, two_digits}
use Rattle.kc_io.proofs.block.small_decimal.Goals as goal

pub returns-then-number-lt10-clause-digits : goal.returns-then-number-lt10-clause-digits
returns-then-number-lt10-clause-digits c = one_digit c.args.number c.if-number-lt10.true

pub returns-else-number-lt10-clause-digits : goal.returns-else-number-lt10-clause-digits
returns-else-number-lt10-clause-digits c =
    let some = c.if-number-lt10.false in
    two_digits c.args.number (omega (arith, some)) c.requires

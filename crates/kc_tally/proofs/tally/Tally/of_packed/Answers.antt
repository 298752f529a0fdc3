use Rattle.std.proofs.Common.{◌<◌, ◌^◌, length, sym, subst, arith}
use Rattle.kc_tally.specs.Tally.{total_of}
use Rattle.kc_tally.proofs.Parts.{all_rows, rows-few}
use Rattle.kc_tally.proofs.tally.Tally.of_packed.Goals as goal

pub of_packed-requires-clause-rows : goal.of_packed-requires-clause-rows
of_packed-requires-clause-rows c =
    subst (λ parts. length (all_rows parts) < 2 ^ 64) (sym c.deref.ensures.value)
    (let few = rows-few c.args.k c.args.both (all_rows c.args.parts.items) c.requires in omega (arith, few))

pub of_packed-requires-clause-total : goal.of_packed-requires-clause-total
of_packed-requires-clause-total c =
    subst (λ parts. total_of (all_rows parts) < 2 ^ 64) (sym c.deref.ensures.value)
    (let small = c.requires.small in omega (arith, small))

use Rattle.std.proofs.Common.{arith}
use Rattle.kc_combine.proofs.OpenTableLemmas.{first_behind, first_fits, first_small}
use Rattle.kc_combine.proofs.opening.Opening.of.Goals as goal

pub invariant_of-result : goal.invariant_of-result
invariant_of-result g c =
    let comes = c.in_ok-head.ensures.comes in record {
      behind = first_behind _ _ c.in_ok-head.head comes;
      small = first_small _ _ c.in_ok-head.head (omega (arith, c.get-bases.ensures.fits, c.k.ensures)) comes;
      fits = first_fits _ _ c.in_ok-head.head comes;
    }

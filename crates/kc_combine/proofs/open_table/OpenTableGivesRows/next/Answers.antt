use Rattle.std.proofs.Common.{Ok, arith}
use Rattle.kc_combine.proofs.OpenTableLemmas.{given_end, given_row, rises_with}
use Rattle.kc_combine.proofs.open_table.OpenTableGivesRows.next.Goals as goal

pub returns-in-Ok-clause-row : goal.returns-in-Ok-clause-row
returns-in-Ok-clause-row g c = λ rows given. given_row _ _ _ rows _ (Ok c.in-Ok.next) (c.in-Ok.ensures.given _ _ rows given)

pub returns-in-Ok-clause-end : goal.returns-in-Ok-clause-end
returns-in-Ok-clause-end g c = λ rows given. given_end _ _ _ rows _ (Ok c.in-Ok.next) (c.in-Ok.ensures.given _ _ rows given)

pub returns-in-Ok-clause-rises : goal.returns-in-Ok-clause-rises
returns-in-Ok-clause-rises g c =
    rises_with _ _ (Ok c.in-Ok.next) (omega (arith, c.get-bases.ensures.fits, c.k.ensures)) c.in-Ok.ensures.comes

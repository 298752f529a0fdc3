use Rattle.std.proofs.Common.{Some, refl}
use Rattle.std.proofs.lemmas.Result.{err_from_is_err_and}
use Rattle.kc_tool.proofs.reports.list_of.Goals as goal

pub returns-clause-list : goal.returns-clause-list
returns-clause-list g c =
    let gives = rw c.rule.ensures at c.in_ok-list.ensures.list in
    let list = c.in_ok-list.list in (
      Some (g.Q.Source.seen c.read_list.new.source),
      rw c.in-Some.is (list, gives, refl),
      record { k = gives.is_list.k; both = gives.is_list.both },
    )

pub returns-in_err-list-clause-fault : goal.returns-in_err-list-clause-fault
returns-in_err-list-clause-fault g c =
    let p = err_from_is_err_and c.from_residual.result c.from_residual.ensures.1 in
    rw (p.1, p.2, c.in-Some.is) (g.Q.Source.seen c.read_list.new.source, c.in_err-list.ensures.fault)

use Rattle.kc_tickets.proofs.LawLemmas.{each_once}
use Rattle.kc_tickets.proofs.ticket_laws.each_stands_once.Goals as goal

pub returns : goal.returns
returns c = each_once

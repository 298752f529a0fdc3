use Rattle.kc_lemmas.proofs.Numbers.{none_left_out}
use Rattle.kc_tickets.proofs.ticket_laws.none_is_left_out.Goals as goal

pub returns : goal.returns
returns c = none_left_out

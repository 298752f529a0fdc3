use Rattle.std.proofs.Common.{◌≡◌, vec_len}
use Rattle.std.specs.Prelude.{All}
use Rattle.kc_tickets.specs.Tickets.{IsSeatOf}
use Rattle.kc_run_tests.proofs.draws.play.Given as goal

abbrev pub invariant-loop-turn : goal.invariant-loop-turn
invariant-loop-turn g l = All (IsSeatOf l.tickets) l.row.items × (vec_len l.row ≡ l.tickets.seats)

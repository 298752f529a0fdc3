use Rattle.std.proofs.Common.{◌≡◌, ◌-◌, length}
use Rattle.kc_tickets.specs.Tickets.{IsSeatOf, IsDone, answers_of}
use Rattle.kc_run_tests.proofs.draws.drain.Given as goal

abbrev pub invariant-loop-number : goal.invariant-loop-number
invariant-loop-number l = IsSeatOf l.tickets l.seat × (¬ IsDone l.seat) × (l.numbers.items ≡ answers_of l.seat)

abbrev pub decreases-loop-number : goal.decreases-loop-number
decreases-loop-number l = l.tickets.limit - length (answers_of l.seat)

use Rattle.std.proofs.Common.{◌≡◌, ◌+◌, vec_len}
use Rattle.std.specs.Prelude.{All}
use Rattle.std.specs.List.{flat_map}
use Rattle.kc_tickets.specs.Tickets.{IsSeatOf, IsDone, answers_of}
use Rattle.kc_run_tests.proofs.draws.join_all.Given as goal

abbrev pub invariant-loop-thread : goal.invariant-loop-thread
invariant-loop-thread g l = record {
  promised : All (λ thread. thread.promise.0.value ≡ l.tickets) l.threads.items;
  counted : vec_len l.seats + vec_len l.threads ≡ vec_len l.fn.threads;
  own : All (IsSeatOf l.tickets) l.seats.items;
  done : All IsDone l.seats.items;
  numbers : flat_map (λ v. v.items) l.all.items ≡ flat_map answers_of l.seats.items;
}

abbrev pub decreases-loop-thread : goal.decreases-loop-thread
decreases-loop-thread g l = vec_len l.threads

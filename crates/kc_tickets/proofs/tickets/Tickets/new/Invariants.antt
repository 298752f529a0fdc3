use Rattle.std.proofs.Common.{◌≡◌, [], ◌+◌, length, vec_capacity}
use Rattle.std.specs.Prelude.{All}
use Rattle.kc_tickets.specs.Tickets.{TicketsSeen, SeatSeen, IsSeatOf}
use Rattle.kc_tickets.proofs.tickets.Tickets.new.Given as goal

abbrev pub invariant-loop : goal.invariant-loop
invariant-loop l =
    let shared = l.table.shared in
    let tickets : TicketsSeen = record { table = shared.table_id; limit = shared.key.limit; seats = shared.key.seats } in
    record {
      table : l.first.table_id ≡ shared.table_id;
      limit : l.first.me.0.limit ≡ shared.key.limit;
      weight : l.first.me.0.weight + length l.row.items ≡ l.seats;
      counted : length l.row.items + 1 ≡ l.counter;
      none_drawn : l.first.me.0.drawn ≡ [];
      no_slots : l.first.me.1 ≡ [];
      room : vec_capacity l.row ≡ l.seats;
      own : All (IsSeatOf tickets) l.row.items;
      fresh : All (λ (seat : SeatSeen). seat.drawn ≡ []) l.row.items;
    }

use Rattle.std.proofs.Common.{◌≡◌, All, length, vec_capacity}
use Rattle.kc_select.specs.LastRows.{AreLast}
use Rattle.kc_select.proofs.row_index.walks_of.Given as goal

abbrev pub invariant-loop : goal.invariant-loop
invariant-loop l = record {
  rest : AreLast l.fn.tally.rows l.rest;
  last : All (λ rows. AreLast l.fn.tally.rows rows) l.walks.items;
  long : length l.walks.items ≡ l.counter;
  room : vec_capacity l.walks ≡ l.room;
}

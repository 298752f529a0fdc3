use Rattle.std.proofs.Common.{◌≡◌, vec_capacity}
use Rattle.kc_select.proofs.row_index.put_starts.Given as goal

abbrev pub invariant-loop-row : goal.invariant-loop-row
invariant-loop-row l = record {
  can_next : goal.iterator-loop-row.can_next l.row-iterator;
  is_finite : goal.iterator-loop-row.is_finite l.row-iterator;
  room : vec_capacity l.starts ≡ vec_capacity l.fn.starts;
}

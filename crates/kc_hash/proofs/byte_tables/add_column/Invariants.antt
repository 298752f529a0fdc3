use Rattle.kc_hash.proofs.Bytes.{AddsColumn}
use Rattle.kc_hash.proofs.byte_tables.add_column.Given as goal

abbrev pub invariant-loop-lower : goal.invariant-loop-lower
invariant-loop-lower l = AddsColumn l.initial.table l.table l.width l.column l.lower

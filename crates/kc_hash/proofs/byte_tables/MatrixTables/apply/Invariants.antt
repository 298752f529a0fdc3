use Rattle.std.proofs.Common.{◌≡◌, ◌*◌, ◌%◌, ◌^◌}
use Rattle.kc_hash.specs.Product.{product}
use Rattle.kc_hash.proofs.byte_tables.MatrixTables.apply.Given as goal

abbrev pub invariant-loop-position : goal.invariant-loop-position
invariant-loop-position l = l.sum ≡ product l.self-inside.matrix (l.x % 2 ^ (8 * l.position))

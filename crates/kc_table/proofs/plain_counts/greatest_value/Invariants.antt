use Rattle.std.proofs.Common.{◌≡◌, fold, max}
use Rattle.std.specs.BTreeMap.{values}
use Rattle.kc_table.proofs.plain_counts.greatest_value.Given as goal

-- the greatest of the values that are left and the one so far is that of all values
abbrev pub invariant-loop-value : goal.invariant-loop-value
invariant-loop-value l = fold max l.greatest l.value-iterator ≡ fold max 0 (values l.map)

use Rattle.std.proofs.Common.{◌≡◌, map}
use Rattle.kc_gather.proofs.taken_rows.rows_in.Given as goal

abbrev pub invariant-loop-part : goal.invariant-loop-part
invariant-loop-part l = l.taken.items ≡ map (λ part. part.rows) l.yielded

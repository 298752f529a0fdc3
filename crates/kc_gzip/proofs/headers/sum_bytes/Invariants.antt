use Rattle.std.proofs.Common.{◌≡◌, ◌-◌}
use Rattle.kc_gzip.specs.Buffer.{bits_left}
use Rattle.kc_gzip.specs.Fields.{sum_bytes_at}
use Rattle.kc_gzip.proofs.headers.sum_bytes.Given as goal

abbrev pub invariant-loop : goal.invariant-loop
invariant-loop l = sum_bytes_at l.current (l.count - l.counter) (bits_left l.bits) ≡ sum_bytes_at l.register l.count (bits_left l.fn.bits)

use Rattle.std.proofs.Common.{◌≡◌, length}
use Rattle.kc_share.specs.Sheet.{opening_of}
use Rattle.kc_stripe.proofs.stripes.Stripes.new.Given as goal

abbrev pub invariant-loop-table : goal.invariant-loop-table
invariant-loop-table g l = record {
  opening : l.opening ≡ opening_of l.fn.sheet.plan (length l.yielded);
  counted : length l.locks.items ≡ length l.yielded;
}

use Rattle.std.proofs.Common.{Ok, length}
use Rattle.kc_gzip.specs.Buffer.{bits_left}
use Rattle.kc_gzip.specs.Fields.{SumsLetters}
use Rattle.kc_gzip.proofs.headers.sum_letters.Given as goal

abbrev pub invariant-letters : goal.invariant-letters
invariant-letters l = SumsLetters (Ok (l.current, l.ended)) l.register (bits_left l.fn.bits) (bits_left l.bits)

abbrev pub decreases-letters : goal.decreases-letters
decreases-letters l = length (bits_left l.bits)

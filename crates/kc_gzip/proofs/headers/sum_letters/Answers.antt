use Rattle.std.proofs.Common.{Ok, subst}
use Rattle.kc_gzip.specs.Buffer.{bits_left}
use Rattle.kc_gzip.specs.Fields.{SumsLetters}
use Rattle.kc_gzip.proofs.FieldLemmas.{letter-sums, letters-more, letter-fault, letters-fault, next_sum-shrinks}
use Rattle.kc_gzip.proofs.headers.sum_letters.Goals as goal

pub returns-in-Err : goal.returns-in-Err
returns-in-Err c = letter-fault c.args.register (bits_left c.args.bits.now) c.in-Err.fault c.in-Err.ensures.read

pub letters-init : goal.letters-init
letters-init c = letter-sums c.args.register c.in-Ok.next.0 (bits_left c.args.bits.now) (bits_left c.sum_letter.new.bits) c.in-Ok.next.1 c.in-Ok.ensures.read

pub returns-in-Err-sum_letter : goal.returns-in-Err-sum_letter
returns-in-Err-sum_letter c =
    letters-fault c.args.register c.letters.current (bits_left c.args.bits.now) (bits_left c.letters.bits) c.in-Err-sum_letter.fault
    (subst (λ b. SumsLetters (Ok (c.letters.current, b)) c.args.register (bits_left c.args.bits.now) (bits_left c.letters.bits)) c.letters-test.true c.letters.invariant) c.in-Err-sum_letter.ensures.read

pub letters-smaller : goal.letters-smaller
letters-smaller c =
    next_sum-shrinks c.letters.current (bits_left c.letters.bits) (bits_left c.sum_letter-in-letters.new.bits) (c.in-Ok-sum_letter.next.0, c.in-Ok-sum_letter.next.1) c.in-Ok-sum_letter.ensures.read

pub letters-preserved : goal.letters-preserved
letters-preserved c =
    letters-more c.args.register c.letters.current c.in-Ok-sum_letter.next.0 (bits_left c.args.bits.now) (bits_left c.letters.bits) (bits_left c.sum_letter-in-letters.new.bits) c.in-Ok-sum_letter.next.1
    (subst (λ b. SumsLetters (Ok (c.letters.current, b)) c.args.register (bits_left c.args.bits.now) (bits_left c.letters.bits)) c.letters-test.true c.letters.invariant) c.in-Ok-sum_letter.ensures.read

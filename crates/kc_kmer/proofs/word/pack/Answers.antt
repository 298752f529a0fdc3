use Rattle.std.proofs.Common.{get_or, arith, true≢false, sym, ◌∙◌}
use Rattle.kc_kmer.proofs.Packing.{IsPacked-none, IsPacked-more, IsPacked-fits, IsPacked-all, code-found, code-missing, base-at}
use Rattle.kc_kmer.proofs.word.pack.Goals as goal

pub loop-byte-init : goal.loop-byte-init
loop-byte-init c = IsPacked-none

pub returns-then-code-eq-NO_BASE-clause-found : goal.returns-then-code-eq-NO_BASE-clause-found
returns-then-code-eq-NO_BASE-clause-found c = (
  λ e. absurd (true≢false (sym e)),
  λ h. absurd (code-missing (get_or c.args.bytes.now c.loop-byte.byte-index 0) _ c.code_of-code.ensures c.if-code-eq-NO_BASE.true (base-at c.args.bytes.now c.loop-byte.byte-index (omega arith) h.1)),
)

pub overflow_mul-number : goal.overflow_mul-number
overflow_mul-number c =
    let small = IsPacked-fits c.args.bytes.now c.loop-byte.byte-index c.loop-byte.number (omega arith) (omega arith) c.loop-byte.invariant in
    omega arith

pub overflow_add-number : goal.overflow_add-number
overflow_add-number c =
    let small = IsPacked-fits c.args.bytes.now c.loop-byte.byte-index c.loop-byte.number (omega arith) (omega arith) c.loop-byte.invariant in
    omega arith

pub loop-byte-preserved : goal.loop-byte-preserved
loop-byte-preserved c =
    let found = code-found (get_or c.args.bytes.now c.loop-byte.byte-index 0) _ c.code_of-code.ensures c.if-code-eq-NO_BASE.false in
    IsPacked-more c.args.bytes.now c.loop-byte.byte-index c.loop-byte.number _ (omega arith) found.0 found.1 c.loop-byte.invariant

pub returns-clause-below : goal.returns-clause-below
returns-clause-below c = (IsPacked-all c.args.k c.args.bytes.now c.loop-byte.byte-index c.loop-byte.number (c.if-bytes-get.false ∙ c.get.ensures.value) c.loop-byte-test.false c.loop-byte.invariant).below

pub returns-clause-spelled : goal.returns-clause-spelled
returns-clause-spelled c = (IsPacked-all c.args.k c.args.bytes.now c.loop-byte.byte-index c.loop-byte.number (c.if-bytes-get.false ∙ c.get.ensures.value) c.loop-byte-test.false c.loop-byte.invariant).spelled

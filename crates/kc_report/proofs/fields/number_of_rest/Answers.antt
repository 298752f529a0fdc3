use Rattle.std.proofs.Common.{get_or, arith}
use Rattle.kc_report.proofs.FieldLemmas.{no_bases, spelled-fits, capital-most, capital-base, spelled-more}
use Rattle.kc_report.proofs.fields.number_of_rest.Goals as goal

pub returns-then-code-eq-NO_BASE-clause-none : goal.returns-then-code-eq-NO_BASE-clause-none
returns-then-code-eq-NO_BASE-clause-none c =
    no_bases c.args.letters.now c.loop-i.i c.code_of-code.result c.loop-i-test.true c.code_of-code.ensures
    c.if-code-eq-NO_BASE.true

pub overflow_mul-number : goal.overflow_mul-number
overflow_mul-number c =
    let small = spelled-fits c.args.letters.now c.loop-i.i c.loop-i.number c.loop-i-test.true c.requires.short
    c.loop-i.invariant in
    omega (arith, small)

pub overflow_add-number : goal.overflow_add-number
overflow_add-number c =
    let small = spelled-fits c.args.letters.now c.loop-i.i c.loop-i.number c.loop-i-test.true c.requires.short
    c.loop-i.invariant in
    let code = capital-most _ c.code_of-code.result c.code_of-code.ensures in
    omega (arith, small, code)

pub loop-i-preserved : goal.loop-i-preserved
loop-i-preserved c =
    let found = capital-base (get_or c.args.letters.now c.loop-i.i 0) c.code_of-code.result c.code_of-code.ensures
    c.if-code-eq-NO_BASE.false in
    spelled-more c.args.letters.now c.loop-i.i c.loop-i.number c.code_of-code.result c.loop-i-test.true found.0 found.1
    c.loop-i.invariant

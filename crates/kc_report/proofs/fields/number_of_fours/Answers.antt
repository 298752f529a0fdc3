use Rattle.std.proofs.Common.{◌*◌, ◌+◌, get_or, refl, sym, ◌∙◌, arith}
use Rattle.kc_report.proofs.FieldLemmas.{Four, spelled-none, spelled-fits_four, spelled-four, four_found, no_four}
use Rattle.kc_report.proofs.fields.number_of_fours.Goals as goal

pub loop-j-init : goal.loop-j-init
loop-j-init c = spelled-none

pub returns-then-four_of-four-clause-none : goal.returns-then-four_of-four-clause-none
returns-then-four_of-four-clause-none c =
    let letters = c.args.letters.now in
    let at = c.loop-j.j * 4 in
    let four : Four (get_or letters at 0) (get_or letters (at + 1) 0) (get_or letters (at + 2) 0)
    (get_or letters (at + 3) 0) _ = record {
      first = omega arith;
      second = omega arith;
      third = omega arith;
      fourth = omega arith;
      whole = refl;
    } in
    no_four letters c.loop-j.j c.codes_of_four-codes.result c.loop-j-test.true four
    c.codes_of_four-codes.ensures.inverse c.if-four_of-four.true
    c.four_of.ensures

pub overflow_mul-number : goal.overflow_mul-number
overflow_mul-number c =
    let small = spelled-fits_four c.args.letters.now c.loop-j.j c.loop-j.number c.loop-j-test.true c.requires
    c.loop-j.invariant in
    omega (arith, small)

pub overflow_add-number : goal.overflow_add-number
overflow_add-number c =
    let small = spelled-fits_four c.args.letters.now c.loop-j.j c.loop-j.number c.loop-j-test.true c.requires
    c.loop-j.invariant in
    let below = c.codes_of_four-codes.ensures.below in
    omega (arith, small, below)

pub loop-j-preserved : goal.loop-j-preserved
loop-j-preserved c =
    let letters = c.args.letters.now in
    let at = c.loop-j.j * 4 in
    let codes = c.codes_of_four-codes.result in
    let four : Four (get_or letters at 0) (get_or letters (at + 1) 0) (get_or letters (at + 2) 0)
    (get_or letters (at + 3) 0) _ = record {
      first = omega arith;
      second = omega arith;
      third = omega arith;
      fourth = omega arith;
      whole = refl;
    } in
    spelled-four letters c.loop-j.j c.loop-j.number codes c.loop-j-test.true c.codes_of_four-codes.ensures.below
    (four_found codes four (sym c.if-four_of-four.false ∙ c.four_of.ensures))
    c.loop-j.invariant

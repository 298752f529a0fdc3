use Rattle.std.proofs.Common.{◌∙◌, refl, arith}
use Rattle.kc_report.proofs.LetterLemmas.{letters-none, letters-more, letters-all}
use Rattle.kc_report.proofs.letters.letters_of.Goals as goal

pub loop-j-init : goal.loop-j-init
loop-j-init c = letters-none c.args.codes _ refl

pub loop-j-preserved : goal.loop-j-preserved
loop-j-preserved c =
    letters-more c.args.codes c.loop-j.j c.four_of-four.result c.loop-j.letters c.copy_from_slice.new.self
    c.loop-j-test.true c.four_of-four.ensures (c.copy_from_slice.ensures.after ∙ c.to_le_bytes.ensures)
    c.loop-j.invariant

pub returns : goal.returns
returns c =
    let end = c.loop-j.auto.j-end in
    let done = c.loop-j-test.false in
    letters-all c.args.codes c.loop-j.j c.loop-j.letters (omega (arith, end, done)) c.loop-j.invariant

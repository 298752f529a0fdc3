use Rattle.std.proofs.Common.{ap, sym, ◌∙◌, option_copied}
use Rattle.kc_word.proofs.UsableLemmas.{usable_code-high, usable_code-low, passes-none, passes-high, passes-low}
use Rattle.kc_word.proofs.usable_codes.usable_code.Goals as goal

pub returns-in-None : goal.returns-in-None
returns-in-None c =
    usable_code-high c.args.rule.now c.args.read.now c.args.i c.code_of-code.result c.bases.result.now c.bases.ensures.value
    (passes-none c.args.rule.now c.args.read.now c.args.i (sym (ap option_copied c.in-None.is)
    ∙ c.quals.ensures.value)) c.code_of-code.ensures

pub returns-then-quals-i : goal.returns-then-quals-i
returns-then-quals-i c =
    usable_code-high c.args.rule.now c.args.read.now c.args.i c.code_of-code.result c.bases.result.now c.bases.ensures.value
    (passes-high c.args.rule.now c.args.read.now c.args.i c.floor.result c.in-Some.quals.now
    (sym (ap option_copied c.in-Some.is)
    ∙ c.quals.ensures.value) c.floor.ensures.value c.if-quals-i.true) c.code_of-code.ensures

pub returns-else-quals-i : goal.returns-else-quals-i
returns-else-quals-i c =
    usable_code-low c.args.rule.now c.args.read.now c.args.i
    (passes-low c.args.rule.now c.args.read.now c.args.i c.floor.result c.in-Some.quals.now
    (sym (ap option_copied c.in-Some.is) ∙ c.quals.ensures.value) c.floor.ensures.value c.if-quals-i.false)

use Rattle.std.proofs.Common.{◌∙◌, ◌++◌, ap, take}
use Rattle.kc_report.proofs.LetterLemmas.{letters-front}
use Rattle.kc_report.proofs.dump.push_word.Goals as goal

pub returns-clause-pushed : goal.returns-clause-pushed
returns-clause-pushed c =
    c.push_front.ensures.pushed
    ∙ ap (λ bs. c.args.block.now ++ bs) (ap (take c.get-bases.result) c.letters_of-letters.ensures
    ∙ letters-front c.args.k c.get-bases.result c.args.word.0 c.get-bases.ensures.value c.get-bases.ensures.fits c.requires.below)

use Rattle.std.proofs.Common.{◌-◌, get_or, ltb-true}
use Rattle.kc_word.proofs.OnlyLemmas.{lesser-before}
use Rattle.kc_word.proofs.list_starts.are_lesser.Goals as goal

pub returns-then-place-words : goal.returns-then-place-words
returns-then-place-words c less =
    lesser-before c.args.words.now c.args.place c.args.word c.requires c.if-place-words.true
    (ltb-true (get_or c.args.words.now (c.args.place - 1) 0) c.args.word less)

use Rattle.std.proofs.Common.{get_or, ltb-true}
use Rattle.kc_word.proofs.OnlyLemmas.{greater-behind}
use Rattle.kc_word.proofs.list_starts.are_greater.Goals as goal

pub returns-else-place-words : goal.returns-else-place-words
returns-else-place-words c less =
    greater-behind c.args.words.now c.args.place c.args.word c.requires (ltb-true c.args.word (get_or c.args.words.now c.args.place 0) less)

use Rattle.std.proofs.Common.{sym, ◌∙◌}
use Rattle.std.proofs.lemmas.List.{get_or_default}
use Rattle.kc_word.proofs.OnlyLemmas.{Contains-listed, unlisted}
use Rattle.kc_word.proofs.list_starts.is_listed_at.Goals as goal

pub returns-then-words-place : goal.returns-then-words-place
returns-then-words-place c =
    sym (Contains-listed c.args.words.now c.args.word
    (c.args.place, c.if-place-words.true, sym (get_or_default c.args.words.now c.args.place 0 c.args.word c.if-place-words.true) ∙ c.if-words-place.true))

pub returns-then-are_greater : goal.returns-then-are_greater
returns-then-are_greater c =
    sym (unlisted c.args.words.now c.args.place c.args.word (c.are_lesser.ensures c.if-are_lesser.true) (c.are_greater.ensures c.if-are_greater.true))

use Rattle.std.proofs.Common.{◌∙◌}
use Rattle.kc_word.proofs.OnlyLemmas.{found-by-halving}
use Rattle.kc_word.proofs.list_starts.Starts.find.Goals as goal

pub returns-in-None : goal.returns-in-None
returns-in-None c =
    c.is_ok.ensures.value ∙ found-by-halving c.args.words.now c.args.word c.binary_search.result c.requires c.binary_search.ensures.position

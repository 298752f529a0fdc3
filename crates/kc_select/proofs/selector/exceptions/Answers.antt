use Rattle.std.proofs.Common.{◌∙◌, ◌++◌, ap, sym, subst, append-nil}
use Rattle.kc_word.specs.Only.{AreListed}
use Rattle.kc_select.specs.SolidWords.{AreExceptions, is_exception}
use Rattle.kc_select.proofs.SolidWordsLemmas.{exceptions_are, words_where, where_listed}
use Rattle.kc_select.proofs.selector.exceptions.Goals as goal

pub returns-clause-are : goal.returns-clause-are
returns-clause-are c =
    let tally = c.args.tally.now in
    let done = c.in-None.ensures.steps.0 in
    let all = c.shrink_to_fit.ensures.items ∙ sym (append-nil c.loop-row.words.items)
    ∙ ap (λ rows. c.loop-row.words.items ++ words_where (is_exception c.args.selection) rows) (sym done)
    ∙ c.loop-row.invariant.words in
    subst (λ words. AreExceptions tally c.args.selection words) (sym all)
    (exceptions_are tally.k tally.both c.args.selection tally.rows c.rows-row-items.ensures.lawful)

pub returns-clause-listed : goal.returns-clause-listed
returns-clause-listed c =
    let tally = c.args.tally.now in
    let done = c.in-None.ensures.steps.0 in
    let all = c.shrink_to_fit.ensures.items ∙ sym (append-nil c.loop-row.words.items)
    ∙ ap (λ rows. c.loop-row.words.items ++ words_where (is_exception c.args.selection) rows) (sym done)
    ∙ c.loop-row.invariant.words in
    subst (λ words. AreListed tally.k words) (sym all)
    (where_listed tally.k tally.both (is_exception c.args.selection) tally.rows c.rows-row-items.ensures.lawful)

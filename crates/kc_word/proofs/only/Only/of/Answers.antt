use Rattle.std.proofs.Common.{Result, Ok, Err, IfOk, ◌≡◌, sym, subst}
use Rattle.std.specs.declared.alloc.AllocError.{AllocError}
use Rattle.kc_word.specs.Only.{WordList, AreListed, IsListOf}
use Rattle.kc_word.proofs.OnlyLemmas.{listed-words, list-of}
use Rattle.kc_word.proofs.only.Only.of.Goals as goal

pub of_words-requires : goal.of_words-requires
of_words-requires c =
    subst (λ k. AreListed k c.in_ok-words.words.items) (sym c.k.ensures)
    (listed-words c.args.rule.now c.args.reads.now c.in_ok-words.words.items c.in_ok-words.ensures.rising c.in_ok-words.ensures.words)

pub returns : goal.returns
returns c = by c.of_words.result c.of_words.ensures
  where
    by : (answer : Result WordList AllocError) → IfOk answer (λ only. only ≡ record { k = c.k.result; both = c.both.result; words = c.in_ok-words.words.items })
        → IfOk answer (λ only. IsListOf c.args.rule.now c.args.reads.now only)
    by (Ok only) is =
        subst (λ l. IsListOf c.args.rule.now c.args.reads.now l) (sym is)
        (list-of c.args.rule.now c.args.reads.now (record { k = c.k.result; both = c.both.result; words = c.in_ok-words.words.items })
        c.k.ensures c.both.ensures
        (listed-words c.args.rule.now c.args.reads.now c.in_ok-words.words.items c.in_ok-words.ensures.rising c.in_ok-words.ensures.words)
        c.in_ok-words.ensures.words)
    by (Err e) is = is

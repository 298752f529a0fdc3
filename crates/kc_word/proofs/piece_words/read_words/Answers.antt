use Rattle.std.proofs.Common.{◌++◌, ◌-◌, ◌<◌, ◌^◌, All, length, arith, subst, ap, sym, ◌∙◌, None}
use Rattle.std.proofs.lemmas.List.{take_all}
use Rattle.kc_fastx.specs.Reads.{read_of}
use Rattle.kc_kmer.specs.Occurrences.{words_in}
use Rattle.kc_kmer.proofs.WordCounts.{All-words_in, length-words_in}
use Rattle.kc_word.proofs.Cleaning.{words_in-cleaned}
use Rattle.kc_word.proofs.piece_words.read_words.Goals as goal

pub returns-clause-words : goal.returns-clause-words
returns-clause-words c =
    c.in_ok-push_words.ensures ∙ ap (λ xs. c.in_ok-words.words.items ++ xs) c.new.ensures.words
    ∙ ap (λ bytes. c.in_ok-words.words.items ++ words_in c.args.rule.now (read_of bytes None))
    (take_all (c.len-count.result - 0) c.in_ok-piece.piece (let long = c.len-count.ensures in omega (arith, long)))
    ∙ ap (λ xs. xs ++ words_in c.args.rule.now (read_of c.in_ok-piece.piece None)) c.in_ok-words.ensures.empty
    ∙ ap (λ xs. words_in c.args.rule.now (read_of xs None)) c.in_ok-piece.ensures.cleaned
    ∙ words_in-cleaned c.args.rule.now c.args.read.now

pub returns-clause-below : goal.returns-clause-below
returns-clause-below c =
    subst (All (λ word. word < 4 ^ c.args.rule.now.k)) (sym (returns-clause-words c)) (All-words_in c.args.rule.now c.args.read.now)

pub returns-clause-short : goal.returns-clause-short
returns-clause-short c =
    let same = ap length (returns-clause-words c) in
    let fewer = length-words_in c.args.rule.now c.args.read.now c.new.ensures.some in
    omega (arith, same, fewer)

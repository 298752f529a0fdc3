use Rattle.std.proofs.Common.{◌≡◌, ℕ, ◌+◌, ◌^◌, ◌<◌, ◌++◌, List, [], take, All, None, length, refl, ap, sym, ◌∙◌, subst, arith, get_or, slice_range}
use Rattle.std.proofs.lemmas.List.{take_all, get_or_default}
use Rattle.kc_fastx.specs.Reads.{read_of}
use Rattle.kc_kmer.specs.Occurrences.{words_in, words_of}
use Rattle.kc_word.specs.Cutting.{as_reads}
use Rattle.kc_word.specs.PackedBatch.{start_of, pieces_in}
use Rattle.kc_word.proofs.Counting.{words_of-none, words_of-more}
use Rattle.kc_word.proofs.Cuttings.{length-words_of-pieces}
use Rattle.kc_word.proofs.Splitting.{length-pieces_in, get_or-pieces_in, end-within, start-next}
use Rattle.kc_kmer.proofs.WordCounts.{All-words_of}
use Rattle.kc_word.proofs.piece_words.put_words.Goals as goal

pub new-requires-clause-ordered : goal.new-requires-clause-ordered
new-requires-clause-ordered c =
    let same = c.deref-end-items.ensures.value in
    let count = ap length same in
    let begins = c.loop-end.invariant.begins ∙ ap (λ es. start_of es c.loop-end.end-index) same in
    let end = ap (λ es. get_or es c.loop-end.end-index 0) same in
    let within = c.loop-end-test.true in
    let rising = c.pieces.invariant.rising c.loop-end.end-index (omega (arith, count, within)) in
    omega (arith, begins, end, rising)

pub new-requires-clause-within : goal.new-requires-clause-within
new-requires-clause-within c =
    let same = c.deref-end-items.ensures.value in
    let count = ap length same in
    let end = ap (λ es. get_or es c.loop-end.end-index 0) same in
    let within = c.loop-end-test.true in
    let inside = end-within c.pieces.inside.ends.items (length c.pieces.inside.bytes) c.loop-end.end-index c.pieces.invariant (omega (arith, count, within)) in
    omega (arith, end, inside)

pub loop-end-init : goal.loop-end-init
loop-end-init c = record {
  words = c.clear_for_words.ensures.empty ∙ sym (words_of-none c.args.rule.now);
  begins = refl;
}

pub loop-end-preserved : goal.loop-end-preserved
loop-end-preserved c =
    let view : pieces_in c.pieces.inside.bytes c.pieces.inside.ends.items ≡ c.args.batch.now.pieces =
    c.pieces.view_is ∙ ap (λ b. b.pieces) c.batch.view_is in
    let same = c.deref-end-items.ensures.value in
    let count = ap length same in
    let pieces = sym (length-pieces_in c.pieces.inside.bytes c.pieces.inside.ends.items) ∙ ap length view in
    let within = c.loop-end-test.true in
    let inside : c.loop-end.end-index < length c.pieces.inside.ends.items = omega (arith, count, within) in
    let below : c.loop-end.end-index < length c.args.batch.now.pieces = omega (arith, pieces, inside) in
    let begins = c.loop-end.invariant.begins ∙ ap (λ es. start_of es c.loop-end.end-index) same in
    let end = ap (λ es. get_or es c.loop-end.end-index 0) same in
    let next = start-next c.pieces.inside.ends.items c.loop-end.end-index in
    let bytes = ap (λ s. slice_range c.pieces.inside.bytes s (get_or c.deref-end-items.result.now c.loop-end.end-index 0)) begins
    ∙ ap (λ e. slice_range c.pieces.inside.bytes (start_of c.pieces.inside.ends.items c.loop-end.end-index) e) end
    ∙ sym (get_or-pieces_in c.pieces.inside.bytes c.pieces.inside.ends.items c.loop-end.end-index [] inside)
    ∙ ap (λ ps. get_or ps c.loop-end.end-index []) view in
    record {
      words = words_of-more c.args.rule.now c.args.batch.now.pieces (record {
        index = c.loop-end.end-index;
        piece = get_or c.args.batch.now.pieces c.loop-end.end-index [];
        words = c.loop-end.words.items;
        next_words = c.push_words.new.words.items;
        within = below;
        piece_is = get_or_default c.args.batch.now.pieces c.loop-end.end-index [] (get_or c.args.batch.now.pieces c.loop-end.end-index []) below;
        pushed = c.in_ok-push_words.ensures ∙ ap (λ xs. c.loop-end.words.items ++ xs) c.new.ensures.words
            ∙ ap (λ bs. c.loop-end.words.items ++ words_in c.args.rule.now (read_of bs None)) bytes;
      }) c.loop-end.invariant.words;
      begins = end ∙ sym (ap (λ es. start_of es (c.loop-end.end-index + 1)) same ∙ next);
    }

pub returns-clause-words : goal.returns-clause-words
returns-clause-words c =
    let view : pieces_in c.pieces.inside.bytes c.pieces.inside.ends.items ≡ c.args.batch.now.pieces =
    c.pieces.view_is ∙ ap (λ b. b.pieces) c.batch.view_is in
    let count = ap length c.deref-end-items.ensures.value in
    let pieces = sym (length-pieces_in c.pieces.inside.bytes c.pieces.inside.ends.items) ∙ ap length view in
    let past = c.loop-end-test.false in
    c.loop-end.invariant.words
    ∙ ap (λ ps. words_of c.args.rule.now (as_reads ps))
    (take_all c.loop-end.end-index c.args.batch.now.pieces (omega (arith, count, pieces, past)))

pub returns-clause-below : goal.returns-clause-below
returns-clause-below c =
    subst (λ (xs : List ℕ). All (λ n. n < 4 ^ c.args.rule.now.k) xs) (sym c.loop-end.invariant.words)
    (All-words_of c.args.rule.now (as_reads (take c.loop-end.end-index c.args.batch.now.pieces)))

pub returns-clause-short : goal.returns-clause-short
returns-clause-short c =
    let same = ap length (returns-clause-words c) in
    let fewer = length-words_of-pieces c.args.rule.now c.args.batch.now.pieces in
    omega (arith, same, fewer)

use Rattle.std.proofs.Common.{◌+◌, ◌≤◌, ◌++◌, [], None, get_or, drop, length, ap, sym, ◌∙◌, arith}
use Rattle.kc_fastx.specs.Reads.{read_of}
use Rattle.kc_kmer.specs.Occurrences.{words_in, words_of}
use Rattle.kc_word.specs.Cutting.{as_reads}
use Rattle.kc_word.specs.Walking.{words_left}
use Rattle.kc_word.proofs.WalkLemmas.{words_of-at, words_of-past}
use Rattle.kc_word.proofs.walk.WalkIterator.next.Goals as goal

pub returns-then-self-len-clause-steps : goal.returns-then-self-len-clause-steps
returns-then-self-len-clause-steps c =
    let count = c.len.ensures in
    let test = c.if-self-len.true in
    let past : length c.loop-word.self-inside.pieces.now ≤ c.loop-word.self-inside.next = omega (arith, count, test) in (
      sym c.loop-word.invariant
          ∙ ap (λ xs. xs ++ words_of c.loop-word.self-inside.roll.rule (as_reads (drop c.loop-word.self-inside.next c.loop-word.self-inside.pieces.now)))
          c.in_default.ensures.none.0
          ∙ words_of-past c.loop-word.self-inside.roll.rule c.loop-word.self-inside.pieces.now c.loop-word.self-inside.next past,
      ap (λ xs. xs ++ words_of c.next_word.new.self.rule (as_reads (drop c.loop-word.self-inside.next c.loop-word.self-inside.pieces.now)))
          c.in_default.ensures.none.1
          ∙ words_of-past c.next_word.new.self.rule c.loop-word.self-inside.pieces.now c.loop-word.self-inside.next past,
    )

pub loop-word-preserved : goal.loop-word-preserved
loop-word-preserved c =
    let rule = c.rule.ensures ∙ c.in_default.ensures.rule in
    let count = c.len.ensures in
    let test = c.if-self-len.false in
    ap (λ r. words_left c.roll-self-inside.result ++ words_of r (as_reads (drop (c.loop-word.self-inside.next + 1) c.loop-word.self-inside.pieces.now)))
    (ap (λ w. w.rule) c.roll-self-inside.ensures.place ∙ rule)
    ∙ words_of-at c.loop-word.self-inside.roll.rule c.loop-word.self-inside.pieces.now c.loop-word.self-inside.next
    (words_left c.roll-self-inside.result) (omega (arith, count, test))
    (c.roll-self-inside.ensures.words
    ∙ ap (λ r. words_in r (read_of (get_or c.loop-word.self-inside.pieces.now c.loop-word.self-inside.next []) None)) rule)
    ∙ sym (ap (λ xs. xs ++ words_of c.loop-word.self-inside.roll.rule (as_reads (drop c.loop-word.self-inside.next c.loop-word.self-inside.pieces.now)))
    c.in_default.ensures.none.0)
    ∙ c.loop-word.invariant

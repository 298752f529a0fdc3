use Rattle.std.proofs.Common.{◌∙◌, arith}
use Rattle.kc_kmer.specs.Word.{text}
use Rattle.kc_kmer.proofs.WordLemmas.{length-text}
use Rattle.kc_kmer.proofs.Letters.{letter-at, written-more, written-all}
use Rattle.kc_kmer.proofs.word.text.Goals as goal

pub loop-i-preserved : goal.loop-i-preserved
loop-i-preserved c =
    let long = length-text c.args.k c.args.word.0 in
    written-more (text c.args.k c.args.word.0) c.args.letters.now c.loop-i.i c.base_of.result
    (omega arith) (omega (arith, c.told-letters)) c.loop-i.invariant
    (c.base_of.ensures ∙ letter-at c.args.k c.args.word.0 c.loop-i.i c.get-count.result (omega arith) c.get-count.ensures.value)

pub returns : goal.returns
returns c =
    let count = c.get-count.ensures.value in
    let end = c.loop-i.auto.i-end in
    let done = c.loop-i-test.false in
    written-all c.args.k c.args.word.0 c.loop-i.i c.args.letters.now c.loop-i.letters (omega (arith, count, end, done)) c.loop-i.invariant

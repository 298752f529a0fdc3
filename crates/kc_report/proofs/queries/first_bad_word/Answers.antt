use Rattle.std.proofs.Common.{map, sym, ◌∙◌, arith}
use Rattle.std.specs.Prelude.{string_bytes}
use Rattle.std.proofs.lemmas.List.{length-map}
use Rattle.kc_report.proofs.FieldLemmas.{never}
use Rattle.kc_report.proofs.QueryLemmas.{word_of, below_map, one_more_good, first_bad, all_good}
use Rattle.kc_report.proofs.queries.first_bad_word.Goals as goal

pub returns-then-is_none : goal.returns-then-is_none
returns-then-is_none c =
    let words = c.args.words.now in
    let item = c.index-words-i.result in
    first_bad c.args.k (map string_bytes words) c.loop-i.i c.as_bytes.result.now (below_map string_bytes words c.loop-i.i c.loop-i-test.true)
    (word_of string_bytes words c.loop-i.i item item c.loop-i-test.true (sym c.index-words-i.is) ∙ sym c.as_bytes.ensures.value) c.loop-i.invariant
    (λ askable. never (sym c.if-is_none.ensures ∙ c.pack.ensures.found.1 askable))

pub loop-i-preserved : goal.loop-i-preserved
loop-i-preserved c =
    let words = c.args.words.now in
    let item = c.index-words-i.result in
    one_more_good c.args.k (map string_bytes words) c.loop-i.i c.as_bytes.result.now (below_map string_bytes words c.loop-i.i c.loop-i-test.true)
    (word_of string_bytes words c.loop-i.i item item c.loop-i-test.true (sym c.index-words-i.is) ∙ sym c.as_bytes.ensures.value) c.loop-i.invariant
    (c.pack.ensures.found.0 c.if-is_none.ensures)

pub returns : goal.returns
returns c =
    let over = c.loop-i-test.false in
    let long = length-map c.args.words.now string_bytes in
    all_good c.args.k (map string_bytes c.args.words.now) c.loop-i.i (omega (arith, over, long)) c.loop-i.invariant

use Rattle.std.proofs.Common.{[], map, sym, ◌∙◌, subst, arith}
use Rattle.std.specs.Prelude.{string_bytes}
use Rattle.std.proofs.lemmas.List.{length-map}
use Rattle.std.proofs.lemmas.Result.{err_from_is_err_and}
use Rattle.kc_io.proofs.SinksLemmas.{began_front, last}
use Rattle.kc_report.specs.Querying.{query_text, IsAskable}
use Rattle.kc_report.proofs.QueryLemmas.{AnswerStep, next_answer, none_left, word_of, below_map}
use Rattle.kc_report.proofs.queries.counts_by_blocks.Goals as goal

pub returns-in_err-make_room : goal.returns-in_err-make_room
returns-in_err-make_room g c =
    let p = err_from_is_err_and c.from_residual.result c.from_residual.ensures.1 in rw p.1
    (began_front _ _ _ _ _ _ c.loop-word.invariant c.in_err-make_room.ensures.err)

pub push_answer-requires-clause-askable : goal.push_answer-requires-clause-askable
push_answer-requires-clause-askable g c =
    let words = c.args.words.now in
    let item = c.word-item.result in
    let i = c.loop-word.word-index in
    subst (IsAskable c.args.tally.now.k)
    (word_of string_bytes words i item item c.loop-word-test.true (sym c.word-item.is) ∙ sym c.as_bytes.ensures.value)
    (c.requires i [] (below_map string_bytes words i c.loop-word-test.true))

pub loop-word-preserved : goal.loop-word-preserved
loop-word-preserved g c =
    let seen = g.W.Sink.seen in
    let tally = c.args.tally.now in
    let words = c.args.words.now in
    let item = c.word-item.result in
    let i = c.loop-word.word-index in
    let step : AnswerStep tally (map string_bytes words) = record {
      start = seen c.args.writer.now;
      now = seen c.loop-word.writer;
      next = seen c.make_room.new.writer;
      text = query_text tally (map string_bytes words);
      block = c.loop-word.block;
      room = c.make_room.new.self;
      index = i;
      pending = c.loop-word.invariant;
      moved = c.in_ok-make_room.ensures.ok;
    } in
    next_answer step c.push_answer.new.block c.as_bytes.result.now
    (below_map string_bytes words i c.loop-word-test.true) c.push_answer.ensures
    (word_of string_bytes words i item item c.loop-word-test.true (sym c.word-item.is) ∙ sym c.as_bytes.ensures.value)

pub returns : goal.returns
returns g c =
    let seen = g.W.Sink.seen in
    let words = map string_bytes c.args.words.now in
    let over = c.loop-word-test.false in
    let long = length-map c.args.words.now string_bytes in
    last (seen c.args.writer.now) (seen c.loop-word.writer) (seen c.write_out.new.writer)
    (query_text c.args.tally.now words) c.loop-word.block c.write_out.result
    (none_left c.args.tally.now words c.loop-word.block c.loop-word.word-index (omega (arith, over, long))
    c.loop-word.invariant) (rw c.as_slice.ensures at c.write_out.ensures)

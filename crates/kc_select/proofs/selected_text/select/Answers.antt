use Rattle.std.proofs.Common.{◌≤◌, refl, arith}
use Rattle.std.proofs.lemmas.Result.{err_from_is_err_and}
use Rattle.kc_fastx.specs.Reading.{first_stand}
use Rattle.kc_fastx.proofs.ReadingLemmas.{begun_in_vain, used_within}
use Rattle.kc_select.specs.Selecting.{Streams, task_of}
use Rattle.kc_select.proofs.SelectLemmas.{selecting_none, selecting_more, fails_more, selects_ended}
use Rattle.kc_select.proofs.SelectLemmas.{selects_before, counts_fit}
use Rattle.kc_select.proofs.selected_text.select.Goals as goal

pub returns-in_default : goal.returns-in_default
returns-in_default g c =
    let seen = g.S.Source.seen in
    let wrote = g.W.Sink.seen in
    let task = task_of c.args.selector.now c.args.limit in
    let start : Streams = record { source = seen c.args.source.now; sink = wrote c.args.writer.now } in
    let none = selecting_none task start (first_stand c.args.limit) c.new-block.result c.none-counts.result refl c.new-block.ensures
    c.none-counts.ensures in
    selects_before none _ (first_stand c.args.limit) _ c.end_with.result
    (begun_in_vain (seen c.args.source.now) c.args.limit) tt c.end_with.ensures

pub reads-init : goal.reads-init
reads-init g c =
    let start : Streams = record { source = g.S.Source.seen c.args.source.now; sink = g.W.Sink.seen c.args.writer.now } in
    selecting_none (task_of c.args.selector.now c.args.limit) start c.in-Ok.reading c.new-block.result c.none-counts.result
    c.in-Ok.ensures c.new-block.ensures c.none-counts.ensures

pub returns-in_err-judged-in-Ok-Some : goal.returns-in_err-judged-in-Ok-Some
returns-in_err-judged-in-Ok-Some g c =
    let s = c.reads.invariant in
    let given = rw c.in-Ok-Some.field-0-is at c.in-Ok-Some.ensures.given _ _ s.records s.given in
    let p = err_from_is_err_and c.from_residual.result c.from_residual.ensures.1 in
    rw (p.1, p.2) (fails_more s _ c.next_titled.new.self _ _ given
    (rw c.deref.ensures.value at c.in_err-judged-in-Ok-Some.ensures.err))

pub reads-smaller-in_ok-judged-in-Ok-Some : goal.reads-smaller-in_ok-judged-in-Ok-Some
reads-smaller-in_ok-judged-in-Ok-Some g c =
    let s = c.reads.invariant in
    let given = rw c.in-Ok-Some.field-0-is at c.in-Ok-Some.ensures.given _ _ s.records s.given in
    omega (arith, used_within _ _ c.args.limit _ c.next_titled.new.self given.given, rw c.in-Ok-Some.field-0-is at c.in-Ok-Some.ensures.used)

pub reads-preserved-in_ok-judged-in-Ok-Some : goal.reads-preserved-in_ok-judged-in-Ok-Some
reads-preserved-in_ok-judged-in-Ok-Some g c =
    let s = c.reads.invariant in
    let given = rw c.in-Ok-Some.field-0-is at c.in-Ok-Some.ensures.given _ _ s.records s.given in
    let more = rw c.in-Ok-Some.field-0-is at c.in-Ok-Some.ensures.used in
    selecting_more s _ c.next_titled.new.self c.put_selected.new.block _ _ c.in_ok-judged-in-Ok-Some.judged
    c.plus-counts.result given (rw c.deref.ensures.value at c.in_ok-judged-in-Ok-Some.ensures.ok)
    c.in_ok-judged-in-Ok-Some.ensures.counts c.plus-counts.ensures more

pub returns-in-Ok-None : goal.returns-in-Ok-None
returns-in-Ok-None g c =
    let s = c.reads.invariant in
    let end = rw c.in-Ok-None.field-0-is at c.in-Ok-None.ensures.given _ _ s.records s.given in
    selects_ended s _ c.next_titled.new.self c.byte_count-bytes.result c.finish.result end.0 end.1 end.2
    c.byte_count-bytes.ensures c.finish.ensures.written c.finish.ensures.told c.finish.ensures.fault

pub returns-in-Err : goal.returns-in-Err
returns-in-Err g c =
    let s = c.reads.invariant in
    selects_before s _ c.next_titled.new.self c.in-Err.fault c.end_with-in-Err.result
    (c.in-Err.ensures.given _ _ s.records s.given) (c.in-Err.ensures.behind _ _ s.records s.given)
    c.end_with-in-Err.ensures

pub byte_count-bytes-requires : goal.byte_count-bytes-requires
byte_count-bytes-requires g c =
    let s = c.reads.invariant in
    let end = rw c.in-Ok-None.field-0-is at c.in-Ok-None.ensures.given _ _ s.records s.given in
    end.0.given.unfailed

pub reads-smaller : goal.reads-smaller
reads-smaller g c =
    let s = c.reads.invariant in
    let given = rw c.in-Ok-Some.field-0-is at c.in-Ok-Some.ensures.given _ _ s.records s.given in
    omega (arith, used_within _ _ c.args.limit _ c.next_titled.new.self given.given, rw c.in-Ok-Some.field-0-is at c.in-Ok-Some.ensures.used)

pub reads-preserved : goal.reads-preserved
reads-preserved g c =
    let s = c.reads.invariant in
    let given = rw c.in-Ok-Some.field-0-is at c.in-Ok-Some.ensures.given _ _ s.records s.given in
    let more = rw c.in-Ok-Some.field-0-is at c.in-Ok-Some.ensures.used in
    selecting_more s _ c.next_titled.new.self c.put_selected.new.block _ _ c.in_ok-judged-in-Ok-Some.judged
    c.plus-counts.result given (rw c.deref.ensures.value at c.in_ok-judged-in-Ok-Some.ensures.ok)
    c.in_ok-judged-in-Ok-Some.ensures.counts c.plus-counts.ensures more

pub plus-counts-requires : goal.plus-counts-requires
plus-counts-requires g c =
    let s = c.reads.invariant in
    let given = rw c.in-Ok-Some.field-0-is at c.in-Ok-Some.ensures.given _ _ s.records s.given in
    let more = rw c.in-Ok-Some.field-0-is at c.in-Ok-Some.ensures.used in
    let some : 1 ≤ c.args.selector.now.tally.k = omega (arith, c.get-bases.ensures.some, c.k.ensures) in
    let few = counts_fit s _ c.next_titled.new.self _ _ c.in_ok-judged-in-Ok-Some.judged
    some c.requires given c.in_ok-judged-in-Ok-Some.ensures.counts more in
    record { reads = few.reads; kept = few.kept; words = few.words; solid = few.solid }

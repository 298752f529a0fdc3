use Rattle.std.proofs.Common.{◌∙◌, ◌≤◌, ◌<◌, ◌+◌, length, ap, arith, refl}
use Rattle.std.proofs.lemmas.List.{length-set}
use Rattle.std.proofs.lemmas.Result.{err_from_is_err_and}
use Rattle.kc_select.specs.Selecting.{Streams}
use Rattle.kc_tool.specs.GivenSources.{seen_in}
use Rattle.kc_tool.proofs.GivenLemmas.{keeps_all, keeps_both, some_there}
use Rattle.kc_tool.proofs.SelectionsLemmas.{refused_read, selected_all, selected_none, selected_read, sums_fit, within_next}
use Rattle.kc_tool.proofs.selected_sources.select_all.Goals as goal

pub loop-i-init : goal.loop-i-init
loop-i-init g c = record {
  so_far = selected_none c.args.selector.now.rule c.args.selector.now.tally (seen_in g.R.Source.seen g.F.Source.seen c.args.sources.now)
      (g.W.Sink.seen c.args.writer.now) c.none-counts.result c.none-counts.ensures;
  as_many = refl;
  kept = keeps_all g.R.Source.seen g.F.Source.seen c.args.sources.now;
}

pub read-requires-clause-within : goal.read-requires-clause-within
read-requires-clause-within g c = omega (arith, c.loop-i.invariant.as_many, c.count-i-end.ensures)

pub read-requires-clause-can : goal.read-requires-clause-can
read-requires-clause-can g c = c.loop-i.invariant.so_far.within

pub loop-i-preserved : goal.loop-i-preserved
loop-i-preserved g c =
    let loop = c.loop-i in
    let seen = seen_in g.R.Source.seen g.F.Source.seen in
    let at = c.in_ok-selected.ensures.one in
    let within : loop.i < length (seen loop.sources) = omega (arith, loop.invariant.as_many, c.count-i-end.ensures) in
    let some : 1 ≤ c.args.selector.now.tally.k = omega (arith, c.get-bases.ensures.some, c.k.ensures) in
    record {
      so_far = rw c.plus-counts.ensures (selected_read (g.W.Sink.seen c.read.new.state) loop.invariant.so_far within c.in_ok-selected.selected some at);
      as_many = ap length at.are ∙ length-set (seen loop.sources) loop.i at.later ∙ loop.invariant.as_many;
      kept = keeps_both g.R.Source.seen g.F.Source.seen loop.invariant.kept c.in_ok-selected.ensures.kept;
    }

pub plus-counts-requires : goal.plus-counts-requires
plus-counts-requires g c =
    let loop = c.loop-i in
    let some : 1 ≤ c.args.selector.now.tally.k = omega (arith, c.get-bases.ensures.some, c.k.ensures) in
    let at = c.in_ok-selected.ensures.one in
    let before : Streams = record { source = at.here; sink = g.W.Sink.seen loop.writer } in
    let after : Streams = record { source = at.later; sink = g.W.Sink.seen c.read.new.state } in
    let selected = c.in_ok-selected.selected in
    let more = within_next c.args.selector.now.rule c.args.selector.now.tally loop.left (loop.i + 1) before after selected some at.reads in
    let few = sums_fit loop.left selected.bytes loop.counts selected.counts loop.invariant.so_far.fit more in
    record { reads = few.reads; kept = few.kept; words = few.words; solid = few.solid }

pub overflow_sub-left : goal.overflow_sub-left
overflow_sub-left g c =
    let loop = c.loop-i in
    let some : 1 ≤ c.args.selector.now.tally.k = omega (arith, c.get-bases.ensures.some, c.k.ensures) in
    let at = c.in_ok-selected.ensures.one in
    let before : Streams = record { source = at.here; sink = g.W.Sink.seen loop.writer } in
    let after : Streams = record { source = at.later; sink = g.W.Sink.seen c.read.new.state } in
    let more = within_next c.args.selector.now.rule c.args.selector.now.tally loop.left (loop.i + 1) before after
    c.in_ok-selected.selected some at.reads in
    more.bounded

pub returns-in_err-selected-clause-selects : goal.returns-in_err-selected-clause-selects
returns-in_err-selected-clause-selects g c =
    let p = err_from_is_err_and c.from_residual.result c.from_residual.ensures.1 in
    let loop = c.loop-i in
    let seen = seen_in g.R.Source.seen g.F.Source.seen in
    let within : loop.i < length (seen loop.sources) = omega (arith, loop.invariant.as_many, c.count-i-end.ensures) in
    rw (p.1, p.2) (refused_read (g.W.Sink.seen c.read.new.state) loop.invariant.so_far within
    c.in_err-selected.field-0.0 c.in_err-selected.ensures.one)

pub returns-in_err-selected-clause-kept : goal.returns-in_err-selected-clause-kept
returns-in_err-selected-clause-kept g c =
    keeps_both g.R.Source.seen g.F.Source.seen c.loop-i.invariant.kept c.in_err-selected.ensures.kept

pub returns-clause-selects : goal.returns-clause-selects
returns-clause-selects g c =
    let loop = c.loop-i in
    let seen = seen_in g.R.Source.seen g.F.Source.seen in
    let all : length (seen loop.sources) ≤ loop.i = omega (arith, loop.invariant.as_many, c.count-i-end.ensures) in
    let some : 1 ≤ length (seen loop.sources) = some_there (g.R.Source.seen loop.sources.input.now) _ in
    selected_all loop.invariant.so_far all some

pub returns-clause-kept : goal.returns-clause-kept
returns-clause-kept g c = c.loop-i.invariant.kept

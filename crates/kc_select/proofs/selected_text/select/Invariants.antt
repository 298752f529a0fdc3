use Rattle.std.proofs.Common.{◌-◌}
use Rattle.kc_select.specs.Selecting.{Streams, task_of}
use Rattle.kc_select.proofs.SelectLemmas.{IsSelecting}
use Rattle.kc_select.proofs.selected_text.select.Given as goal

abbrev pub invariant-reads : goal.invariant-reads
invariant-reads g l =
    let task = task_of l.fn.selector l.fn.limit in
    let old : Streams = record { source = g.S.Source.seen l.fn.source; sink = g.W.Sink.seen l.fn.writer } in
    let now : Streams = record { source = g.S.Source.seen l.source; sink = g.W.Sink.seen l.writer } in
    IsSelecting task old now l.reading l.block l.counts

abbrev pub decreases-reads : goal.decreases-reads
decreases-reads g l = l.limit - l.reading.used

use Rattle.std.proofs.Common.{◌-◌}
use Rattle.kc_io.specs.Sources.{Seen}
use Rattle.kc_select.specs.declared.sides.Sides.{Sides}
use Rattle.kc_select.specs.Pairs.{each, first_text, second_text}
use Rattle.kc_select.specs.PairReaders.{Drain}
use Rattle.kc_select.proofs.PairingLemmas.{IsPairing}
use Rattle.kc_select.proofs.mates_apart.select_into_two.Given as goal

abbrev pub invariant-pairs : goal.invariant-pairs
invariant-pairs g l =
    let task = l.fn.selection in
    let old : Sides Seen = record { first = g.S.Source.seen l.fn.first; second = g.T.Source.seen l.fn.second } in
    let now : Sides Seen = record { first = g.S.Source.seen l.first; second = g.T.Source.seen l.second } in
    IsPairing task old now l.reading.stands
    (λ these. Drain (each g.W.Sink.seen l.fn.writers) (each g.W.Sink.seen l.writers) (first_text task.selector these)
    (second_text task.selector these) l.blocks) l.counts

abbrev pub decreases-pairs : goal.decreases-pairs
decreases-pairs g l = l.fn.selection.limit - l.reading.stands.first.used

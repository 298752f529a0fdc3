use Rattle.std.proofs.Common.{ap}
use Rattle.kc_select.specs.SelectingPairs.{SelectsInterleaved}
use Rattle.kc_tool.specs.Commands.{given_listed}
use Rattle.kc_tool.specs.NamedSources.{seen_of}
use Rattle.kc_tool.proofs.PairSelectionsLemmas.{kept_so}
use Rattle.kc_tool.proofs.commands.pair_by_table.Goals as goal

pub returns-clause-done : goal.returns-clause-done
returns-clause-done g c = λ input.
    let selected = c.select_pairs-selected in
    let was = g.W.Sink.seen c.args.output.now in
    let is = g.W.Sink.seen selected.new.output in (
      selected.result,
      kept_so (λ task before after answer. SelectsInterleaved task before after was is answer) c.args.pairing.now
          (given_listed input (seen_of g.F.Source.seen c.args.files.now.items)) (given_listed input (seen_of g.F.Source.seen selected.new.files.items))
          selected.result (λ same. ap g.W.Sink.seen same) (selected.ensures.done input),
      c.told_of_selection.ensures,
    )

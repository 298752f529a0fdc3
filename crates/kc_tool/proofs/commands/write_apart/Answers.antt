use Rattle.std.proofs.Common.{ap}
use Rattle.kc_select.specs.Pairs.{each}
use Rattle.kc_select.specs.SelectingPairs.{SelectsApart}
use Rattle.kc_tool.specs.Commands.{given_listed}
use Rattle.kc_tool.specs.NamedSources.{seen_of}
use Rattle.kc_tool.proofs.PairSelectionsLemmas.{kept_so}
use Rattle.kc_tool.proofs.commands.write_apart.Goals as goal

pub returns-clause-done : goal.returns-clause-done
returns-clause-done g c = λ input.
    let selected = c.select_pairs-selected in
    let was = each g.W.Sink.seen c.args.outputs.now in
    let is = each g.W.Sink.seen selected.new.output in
    rw c.in-SelectPairs.is (
      selected.result,
      kept_so (λ task before after answer. SelectsApart task before after was is answer) c.in-SelectPairs.pairing
          (given_listed input (seen_of g.F.Source.seen c.args.files.now.items)) (given_listed input (seen_of g.F.Source.seen selected.new.files.items))
          selected.result (λ same. ap (each g.W.Sink.seen) same) (selected.ensures.done input),
      c.told_of_selection.ensures,
    )

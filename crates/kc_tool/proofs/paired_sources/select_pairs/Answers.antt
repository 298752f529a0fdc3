use Rattle.std.proofs.Common.{◌≡◌}
use Rattle.kc_tool.specs.Commands.{SelectsPairsBy}
use Rattle.kc_tool.proofs.PairSelectionsLemmas.{pairs_given}
use Rattle.kc_tool.proofs.paired_sources.select_pairs.Goals as goal

pub returns-clause-done : goal.returns-clause-done
returns-clause-done g c = λ input.
    let was = c.args.output.now in
    let is = c.select_from-selected.new.output in
    let later = c.select_from-selected.new.files in
    pairs_given g.F.Source.seen input c.pop-3.new.self.items c.in-Some-pop-2.table c.in-Some-pop.first c.in-Some.second later.table later.first later.second
    c.requires c.in-Some.ensures.items c.in-Some-pop.ensures.items c.in-Some-pop-2.ensures.items c.put_back.ensures
    (λ before after. SelectsPairsBy (λ task one other answer. g.V.WritesPairs.writes c.args.how.now was is task one other answer) (is ≡ was)
    c.args.pairing.now before after c.select_from-selected.result)
    c.select_from-selected.ensures.done

use Rattle.std.proofs.Common.{arith}
use Rattle.kc_tool.proofs.GivenLemmas.{counted}
use Rattle.kc_tool.proofs.given_sources.GivenSources.count.Goals as goal

pub returns : goal.returns
returns g c =
    let given = c.args.self.now in
    counted g.F.Source.seen (g.R.Source.seen given.input.now) given.files.now given.own c.max.result (omega (arith, c.max.ensures, c.saturating_sub.ensures))

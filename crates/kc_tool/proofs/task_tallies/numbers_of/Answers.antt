use Rattle.kc_tool.specs.GivenSources.{seen_in}
use Rattle.kc_tool.proofs.GivenLemmas.{one_numbers}
use Rattle.kc_tool.proofs.task_tallies.numbers_of.Goals as goal

pub returns : goal.returns
returns g c =
    let seen = seen_in g.R.Source.seen g.F.Source.seen in
    let told = one_numbers c.args.high (seen c.args.sources.now) (seen c.read.new.self) c.read.result c.requires.one c.read.ensures.one in
    record { numbers = told.0; fault = told.1; kept = c.read.ensures.kept }

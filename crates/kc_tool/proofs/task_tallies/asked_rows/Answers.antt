use Rattle.std.proofs.Common.{map}
use Rattle.std.specs.Prelude.{string_bytes}
use Rattle.kc_tool.specs.GivenSources.{seen_in}
use Rattle.kc_tool.proofs.GivenLemmas.{one_asked}
use Rattle.kc_tool.proofs.task_tallies.asked_rows.Goals as goal

pub returns : goal.returns
returns g c =
    let seen = seen_in g.R.Source.seen g.F.Source.seen in
    let told = one_asked (map string_bytes c.args.words.now) (seen c.args.sources.now) (seen c.read.new.self) c.read.result c.requires c.read.ensures.one in
    record { counts = told.0; fault = told.1; kept = c.read.ensures.kept }

use Rattle.std.proofs.Common.{[], sym, subst}
use Rattle.kc_fastx.specs.Reading.{HasGiven}
use Rattle.kc_fastx.proofs.ReadingLemmas.{given_none}
use Rattle.kc_fastx.proofs.reader.Reads.new.Goals as goal

pub returns-clause-given : goal.returns-clause-given
returns-clause-given g c =
    let start = g.S.Source.seen c.args.source in
    subst (λ stand. HasGiven start start c.args.limit [] stand) (sym c.in_ok-reading.ensures)
    (given_none start c.args.limit)

use Rattle.kc_combine.proofs.ViewLemmas.{combines_not}
use Rattle.kc_combine.proofs.derived_texts.derive_from_texts.Goals as goal

pub returns-in-Err-clause-fault : goal.returns-in-Err-clause-fault
returns-in-Err-clause-fault g c =
    rw c.in-Table.is (combines_not g.S.Source.seen c.args.limit c.in-Table.combining c.args.sources.now.items c.combine_texts.new.sources.items
    (g.W.Sink.seen c.args.writer.now) (g.W.Sink.seen c.combine_texts.new.writer) c.in-Err.fault c.in-Err.ensures.fault)

use Rattle.kc_combine.proofs.DerivedLemmas.{dumps_one}
use Rattle.kc_combine.proofs.derived_texts.dump_text.Goals as goal

pub returns-in-Ok-clause-derived : goal.returns-in-Ok-clause-derived
returns-in-Ok-clause-derived g c =
    dumps_one g.S.Source.seen c.args.limit c.args.dump.now c.args.sources.now c.index-sources-0.result c.write_dump_of_text.new.source
    (g.W.Sink.seen c.args.writer.now) (g.W.Sink.seen c.write_dump_of_text.new.writer) c.requires c.in-Ok.ensures.written

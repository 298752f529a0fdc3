use Rattle.std.proofs.Common.{◌≤◌, ◌∙◌, arith, length, map, refl}
use Rattle.kc_combine.specs.CombinedTexts.{rows_of_each}
use Rattle.kc_combine.specs.Compared.{counts_of_words, spectrum_text}
use Rattle.kc_combine.specs.Derivations.{DerivesNoTables, DerivesTables}
use Rattle.kc_combine.specs.LoadedTables.{table_seen}
use Rattle.kc_combine.specs.declared.derived.Derived.TheVariants.{Spectrum}
use Rattle.kc_combine.proofs.DerivedLemmas.{few_words, loaded_short, spectrum_of, written_err, written_ok}
use Rattle.kc_combine.proofs.derived_tables.spectrum_of_tables.Goals as goal

pub returns-in-Ok-visit_tables-clause-derived : goal.returns-in-Ok-visit_tables-clause-derived
returns-in-Ok-visit_tables-clause-derived g c =
    let tables = map table_seen c.args.tables.now in
    let old = g.W.Sink.seen c.args.writer.now in
    let new = g.W.Sink.seen c.write_spectrum.new.writer in
    let spectrum = c.visit_tables.new.visitor in
    let set = c.visit_tables.ensures.setting ∙ c.in-Ok.ensures.high in
    let visits = c.in-Ok-visit_tables.ensures.visited c.in-Ok.ensures.none in
    let some : 1 ≤ length c.args.tables.now = omega (arith, c.requires.two) in
    let short = loaded_short c.args.tables.now _ _ visits.header some c.k.ensures c.get-bases.ensures.fits visits.words in
    let words = counts_of_words visits.header.k (rows_of_each tables) in
    written_ok c.written.result c.write_spectrum.result old new (spectrum_text spectrum.high words)
    (DerivesTables (Spectrum c.args.high) tables old new) c.written.ensures
    (c.write_spectrum.ensures words visits.visited (few_words tables visits.header.k short))
    (λ done. (refl, (spectrum_text spectrum.high words, spectrum_of c.args.high spectrum tables set visits, done)))

pub returns-in-Ok-visit_tables-clause-fault : goal.returns-in-Ok-visit_tables-clause-fault
returns-in-Ok-visit_tables-clause-fault g c =
    let tables = map table_seen c.args.tables.now in
    let old = g.W.Sink.seen c.args.writer.now in
    let new = g.W.Sink.seen c.write_spectrum.new.writer in
    let spectrum = c.visit_tables.new.visitor in
    let set = c.visit_tables.ensures.setting ∙ c.in-Ok.ensures.high in
    let visits = c.in-Ok-visit_tables.ensures.visited c.in-Ok.ensures.none in
    let some : 1 ≤ length c.args.tables.now = omega (arith, c.requires.two) in
    let short = loaded_short c.args.tables.now _ _ visits.header some c.k.ensures c.get-bases.ensures.fits visits.words in
    let words = counts_of_words visits.header.k (rows_of_each tables) in
    written_err c.written.result c.write_spectrum.result old new (spectrum_text spectrum.high words)
    (DerivesNoTables (Spectrum c.args.high) tables old new) c.written.ensures
    (c.write_spectrum.ensures words visits.visited (few_words tables visits.header.k short))
    (λ begun. (spectrum_text spectrum.high words, spectrum_of c.args.high spectrum tables set visits, begun))

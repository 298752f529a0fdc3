use Rattle.std.proofs.Common.{◌≡◌, ◌≤◌, ◌∙◌, arith, length, map, refl, subst}
use Rattle.std.proofs.lemmas.List.{length-map}
use Rattle.kc_io.specs.Sinks.{Writes}
use Rattle.kc_combine.specs.Compared.{comparison_text}
use Rattle.kc_combine.specs.Derivations.{DerivesNoTables, DerivesTables}
use Rattle.kc_combine.specs.LoadedTables.{table_seen}
use Rattle.kc_combine.specs.declared.derived.Derived.TheVariants.{Comparison}
use Rattle.kc_combine.proofs.DerivedLemmas.{compares, loaded_lawful, loaded_short, written_err, written_ok}
use Rattle.kc_combine.proofs.derived_tables.compare_tables.Goals as goal

pub returns-in-Ok-clause-derived : goal.returns-in-Ok-clause-derived
returns-in-Ok-clause-derived g c =
    let tables = map table_seen c.args.tables.now in
    let old = g.W.Sink.seen c.args.writer.now in
    let new = g.W.Sink.seen c.write_comparison.new.writer in
    let comparing = c.visit_tables.new.visitor in
    let set = c.visit_tables.ensures.setting ∙ c.new-comparing.ensures.solid in
    let mapped = length-map c.args.tables.now table_seen in
    let two : length tables ≡ 2 = omega (arith, mapped, c.requires.two) in
    let visits = c.in-Ok.ensures.visited c.new-comparing.ensures.none in
    let lawful = loaded_lawful c.args.tables.now _ _ c.requires.two c.row_count-reads.ensures.lawful c.row_count-assembly.ensures.lawful in
    let some : 1 ≤ length c.args.tables.now = omega (arith, c.requires.two) in
    let short = loaded_short c.args.tables.now _ _ visits.header some c.k.ensures c.get-bases.ensures.fits visits.words in
    let is_text = compares c.args.solid comparing tables set two lawful visits short in
    let writes = subst (λ numbers. Writes old new c.write_comparison.result (comparison_text numbers)) c.comparison.ensures c.write_comparison.ensures in
    written_ok c.written.result c.write_comparison.result old new (comparison_text comparing.numbers)
    (DerivesTables (Comparison c.args.solid) tables old new) c.written.ensures writes
    (λ done. (refl, (comparison_text comparing.numbers, is_text, done)))

pub returns-in-Ok-clause-fault : goal.returns-in-Ok-clause-fault
returns-in-Ok-clause-fault g c =
    let tables = map table_seen c.args.tables.now in
    let old = g.W.Sink.seen c.args.writer.now in
    let new = g.W.Sink.seen c.write_comparison.new.writer in
    let comparing = c.visit_tables.new.visitor in
    let set = c.visit_tables.ensures.setting ∙ c.new-comparing.ensures.solid in
    let mapped = length-map c.args.tables.now table_seen in
    let two : length tables ≡ 2 = omega (arith, mapped, c.requires.two) in
    let visits = c.in-Ok.ensures.visited c.new-comparing.ensures.none in
    let lawful = loaded_lawful c.args.tables.now _ _ c.requires.two c.row_count-reads.ensures.lawful c.row_count-assembly.ensures.lawful in
    let some : 1 ≤ length c.args.tables.now = omega (arith, c.requires.two) in
    let short = loaded_short c.args.tables.now _ _ visits.header some c.k.ensures c.get-bases.ensures.fits visits.words in
    let is_text = compares c.args.solid comparing tables set two lawful visits short in
    let writes = subst (λ numbers. Writes old new c.write_comparison.result (comparison_text numbers)) c.comparison.ensures c.write_comparison.ensures in
    written_err c.written.result c.write_comparison.result old new (comparison_text comparing.numbers)
    (DerivesNoTables (Comparison c.args.solid) tables old new) c.written.ensures writes
    (λ begun. (comparison_text comparing.numbers, is_text, begun))

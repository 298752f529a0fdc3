use Rattle.std.proofs.Common.{◌∙◌, All, arith, map, subst, sym, ap}
use Rattle.std.proofs.lemmas.List.{take_all}
use Rattle.kc_report.specs.Table.{MaySay}
use Rattle.kc_combine.specs.CombinedTexts.{header_seen}
use Rattle.kc_combine.specs.LoadedTables.{table_seen}
use Rattle.kc_combine.proofs.LoadedTableLemmas.{said_loaded}
use Rattle.kc_combine.proofs.loaded_tables.header_of_loaded.Goals as goal

pub combined_header-requires-clause-said : goal.combined_header-requires-clause-said
combined_header-requires-clause-said c =
    let all = take_all c.tables.table-index c.args.tables.now (omega (arith, c.tables-test.false)) in
    subst (All (λ header. MaySay header.origin))
    (sym (c.deref.ensures.value ∙ c.tables.invariant.headers ∙ ap (λ tables. map header_seen (map table_seen tables)) all))
    (said_loaded c.args.tables.now c.requires.said)

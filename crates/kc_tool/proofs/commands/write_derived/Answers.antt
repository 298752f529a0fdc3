use Rattle.std.proofs.Common.{◌≡◌, ap, arith, inr, length, map, refl, subst}
use Rattle.std.proofs.lemmas.List.{length-map}
use Rattle.kc_combine.specs.Derivations.{DerivesNoTables, DerivesTables, TakesTables}
use Rattle.kc_combine.specs.LoadedTables.{table_seen}
use Rattle.kc_tool.specs.Commands.{most_table_bytes}
use Rattle.kc_tool.specs.GivenSources.{seen_in}
use Rattle.kc_tool.proofs.CommandsLemmas.{given_long}
use Rattle.kc_tool.proofs.commands.write_derived.Goals as goal

pub derive_from_tables-requires-clause-count : goal.derive_from_tables-requires-clause-count
derive_from_tables-requires-clause-count g c =
    let olds = seen_in g.R.Source.seen g.F.Source.seen c.args.sources.now in
    let news = seen_in g.R.Source.seen g.F.Source.seen c.tables_of.new.sources in
    let tables = c.in_ok-tables.tables.items in
    let given = given_long most_table_bytes olds news (map table_seen tables) c.in_ok-tables.ensures.tables in
    let mapped = length-map tables table_seen in
    let same = ap length c.deref.ensures.value in
    let long : length olds ≡ length c.deref.result.now = omega (arith, given, mapped, same) in
    subst (λ n. TakesTables c.args.derived n) long c.requires.count

pub returns-in-Ok-clause-done : goal.returns-in-Ok-clause-done
returns-in-Ok-clause-done g c =
    let derived = subst
    (λ tables. DerivesTables c.args.derived (map table_seen tables) (g.W.Sink.seen c.args.output.now)
    (g.W.Sink.seen c.derive_from_tables.new.writer) c.in-Ok.totals) c.deref.ensures.value c.in-Ok.ensures.derived in
    (map table_seen c.in_ok-tables.tables.items, c.in_ok-tables.ensures.tables, (c.in-Ok.totals, derived, c.told_of_totals.ensures))

pub returns-clause-done : goal.returns-clause-done
returns-clause-done g c =
    let why = subst
    (λ tables. DerivesNoTables c.args.derived (map table_seen tables) (g.W.Sink.seen c.args.output.now)
    (g.W.Sink.seen c.derive_from_tables.new.writer) c.in-Err.fault) c.deref.ensures.value c.in-Err.ensures.fault in
    rw c.combine_fault.ensures
    (inr (map table_seen c.in_ok-tables.tables.items, c.in_ok-tables.ensures.tables, (c.in-Err.fault, why, refl)))

use Rattle.std.proofs.Common.{◌∙◌, ap, arith, length, map, subst, sym}
use Rattle.std.proofs.lemmas.List.{length-map}
use Rattle.kc_combine.specs.Aheads.{whences_of}
use Rattle.kc_combine.specs.KeptTables.{HasGiven, HasGivenAll}
use Rattle.kc_combine.specs.LoadedTables.{table_seen}
use Rattle.kc_combine.specs.Walks.{HaveVisited}
use Rattle.kc_combine.specs.WrittenTables.{StandAtStart}
use Rattle.kc_combine.specs.declared.combining_rules.Take.TheVariants.{Least}
use Rattle.kc_combine.proofs.LoadedTableLemmas.{begun_start, no_failure, whence_of_kept}
use Rattle.kc_combine.proofs.VisitedTextLemmas.{begun_long, visits_tables}
use Rattle.kc_combine.proofs.visited_tables.visit_tables.Goals as goal

pub visit_words-requires : goal.visit_words-requires
visit_words-requires g c =
    let long = begun_long (map table_seen c.args.tables.now) c.in_ok-aheads.aheads.items c.in_ok-aheads.ensures in
    let mapped = length-map c.args.tables.now table_seen in
    let aheads = ap length c.deref_mut.ensures.value in
    let counts = ap length c.deref_mut-2.ensures.value in
    omega (arith, long, mapped, aheads, counts, c.in_ok-counts.ensures)

pub returns-in-Ok-clause-visited : goal.returns-in-Ok-clause-visited
returns-in-Ok-clause-visited g c = λ none.
    let tables = map table_seen c.args.tables.now in
    let aheads = c.in_ok-aheads.aheads.items in
    let afters = c.visit_words.new.aheads in
    let begun = c.in_ok-aheads.ensures in
    let visited = g.V.VisitsWords.visited c.visit_words.new.visitor in
    let same = c.visit_words.ensures.same ∙ ap (whences_of whence_of_kept) c.deref_mut.ensures.value in
    let start = subst (StandAtStart HasGiven HasGivenAll) (sym c.deref_mut.ensures.value) (begun_start tables aheads begun) in
    visits_tables (record { take = Least }) visited tables c.in_ok-header_of_loaded.field-0 aheads afters begun
    c.in_ok-header_of_loaded.ensures.header same
    (subst (λ before. HaveVisited HasGivenAll whence_of_kept visited before afters) c.deref_mut.ensures.value
    (c.in-Ok.ensures.visited start none))

pub returns-clause-fault : goal.returns-clause-fault
returns-clause-fault g c =
    let tables = map table_seen c.args.tables.now in
    let start = subst (StandAtStart HasGiven HasGivenAll) (sym c.deref_mut.ensures.value)
    (begun_start tables c.in_ok-aheads.aheads.items c.in_ok-aheads.ensures) in
    let fails = c.in-Err.ensures.fault start in
    no_failure c.visit_words.new.aheads fails.0 c.in-Err.fault fails.1

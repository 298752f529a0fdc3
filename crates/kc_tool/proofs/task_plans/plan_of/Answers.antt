use Rattle.std.proofs.Common.{◌≡◌, ◌∙◌, ap, ap₂, Bor, List, ℕ, ◌++◌, map, arith, length, refl, subst, sym}
use Rattle.clap.specs.Words.{found_of, rows_of}
use Rattle.std.proofs.lemmas.List.{length-map}
use Rattle.kc_tool.specs.Commands.{AsksForTask, HasTablesFor, OpensOnce, files_of}
use Rattle.kc_tool.specs.declared.commands.Task.TheVariants.{Derive}
use Rattle.kc_tool.proofs.CommandsLemmas.{has_files, opens_them, takes_files, wants_names, wants_twice}
use Rattle.kc_tool.proofs.task_plans.plan_of.Goals.{in_default-via-in-Derive+else-are_regular, in_default-via-in-Count-1}
use Rattle.kc_tool.proofs.task_plans.plan_of.Goals as goal

pub returns-in-Derive-clause-names : goal.returns-in-Derive-clause-names
returns-in-Derive-clause-names g c =
    let now = map (λ (name : Bor (List ℕ)). name.now) in
    let named = ap now c.deref-in-Derive.ensures.value ∙ c.in_ok-names.ensures in
    c.in_ok-twice-in-Derive.ensures ∙ ap₂ (λ xs ys. xs ++ ys) named named

pub returns-in-Derive-clause-files : goal.returns-in-Derive-clause-files
returns-in-Derive-clause-files g c =
    let rows = rows_of (found_of c.args.matches.now) in
    let names = c.in_ok-names.names.items in
    let some = c.if-are_regular.ensures refl in
    let same = ap length c.deref.ensures.value in
    let again = c.deref-in-Derive.ensures.value in
    let asked = subst (AsksForTask c.args.verb rows) c.in-Derive.is c.in_ok-task.ensures.asked in
    let named = length-map names (λ (name : Bor (List ℕ)). name.now) in
    let has = has_files rows c.args.verb (Derive c.in-Derive.derived) (map (λ name. name.now) names) c.requires asked c.in_ok-names.ensures tt in
    let takes = takes_files c.in-Derive.derived (length names) (subst (HasTablesFor c.in-Derive.derived) named has) (omega (arith, some, same)) in
    wants_twice c.in-Derive.derived names c.in_ok-twice-in-Derive.field-0.items takes
    (subst (λ xs. map (λ name. name.now) c.in_ok-twice-in-Derive.field-0.items ≡ map (λ name. name.now) xs ++ map (λ name. name.now) xs) again
    c.in_ok-twice-in-Derive.ensures)

pub returns-clause-names : goal.returns-clause-names
returns-clause-names g c =
    let is : c.in_default-1.task ≡ c.in_ok-task.task = elim c.in_default-1.branch [ in_default-via-in-Derive+else-are_regular w ↦ w.task-is ∙ sym w.in-Derive.is | in_default-via-in-Count-1 w ↦ w.task-is ] in
    c.in_ok-names.ensures ∙ opens_them c.in_default-1.task (files_of c.args.verb (rows_of (found_of c.args.matches.now)))
    (subst OpensOnce (sym is) c.in_ok-task.ensures.once)

pub returns-clause-files : goal.returns-clause-files
returns-clause-files g c =
    let is : c.in_default-1.task ≡ c.in_ok-task.task = elim c.in_default-1.branch [ in_default-via-in-Derive+else-are_regular w ↦ w.task-is ∙ sym w.in-Derive.is | in_default-via-in-Count-1 w ↦ w.task-is ] in
    let rows = rows_of (found_of c.args.matches.now) in
    rw is (wants_names c.in_ok-task.task c.in_ok-names.names.items
    (has_files rows c.args.verb c.in_ok-task.task (map (λ name. name.now) c.in_ok-names.names.items) c.requires c.in_ok-task.ensures.asked c.in_ok-names.ensures
    c.in_ok-task.ensures.once))

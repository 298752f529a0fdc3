use Rattle.std.proofs.Common.{◌∙◌, map, sym, subst, ap, inl, inr, refl, Bor, List, ℕ, Err, None, Some}
use Rattle.std.proofs.lemmas.Result.{err_from_is_err_and}
use Rattle.clap.specs.Words.{found_of, rows_of}
use Rattle.kc_tool.specs.Commands.{HasFilesFor}
use Rattle.kc_tool.proofs.CommandsLemmas.{command_ends, has_opened, task_done, writes_two}
use Rattle.kc_tool.proofs.FilesLemmas.{paired}
use Rattle.kc_tool.proofs.commands.run_command.Goals as goal

pub returns-in_err-sources : goal.returns-in_err-sources
returns-in_err-sources g c =
    let p = err_from_is_err_and c.from_residual-in_err-sources.result c.from_residual-in_err-sources.ensures.1 in
    let named = ap (map (λ (name : Bor (List ℕ)). name.now)) c.deref.ensures.value ∙ c.in_ok-plan.ensures.names in
    command_ends c.args.verb (rows_of (found_of c.args.matches.now)) c.in_ok-plan.plan.task c.in_ok-plan.ensures.asked c.in_ok-plan.ensures.lawful named refl refl
    (inr (c.in_err-sources.field-0.0, p.1 ∙ ap Err p.2, c.in_err-sources.ensures.fault, refl, refl))

pub answer-outcome-requires-clause-files : goal.answer-outcome-requires-clause-files
answer-outcome-requires-clause-files g c κs within =
    has_opened c.in_ok-plan.plan.task c.deref.result.now (subst (HasFilesFor c.in_ok-plan.plan.task) (sym c.deref.ensures.value) c.in_ok-plan.ensures.files)
    c.in_ok-sources.ensures.opened

pub returns-in_default : goal.returns-in_default
returns-in_default g c =
    let named = ap (map (λ (name : Bor (List ℕ)). name.now)) c.deref.ensures.value ∙ c.in_ok-plan.ensures.names in
    let unnamed = rw c.in_default.is at c.text_of.ensures in
    let answer = c.answer-outcome.ensures in
    let sources = c.in_ok-sources.sources in
    let pairs = paired sources.items c.answer-outcome.new.files.items answer.names in
    let done = task_done pairs.0 pairs.1 answer.input c.take_sources.ensures answer.done in
    command_ends c.args.verb (rows_of (found_of c.args.matches.now)) c.in_ok-plan.plan.task {output = None} c.in_ok-plan.ensures.asked c.in_ok-plan.ensures.lawful named (sym unnamed) refl
    (inl (_, sources.items, c.in_ok-sources.ensures.opened, done))

pub answer_into-requires-clause-files : goal.answer_into-requires-clause-files
answer_into-requires-clause-files g c κs within =
    has_opened c.in_ok-plan.plan.task c.deref.result.now (subst (HasFilesFor c.in_ok-plan.plan.task) (sym c.deref.ensures.value) c.in_ok-plan.ensures.files)
    c.in_ok-sources.ensures.opened

pub answer_apart-requires-clause-files : goal.answer_apart-requires-clause-files
answer_apart-requires-clause-files g c =
    has_opened c.in_ok-plan.plan.task c.deref.result.now (subst (HasFilesFor c.in_ok-plan.plan.task) (sym c.deref.ensures.value) c.in_ok-plan.ensures.files)
    c.in_ok-sources.ensures.opened

pub answer_apart-requires-clause-two : goal.answer_apart-requires-clause-two
answer_apart-requires-clause-two g c =
    let other = rw c.in-Some-second_output.is at c.second_output.ensures in
    writes_two (rows_of (found_of c.args.matches.now)) c.args.verb c.in_ok-plan.plan.task c.in-Some-second_output.other.now c.requires c.in_ok-plan.ensures.asked (sym other)

pub returns-in-None : goal.returns-in-None
returns-in-None g c =
    let named = ap (map (λ (name : Bor (List ℕ)). name.now)) c.deref.ensures.value ∙ c.in_ok-plan.ensures.names in
    let output = rw c.in-Some.is at c.text_of.ensures in
    let none = rw c.in-None.is at c.second_output.ensures in
    command_ends c.args.verb (rows_of (found_of c.args.matches.now)) c.in_ok-plan.plan.task {output = Some c.in-Some.name.now} {second = None} c.in_ok-plan.ensures.asked c.in_ok-plan.ensures.lawful named (sym output) (sym none)
    (inl (_, c.in_ok-sources.sources.items, c.in_ok-sources.ensures.opened, (refl, c.answer_into.ensures)))

pub returns : goal.returns
returns g c =
    let named = ap (map (λ (name : Bor (List ℕ)). name.now)) c.deref.ensures.value ∙ c.in_ok-plan.ensures.names in
    let output = rw c.in-Some.is at c.text_of.ensures in
    let other = rw c.in-Some-second_output.is at c.second_output.ensures in
    command_ends c.args.verb (rows_of (found_of c.args.matches.now)) c.in_ok-plan.plan.task {output = Some c.in-Some.name.now} {second = Some c.in-Some-second_output.other.now} c.in_ok-plan.ensures.asked c.in_ok-plan.ensures.lawful named (sym output) (sym other)
    (inl (_, c.in_ok-sources.sources.items, c.in_ok-sources.ensures.opened, (refl, c.answer_apart.ensures _)))

use Rattle.std.proofs.Common.{◌≡◌, ◌∙◌, ap, subst}
use Rattle.std.proofs.lemmas.Result.{err_from_is_err_and}
use Rattle.std.specs.FinMap.{empty}
use Rattle.kc_kmer.specs.Rule.{CountingRule}
use Rattle.kc_table.specs.QuotientTable.{MayBeFull, counts_in}
use Rattle.kc_table.specs.declared.quotient_table.QuotientTable.{QuotientTable}
use Rattle.kc_word.specs.Shared.{values}
use Rattle.kc_booking.specs.Setup.{key_bits, stripe_count}
use Rattle.kc_command.specs.Settings.{rule_of}
use Rattle.kc_run.specs.Runs.{IsRunFault, MayEverBeFull}
use Rattle.kc_stripe.specs.Terms.{SomeTableMayBeFull}
use Rattle.kc_tool.specs.Tallies.{words_of}
use Rattle.kc_tool.proofs.SourcesLemmas.{k-kept, small_kept, tally_known}
use Rattle.kc_tool.proofs.FullLemmas.{may_fail}
use Rattle.kc_tool.proofs.TalliesLemmas.{All-both}
use Rattle.kc_tool.proofs.counted_sources.count_given.Goals as goal

pub run-requires-clause-few : goal.run-requires-clause-few
run-requires-clause-few g c κs within = rw c.deref.ensures.value c.in_ok-batches.ensures.few

pub run-requires-clause-small : goal.run-requires-clause-small
run-requires-clause-small g c κs within =
    rw c.deref.ensures.value (small_kept (words_of c.args.list) c.args.options.now c.in_ok-setup.setup.rule c.in_ok-setup.ensures.rule (values c.in_ok-batches.batches.items) c.in_ok-batches.ensures.small)

pub run-requires-clause-tables : goal.run-requires-clause-tables
run-requires-clause-tables g c κs within =
    All-both (λ (table : QuotientTable). counts_in table.slots ≡ empty) (λ (table : QuotientTable). table.bits ≡ key_bits c.in_ok-setup.setup)
    c.in_ok-tables.tables.items c.in_ok-tables.ensures.empty c.in_ok-tables.ensures.bits

pub returns-clause-tally : goal.returns-clause-tally
returns-clause-tally g c =
    let rule = c.in_ok-setup.setup.rule in
    let summary = c.in_ok-summary.summary in
    let is = rw c.deref.ensures.value at c.in_ok-summary.ensures.summary in
    tally_known g.S.Reported.knows summary c.in_ok-batches.ensures.cut rule c.in_ok-setup.ensures.rule ((g.met.S.Reported g.world.𝓛 g.world.𝓜 g.world.𝓡 ((λ s x. x), (λ x. x), (λ f x. f x), λ x. x)).tells rule _ summary is)

pub returns-in_err-summary-clause-fault : goal.returns-in_err-summary-clause-fault
returns-in_err-summary-clause-fault g c =
    let p = err_from_is_err_and c.from_residual-in_err-summary.result c.from_residual-in_err-summary.ensures.1 in
    let cut = c.in_ok-batches.ensures.cut in
    let settings = c.args.options.now in
    let setup = c.in_ok-setup.setup in
    let tables = c.in_ok-tables.tables.items in
    let fault = c.in_err-summary.field-0.0 in
    let k : setup.rule.k ≡ settings.k = ap (λ (rule : CountingRule). rule.k) c.in_ok-setup.ensures.rule ∙ k-kept (words_of c.args.list) (rule_of settings) in
    let refused = subst (λ n. IsRunFault (MayEverBeFull (SomeTableMayBeFull MayBeFull tables)) n (stripe_count setup) fault) c.workers-workers.ensures.value c.in_err-summary.ensures.refused in
    rw (p.1, p.2) (cut.reads, cut.are, may_fail settings setup tables fault k c.in_ok-setup.ensures.stripes c.in_ok-tables.ensures.bits c.in_ok-tables.ensures.max_log refused)

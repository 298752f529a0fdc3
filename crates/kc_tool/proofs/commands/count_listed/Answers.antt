use Rattle.std.proofs.Common.{refl}
use Rattle.kc_tool.specs.declared.commands.Task.TheVariants.{CountListed}
use Rattle.kc_tool.proofs.CommandsLemmas.{reported}
use Rattle.kc_tool.proofs.SourcesLemmas.{not_counted}
use Rattle.kc_tool.proofs.commands.count_listed.Goals as goal

pub returns-clause-done : goal.returns-clause-done
returns-clause-done g c =
    let settings = c.args.options.now in
    rw c.told_of_count.ensures (reported (CountListed settings) _ _ settings (λ table. refl) (λ table. refl) (λ table. tt)
    (not_counted _ _ settings) c.report_listed.result c.report_listed.ensures.done)

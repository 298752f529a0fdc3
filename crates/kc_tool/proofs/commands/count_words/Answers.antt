use Rattle.std.proofs.Common.{None, refl}
use Rattle.kc_tool.specs.declared.commands.Task.TheVariants.{Count}
use Rattle.kc_tool.proofs.CommandsLemmas.{reported}
use Rattle.kc_tool.proofs.ReportsLemmas.{put_otherwise}
use Rattle.kc_tool.proofs.SourcesLemmas.{not_counted, sources_counted, sources_refused}
use Rattle.kc_tool.proofs.commands.count_words.Goals as goal

pub returns-clause-done : goal.returns-clause-done
returns-clause-done g c =
    let settings = c.args.options.now in
    let done = put_otherwise settings c.report_given.result (sources_counted None None None _ _ settings tt)
    (λ fault is. sources_refused None None None _ _ settings tt fault) c.report_given.ensures.done in
    rw c.told_of_count.ensures (reported (Count settings) _ _ settings (λ table. refl) (λ table. refl) (λ table. tt)
    (not_counted _ _ settings) c.report_given.result done)

use Rattle.std.proofs.Common.{refl, subst}
use Rattle.kc_report.specs.Numbers.{IsCountOf}
use Rattle.kc_tool.specs.Reports.{numbers_text}
use Rattle.kc_tool.proofs.commands.report_table.Goals as goal

pub returns-clause-done : goal.returns-clause-done
returns-clause-done g c =
    let (table, gave, numbers) = c.in_ok-numbers.ensures.numbers in
    let counted = subst (λ high. IsCountOf high table.0.rows c.in_ok-numbers.numbers) c.high.ensures.value numbers in
    (numbers_text c.args.report table, (table, gave, refl, refl), c.in_ok-write.ensures table counted)

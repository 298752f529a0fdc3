use Rattle.std.proofs.Common.{◌∙◌, sym}
use Rattle.kc_tool.proofs.CommandLineLemmas.{told}
use Rattle.kc_tool.proofs.command_line.write_told.Goals as goal

pub returns-in-Some : goal.returns-in-Some
returns-in-Some g c =
    let asked = sym c.asked_counts.ensures ∙ c.in-Some.is in
    rw asked (told _ _ c.write_counted.result _ c.write_counted.ensures)

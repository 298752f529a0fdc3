use Rattle.std.proofs.Common.{append_assoc, refl}
use Rattle.kc_combine.specs.Compared.{comparison_text}
use Rattle.kc_combine.proofs.comparison_text.push_lines.Goals as goal

pub returns : goal.returns
unfolding comparison_text
returns c =
    rw (
      c.push_line-8.ensures.pushed,
      c.push_line-7.ensures.pushed,
      c.push_line-6.ensures.pushed,
      c.push_line-5.ensures.pushed,
      c.push_line-4.ensures.pushed,
      c.push_line-3.ensures.pushed,
      c.push_line-2.ensures.pushed,
      c.push_line.ensures.pushed,
      c.requires,
    ) (simp append_assoc refl)

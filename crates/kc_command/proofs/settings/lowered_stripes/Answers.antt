use Rattle.std.proofs.Common.{◌^◌, ◌*◌, ◌%◌, ◌∙◌, ap, ap₂}
use Rattle.std.specs.Prelude.{min}
use Rattle.kc_command.proofs.SettingsLemmas.{shifted}
use Rattle.kc_command.proofs.settings.lowered_stripes.Goals as goal

pub returns : goal.returns
returns c =
    let words = ap (λ k. (1 * 2 ^ (2 * k)) % 2 ^ 64) c.get.ensures.value ∙ shifted c.args.k c.get.ensures.fits in
    c.min.ensures ∙ ap₂ min c.from.ensures words

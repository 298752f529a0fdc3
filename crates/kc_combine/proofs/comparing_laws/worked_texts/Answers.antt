use Rattle.std.proofs.Common.{refl}
use Rattle.std.specs.Fmt.{digits}
use Rattle.kc_combine.specs.Compared.{comparison_text, spectrum_text}
use Rattle.kc_combine.proofs.comparing_laws.worked_texts.Goals as goal

pub returns-clause-numbers : goal.returns-clause-numbers
unfolding comparison_text digits
returns-clause-numbers c = refl

pub returns-clause-spectrum : goal.returns-clause-spectrum
unfolding spectrum_text digits
returns-clause-spectrum c = refl

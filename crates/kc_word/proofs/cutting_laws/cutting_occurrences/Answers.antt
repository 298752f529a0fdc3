use Rattle.std.proofs.Common.{map, ◌∙◌}
use Rattle.kc_word.specs.Cutting.{cleaned}
use Rattle.kc_word.proofs.Cuttings.{cutting-occurrences}
use Rattle.kc_word.proofs.Cleaning.{occurrences-cleaned}
use Rattle.kc_word.proofs.cutting_laws.cutting_occurrences.Goals as goal

pub returns : goal.returns
returns c = λ rule size reads word some size_some. cutting-occurrences rule size (map (λ read. cleaned rule read) reads) word some size_some ∙ occurrences-cleaned rule reads word

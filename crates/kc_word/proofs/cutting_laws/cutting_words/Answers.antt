use Rattle.std.proofs.Common.{map, ◌∙◌}
use Rattle.kc_word.specs.Cutting.{cleaned}
use Rattle.kc_word.proofs.Cuttings.{cutting-words}
use Rattle.kc_word.proofs.Cleaning.{words_of-cleaned}
use Rattle.kc_word.proofs.cutting_laws.cutting_words.Goals as goal

pub returns : goal.returns
returns c = λ rule size reads some size_some. cutting-words rule size (map (λ read. cleaned rule read) reads) some size_some ∙ words_of-cleaned rule reads

use Rattle.std.proofs.Common.{refl}
use Rattle.kc_kmer.specs.Letter.{is_base}
use Rattle.kc_kmer.specs.Occurrences.{is_usable}
use Rattle.kc_word.specs.Cutting.{cleaned, stretch, stretches, cutting}
use Rattle.kc_word.proofs.cutting_laws.worked_rows.Goals as goal

pub returns-clause-piece : goal.returns-clause-piece
unfolding cleaned is_usable is_base
returns-clause-piece c = refl

pub returns-clause-cutting : goal.returns-clause-cutting
unfolding cutting stretches stretch
returns-clause-cutting c = refl

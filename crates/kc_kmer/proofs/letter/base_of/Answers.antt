use Rattle.std.proofs.Common.{refl}
use Rattle.kc_kmer.specs.Letter.{base}
use Rattle.kc_kmer.proofs.TableLemmas.{table_at}
use Rattle.kc_kmer.proofs.letter.base_of.Goals as goal

pub returns : goal.returns
unfolding base
returns c = table_at base _ 4 refl c.args.code c.requires

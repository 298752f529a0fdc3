use Rattle.std.proofs.Common.{cond, refl}
use Rattle.std.specs.Char.{to_ascii_uppercase}
use Rattle.kc_kmer.specs.Letter.{is_base, code}
use Rattle.kc_kmer.proofs.TableLemmas.{table_at}
use Rattle.kc_kmer.proofs.letter.code_of.Goals as goal

pub returns : goal.returns
unfolding is_base code
returns c = table_at (λ byte. cond (is_base (to_ascii_uppercase byte)) (code (to_ascii_uppercase byte)) 4) _ 256 refl c.args.byte c.ranges.byte.fits

use Rattle.std.proofs.Common.{refl}
use Rattle.kc_kmer.specs.Letter.{base, code, complement}
use Rattle.kc_kmer.specs.Word.{number, text, reverse_complement}
use Rattle.kc_kmer.proofs.TableLemmas.{table_at}
use Rattle.kc_report.proofs.letters.reverse_complement_of_four.Goals as goal

pub returns : goal.returns
unfolding base code complement number text reverse_complement
returns c = table_at (λ codes. number (reverse_complement (text 4 codes))) _ 256 refl c.args.codes c.requires

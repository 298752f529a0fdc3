use Rattle.std.proofs.Common.{refl}
use Rattle.kc_kmer.specs.Letter.{base}
use Rattle.kc_kmer.proofs.TableLemmas.{table_at}
use Rattle.kc_report.specs.TableRows.{four_letters}
use Rattle.kc_report.proofs.letters.four_of.Goals as goal

pub returns : goal.returns
unfolding base
returns c = table_at four_letters _ 256 refl c.args.codes c.requires

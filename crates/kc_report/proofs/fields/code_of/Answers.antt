use Rattle.std.proofs.Common.{refl}
use Rattle.kc_kmer.specs.Letter.{is_base, code}
use Rattle.kc_kmer.proofs.TableLemmas.{table_at}
use Rattle.kc_report.specs.TableRows.{capital_code}
use Rattle.kc_report.proofs.fields.code_of.Goals as goal

pub returns : goal.returns
unfolding is_base code
returns c = table_at capital_code _ 256 refl c.args.byte c.ranges.byte.fits

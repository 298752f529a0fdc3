use Rattle.std.proofs.Common.{◌*◌, ◌+◌, ◌-◌, ap}
use Rattle.std.proofs.lemmas.Nat.{and_mask}
use Rattle.kc_gzip.proofs.CrcLemmas.{entry-behind}
use Rattle.kc_gzip.proofs.checksum.crc_behind_zeros.Goals as goal

pub returns : goal.returns
returns c = entry-behind c.args.count c.args.number _ c.requires.some c.requires.few (ap (λ low. 256 * (c.args.count - 1) + low) (and_mask c.args.number 8))

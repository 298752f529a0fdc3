use Rattle.kc_kmer.proofs.Turning.{turned-text, turned-lt}
use Rattle.kc_kmer.proofs.word.reverse_complement.Goals as goal

pub returns-clause-below : goal.returns-clause-below
returns-clause-below c = turned-lt c.args.k c.reverse_bits-backwards.result c.get.result c.get.ensures.fits c.get.ensures.value

pub returns-clause-read_back : goal.returns-clause-read_back
returns-clause-read_back c =
    turned-text c.args.k c.args.word.0 c.reverse_bits-backwards.result c.get.result c.requires c.get.ensures.fits c.get.ensures.value c.reverse_bits-backwards.ensures

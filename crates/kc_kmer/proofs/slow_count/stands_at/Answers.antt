use Rattle.kc_kmer.specs.Word.{text}
use Rattle.kc_kmer.proofs.Looking.{stands-some, stands-none}
use Rattle.kc_kmer.proofs.slow_count.stands_at.Goals as goal

pub returns-in-Some : goal.returns-in-Some
returns-in-Some c = stands-some c.args.rule.now c.args.read.now c.args.position c.in-Some.found.0 c.args.word.0 c.requires c.in-Some.ensures.below c.in-Some.ensures.some

pub returns-in-None : goal.returns-in-None
returns-in-None c = stands-none c.args.rule.now c.args.read.now c.args.position (text c.args.rule.now.k c.args.word.0) c.in-None.ensures.none

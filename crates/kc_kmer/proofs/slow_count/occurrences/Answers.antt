use Rattle.std.proofs.Common.{arith}
use Rattle.kc_kmer.specs.Word.{text}
use Rattle.kc_kmer.proofs.Looking.{IsSummedTo-none, IsSummedTo-more}
use Rattle.kc_kmer.proofs.slow_count.occurrences.Goals as goal

pub loop-read-init : goal.loop-read-init
loop-read-init c = IsSummedTo-none c.args.rule.now (text c.args.rule.now.k c.args.word.0)

pub loop-read-preserved : goal.loop-read-preserved
loop-read-preserved c =
    IsSummedTo-more c.args.rule.now c.args.reads.now (text c.args.rule.now.k c.args.word.0) (record {
      index = c.loop-read.read-index;
      read = c.read-item.result;
      count = c.occurrences_in-count.result;
      within = omega arith;
      read_is = c.read-item.is;
      count_is = c.occurrences_in-count.ensures.value;
      most = c.occurrences_in-count.ensures.most;
    }) c.loop-read.count c.loop-read.invariant

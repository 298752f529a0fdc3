use Rattle.std.proofs.Common.{◌≡◌, ◌+◌, ap, sym, ◌∙◌, subst, arith, length}
use Rattle.kc_kmer.specs.Word.{text}
use Rattle.kc_kmer.proofs.Looking.{IsCountedTo, IsCountedTo-yes, IsCountedTo-no, IsCountedTo-all}
use Rattle.kc_kmer.proofs.slow_count.occurrences_in.Goals as goal
use Rattle.kc_kmer.proofs.slow_count.occurrences_in.Goals.{then-stands_at, else-stands_at}

pub loop-position-preserved : goal.loop-position-preserved
loop-position-preserved c =
    elim c.if-stands_at.branch [
      | then-stands_at w ↦ subst (λ m. IsCountedTo c.args.rule.now c.args.read.now (text c.args.rule.now.k c.args.word.0) (c.loop-position.position + 1) m) (sym w.count-is)
          (IsCountedTo-yes c.args.rule.now c.args.read.now (text c.args.rule.now.k c.args.word.0) c.loop-position.position c.loop-position.count (sym c.stands_at.ensures ∙ w.if-stands_at.true) c.loop-position.invariant)
      | else-stands_at w ↦ subst (λ m. IsCountedTo c.args.rule.now c.args.read.now (text c.args.rule.now.k c.args.word.0) (c.loop-position.position + 1) m) (sym w.count-is)
          (IsCountedTo-no c.args.rule.now c.args.read.now (text c.args.rule.now.k c.args.word.0) c.loop-position.position c.loop-position.count (sym c.stands_at.ensures ∙ w.if-stands_at.false) c.loop-position.invariant)
    ]

pub returns-clause-value : goal.returns-clause-value
returns-clause-value c =
    let long : length c.bases.result.now ≡ length c.args.read.now.bases = ap length c.bases.ensures.value in
    IsCountedTo-all c.args.rule.now c.args.read.now (text c.args.rule.now.k c.args.word.0) c.loop-position.position c.loop-position.count (omega (arith, long)) c.loop-position.invariant

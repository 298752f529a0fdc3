use Rattle.std.proofs.Common.{sym, subst, arith}
use Rattle.kc_tally.specs.Tally.{AreRows}
use Rattle.kc_tally.proofs.PackingSteps.{word-small}
use Rattle.kc_tally.proofs.SumLemmas.{merged-none, merged-next, merged-sum}
use Rattle.kc_tally.proofs.sums.summed_rows.Goals as goal

pub words-init : goal.words-init
words-init c =
    let second = c.args.second.now in
    let also = subst (λ k. AreRows k c.args.first.now.both second.rows) (sym c.requires.k) (subst (λ both. AreRows second.k both second.rows) (sym c.requires.both) c.rows-seconds.ensures.lawful) in
    rw (c.new-sums.ensures, c.rows-firsts.ensures.rows, c.rows-seconds.ensures.rows) (merged-none c.rows-firsts.ensures.lawful also)

pub push-requires-clause-word : goal.push-requires-clause-word
push-requires-clause-word c =
    word-small c.args.first.now.k c.in-Some.row.word (omega (arith, c.get-bases.ensures.fits, c.k.ensures)) (merged-next c.words.invariant c.in-Some.ensures.some).0

pub push-requires-clause-present : goal.push-requires-clause-present
push-requires-clause-present c = (merged-next c.words.invariant c.in-Some.ensures.some).1

pub words-preserved : goal.words-preserved
words-preserved c = rw c.in_ok-push.ensures.more (merged-sum c.words.invariant c.in-Some.ensures.some)

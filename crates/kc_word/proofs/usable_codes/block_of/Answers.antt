use Rattle.std.proofs.Common.{◌≡◌, subst, arith}
use Rattle.std.proofs.lemmas.Nat.{and_mask}
use Rattle.kc_word.proofs.UsableLemmas.{IsTaken, room-below, taken-more, taken-all, few-seen}
use Rattle.kc_word.proofs.usable_codes.block_of.Goals as goal

pub loop-i-preserved : goal.loop-i-preserved
loop-i-preserved c =
    let test = c.loop-i-test.true in
    let most = c.requires.most in
    let room = room-below c.loop-i.number c.loop-i.i (omega (arith, test, most)) c.loop-i.invariant.below in
    let low = and_mask c.usable_code-code.result 2 in
    taken-more c.loop-i.invariant _ c.usable_code-code.result (omega (arith, room, low)) c.usable_code-code.ensures

pub returns : goal.returns
returns c =
    let test = c.loop-i-test.false in
    let end = c.loop-i.auto.i-end in
    let all : c.loop-i.i ≡ c.args.count = omega (arith, test, end) in
    let taken = subst (λ n. IsTaken c.args.rule.now c.args.read.now c.args.from n c.loop-i.number c.loop-i.seen) all
    c.loop-i.invariant in
    taken-all taken _ c.requires.most (few-seen c.loop-i.seen)

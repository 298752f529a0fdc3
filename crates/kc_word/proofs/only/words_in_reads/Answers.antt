use Rattle.std.proofs.Common.{[], ◌++◌, Contains, ap, sym, ◌∙◌, subst, arith}
use Rattle.kc_word.proofs.OnlyLemmas.{HasWords, HasWords-none, HasWords-same, HasWords-more, HasWords-all}
use Rattle.kc_word.proofs.only.words_in_reads.Goals as goal

pub loop-read-init : goal.loop-read-init
loop-read-init c = subst (λ ws. HasWords c.args.rule.now [] ws) (sym c.new-words.ensures.items) (HasWords-none c.args.rule.now)

pub loop-read-preserved : goal.loop-read-preserved
loop-read-preserved c =
    let more = HasWords-more c.args.rule.now c.args.reads.now c.loop-read.read-index c.read-item.result c.loop-read.words.items c.extend_from_slice.new.self.items
    (omega arith) c.read-item.is
    (c.in_ok-extend_from_slice.ensures.items ∙ ap (λ ws. c.loop-read.words.items ++ ws) (c.deref.ensures.value ∙ c.in_ok-more.ensures.words))
    c.loop-read.invariant in
    HasWords-same c.keep_once_at-limit.new.words.items c.keep_once_at-limit.ensures.same more

pub returns-clause-words : goal.returns-clause-words
returns-clause-words c =
    HasWords-all c.args.rule.now c.args.reads.now c.loop-read.read-index c.shrink_to_fit.new.self.items c.loop-read-test.false
    (HasWords-same c.shrink_to_fit.new.self.items
    (λ n. (
      λ h. (c.keep_once.ensures.same n).0 (subst (λ ws. Contains ws n) c.shrink_to_fit.ensures.items h),
      λ h. subst (λ ws. Contains ws n) (sym c.shrink_to_fit.ensures.items) ((c.keep_once.ensures.same n).1 h),
    )) c.loop-read.invariant)

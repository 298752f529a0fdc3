use Rattle.std.proofs.Common.{◌≡◌, ◌∙◌, true, false, All, get_or, sym, subst, refl, arith}
use Rattle.std.proofs.lemmas.List.{length-map, take_all, take_more}
use Rattle.std.proofs.lemmas.List.Elements.{All-nil, All-push}
use Rattle.kc_word.specs.Shared.{values}
use Rattle.kc_gather.specs.Gathering.{IsGiven}
use Rattle.kc_gather.proofs.Journals.{values-item, not_all_given}
use Rattle.kc_gather.proofs.journal.are_given.Goals as goal

pub loop-batch-init : goal.loop-batch-init
loop-batch-init c = All-nil (IsGiven (values c.args.batches.now))

pub returns-then-not-is_given : goal.returns-then-not-is_given
returns-then-not-is_given c =
    let item = values-item c.args.journal.now c.batch-item.result c.loop-batch.batch-index c.deref.result.now c.loop-batch-test.true c.batch-item.is c.deref.ensures in (
      λ never. absurd (cc never),
      λ all. absurd (not_all_given (values c.args.batches.now) (values c.args.journal.now) c.loop-batch.batch-index c.deref.result.now item.0 item.1
          (λ given. let never : true ≡ false = sym (c.is_given.ensures.1 given) ∙ c.if-not-is_given.true in cc) all),
    )

pub loop-batch-preserved : goal.loop-batch-preserved
loop-batch-preserved c =
    let Given = IsGiven (values c.args.batches.now) in
    let journal = values c.args.journal.now in
    let i = c.loop-batch.batch-index in
    let there = c.deref.result.now in
    let item = values-item c.args.journal.now c.batch-item.result i there c.loop-batch-test.true c.batch-item.is c.deref.ensures in
    subst (All Given) (sym (take_more journal i there item.0))
    (All-push Given _ (get_or journal i there) c.loop-batch.invariant (subst Given item.1 (c.is_given.ensures.0 c.if-not-is_given.false)))

pub returns : goal.returns
returns c =
    let long = length-map c.args.journal.now (λ batch. batch.value) in
    let whole = take_all c.loop-batch.batch-index (values c.args.journal.now) (omega (arith, long, c.loop-batch-test.false)) in
    (λ _. subst (All (IsGiven (values c.args.batches.now))) whole c.loop-batch.invariant, λ _. refl)

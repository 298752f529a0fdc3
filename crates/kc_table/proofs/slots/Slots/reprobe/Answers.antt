use Rattle.std.proofs.Common.{arith, refl, sym, ◌∙◌, ◌+◌, ◌/◌, ◌<◌, ◌^◌, bit_and}
use Rattle.kc_table.specs.Reprobing.{tag_of}
use Rattle.kc_table.specs.Slots.{slot_tags}
use Rattle.kc_table.proofs.Soundness.{remainder-lt}
use Rattle.kc_table.proofs.ReprobingSteps.{Walk, Look, IsLook, walked_none, walked_more, walked_found, walked_free, next_place}
use Rattle.kc_table.proofs.SlotSteps.{mask_of, mask_is}
use Rattle.kc_table.proofs.Writing.{takes_tag}
use Rattle.kc_table.proofs.slots.Slots.reprobe.Goals as goal
use Rattle.kc_table.proofs.slots.Slots.reprobe.Goals.{After-tag}

pub loop-i-init : goal.loop-i-init
loop-i-init c = walked_none _ _ _ _ _ (mask_is c.args.self.now)

pub overflow_mul-wanted : goal.overflow_mul-wanted
overflow_mul-wanted c =
    let remainder : c.args.key / 2 ^ c.args.self.now.log < 2 ^ 58 = remainder-lt c.args.self.now.sound c.args.key c.requires in
    omega arith

pub overflow_add-wanted-in-loop-i : goal.overflow_add-wanted-in-loop-i
overflow_add-wanted-in-loop-i c =
    let remainder : c.args.key / 2 ^ c.args.self.now.log < 2 ^ 58 = remainder-lt c.args.self.now.sound c.args.key c.requires in
    omega arith

abbrev walk : After-tag → Walk
walk c = record {
  log = c.args.self.now.log;
  tag = slot_tags c.args.self.now;
  key = c.args.key;
  i = c.loop-i.i;
  stand = c.loop-i.place;
  begun = c.args.steps.now.count;
  count = c.loop-i.steps.count;
}

abbrev look : After-tag → Look
look c = record {
  next = bit_and (c.loop-i.place + c.loop-i.i) (mask_of c.args.self.now);
  read = c.tag-tag.result;
  wanted = tag_of c.args.self.now.log c.args.key c.loop-i.i;
  after = c.and_one.result.count;
}

-- what was read at the next place
looked : (c : After-tag) → IsLook (walk c) (look c)
looked c = record {
  small = c.loop-i-test.true;
  here = next_place _ c.args.key _ _ _ (mask_is c.args.self.now) c.loop-i.invariant.here;
  read_is = c.tag-tag.ensures;
  wanted_is = refl;
  step = c.and_one.ensures;
}

pub returns-then-tag-wanted-clause-walked : goal.returns-then-tag-wanted-clause-walked
returns-then-tag-wanted-clause-walked c =
    let at = (goal.at.returns-then-tag-wanted-clause-walked c).After-tag in
    walked_found (walk at) (look at) c.loop-i.invariant (looked at) (sym c.tag.view_is ∙ c.if-tag-wanted.true)

pub returns-then-tag-eq0-clause-walked : goal.returns-then-tag-eq0-clause-walked
returns-then-tag-eq0-clause-walked c =
    let at = (goal.at.returns-then-tag-eq0-clause-walked c).After-tag in
    walked_free (walk at) (look at) c.loop-i.invariant (looked at) (sym c.tag.view_is ∙ c.if-tag-eq0.true)

pub returns-then-tag-eq0-clause-room : goal.returns-then-tag-eq0-clause-room
returns-then-tag-eq0-clause-room c =
    takes_tag c.args.self.now c.args.key _ _ (returns-then-tag-eq0-clause-walked c).0 c.requires

pub loop-i-preserved : goal.loop-i-preserved
loop-i-preserved c =
    let at = (goal.at.loop-i-preserved c).After-tag in
    walked_more (walk at) (look at) c.loop-i.invariant (looked at) (λ same. c.if-tag-wanted.false (c.tag.view_is ∙ same))
    (λ none. c.if-tag-eq0.false (c.tag.view_is ∙ none))

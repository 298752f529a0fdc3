use Rattle.kc_table.specs.Slot.{tag_at}
use Rattle.kc_table.proofs.ReprobingSteps.{IsWalked}
use Rattle.kc_table.proofs.slots.Slots.reprobe.Given as goal

abbrev pub invariant-loop-i : goal.invariant-loop-i
invariant-loop-i l = IsWalked (record {
  log = l.self.log;
  tag = tag_at l.self.slots.items;
  key = l.key;
  i = l.i;
  stand = l.place;
  begun = l.fn.steps.count;
  count = l.steps.count;
})

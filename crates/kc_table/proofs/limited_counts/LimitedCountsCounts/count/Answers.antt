use Rattle.std.proofs.Common.{◌≡◌, ◌∙◌, ap, sym, subst}
use Rattle.std.specs.FinMap.{len}
use Rattle.kc_table.specs.Counts.{KeyCounts, IsStored, readied}
use Rattle.kc_table.proofs.KeyCounts.{IsStored-readied, room_readied, told_readied, counted_readied, len-insert_stored}
use Rattle.kc_table.proofs.limited_counts.LimitedCountsCounts.count.Goals as goal
use Rattle.kc_table.proofs.limited_counts.LimitedCountsCounts.count.Goals.{After-self}

-- what the inner map is when the key is counted
ready : (c : After-self) → c.self.inside.plain.counts ≡ readied c.args.self.now.counts c.args.key
ready c = ap (λ t. t.counts) c.self.view_is ∙ c.in_ok-ready.ensures.stored

stored : (c : After-self) → IsStored c.self.inside.plain.counts c.args.key
stored c = subst (λ (m : KeyCounts). IsStored m c.args.key) (sym (ready c)) (IsStored-readied _ c.args.key)

pub increment-requires-clause-stored : goal.increment-requires-clause-stored
increment-requires-clause-stored c = stored (goal.at.increment-requires-clause-stored c).After-self

pub increment-requires-clause-room : goal.increment-requires-clause-room
increment-requires-clause-room c =
    room_readied _ _ c.args.key _ (ready (goal.at.increment-requires-clause-room c).After-self) c.requires.room

pub invariant_of-self : goal.invariant_of-self
invariant_of-self c = (
  c.self.invariant.0 ∙ sym
      (ap len c.increment.ensures.counted
      ∙ len-insert_stored c.self.inside.plain.counts c.args.key _ (stored (goal.at.invariant_of-self c).After-self)),
  c.self.invariant.1,
)

pub returns-clause-new_count : goal.returns-clause-new_count
returns-clause-new_count c =
    told_readied _ _ c.args.key _ (ready (goal.at.returns-clause-new_count c).After-self) c.increment.ensures.told

pub returns-clause-counted : goal.returns-clause-counted
returns-clause-counted c =
    counted_readied _ _ _ c.args.key (ready (goal.at.returns-clause-counted c).After-self) c.increment.ensures.counted

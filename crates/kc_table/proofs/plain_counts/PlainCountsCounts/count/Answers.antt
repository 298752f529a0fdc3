use Rattle.std.proofs.Common.{sym, subst}
use Rattle.kc_table.specs.Counts.{KeyCounts, IsStored}
use Rattle.kc_table.proofs.KeyCounts.{IsStored-readied, room_readied, told_readied, counted_readied}
use Rattle.kc_table.proofs.plain_counts.PlainCountsCounts.count.Goals as goal

pub increment-requires-clause-stored : goal.increment-requires-clause-stored
increment-requires-clause-stored c =
    subst (λ (m : KeyCounts). IsStored m c.args.key) (sym c.in_ok-ready.ensures.stored) (IsStored-readied _ c.args.key)

pub increment-requires-clause-room : goal.increment-requires-clause-room
increment-requires-clause-room c = room_readied _ _ c.args.key _ c.in_ok-ready.ensures.stored c.requires.room

pub returns-clause-new_count : goal.returns-clause-new_count
returns-clause-new_count c = told_readied _ _ c.args.key _ c.in_ok-ready.ensures.stored c.increment.ensures.told

pub returns-clause-counted : goal.returns-clause-counted
returns-clause-counted c = counted_readied _ _ _ c.args.key c.in_ok-ready.ensures.stored c.increment.ensures.counted

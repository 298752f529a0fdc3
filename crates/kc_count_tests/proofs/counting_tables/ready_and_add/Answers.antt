use Rattle.std.proofs.Common.{sym, subst}
use Rattle.kc_table.specs.Counts.{KeyCounts, IsStored}
use Rattle.kc_table.proofs.KeyCounts.{IsStored-readied}
use Rattle.kc_count_tests.proofs.counting_tables.ready_and_add.Goals as goal

pub add-requires-clause-stored : goal.add-requires-clause-stored
add-requires-clause-stored g c =
    subst (λ (n : KeyCounts). IsStored n c.args.key) (sym c.in_ok-ready.ensures.stored) (IsStored-readied _ c.args.key)

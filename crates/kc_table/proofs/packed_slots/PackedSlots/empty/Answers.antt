use Rattle.std.proofs.Common.{◌∙◌, ◌^◌, ap, arith, replicate}
use Rattle.std.proofs.lemmas.Nat.{one_shl}
use Rattle.kc_table.proofs.SlotNumbers.{empty_slots}
use Rattle.kc_table.proofs.packed_slots.PackedSlots.empty.Goals as goal

pub returns-clause-empty : goal.returns-clause-empty
returns-clause-empty c =
    empty_slots _ (2 ^ c.args.log) _ _
    (c.in_ok-numbers.ensures.zeros ∙ ap (λ n. replicate n 0) (one_shl c.args.log 64 (omega (arith, c.requires.few_slots))))
    c.in_ok-great.ensures.none

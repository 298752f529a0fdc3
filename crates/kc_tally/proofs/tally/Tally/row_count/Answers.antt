use Rattle.std.proofs.Common.{◌≤◌, ◌^◌, length, sym, subst}
use Rattle.kc_tally.proofs.Parts.{all_rows, rows-few}
use Rattle.kc_tally.proofs.tally.Tally.row_count.Goals as goal

pub row_count-requires : goal.row_count-requires
row_count-requires c =
    subst (λ parts. length (all_rows parts) ≤ 2 ^ 62) (sym c.deref.ensures.value)
    (rows-few c.self.inside.k c.self.inside.both (all_rows c.self.inside.parts.items) c.self.invariant.0)

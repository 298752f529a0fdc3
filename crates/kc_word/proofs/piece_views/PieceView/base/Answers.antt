use Rattle.std.proofs.Common.{length, ap, arith}
use Rattle.kc_word.proofs.Clipping.{length-cut}
use Rattle.kc_word.proofs.piece_views.PieceView.base.Goals as goal

pub overflow_add-self-inside : goal.overflow_add-self-inside
overflow_add-self-inside c =
    let below = c.requires in
    let same = ap length c.self.view_is in
    let range = c.self.invariant in
    let long = length-cut c.self.inside.bytes.now c.self.inside.from c.self.inside.to range.0 range.1 in
    let fits = range.2 in
    omega (arith, below, same, long, fits)

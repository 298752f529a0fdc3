use Rattle.std.proofs.Common.{rules, ◌+◌, ◌<◌, [], ◌∷◌, length, drop, get_or, ap, sym, ◌∙◌, arith}
use Rattle.std.proofs.lemmas.List.{drop_more}
use Rattle.kc_word.proofs.Splitting.{AreBounds, length-pieces_in, start-first, start-later, bounds-read}
use Rattle.kc_word.proofs.piece_views.PieceViewsIterator.next.Goals as goal
use Rattle.kc_word.proofs.piece_views.PieceViewsIterator.next.Goals.{After-pieces, then-i-eq0, else-i-eq0}

-- a piece is left
left : (c : After-pieces) → c.self.inside.next < length c.pieces.inside.ends.items
left c =
    let count = sym (length-pieces_in c.pieces.inside.bytes c.pieces.inside.ends.items) ∙ ap length c.pieces.view_is in
    let pieces = c.len.ensures in
    let below = c.if-i-len.false in
    omega (arith, count, pieces, below)

pub index-requires : goal.index-requires
index-requires c =
    let below = left (goal.at.index-requires c).After-pieces in
    let long = c.pieces.inside.ends.ok.0 in
    omega (arith, below, long)

pub index-requires-2 : goal.index-requires-2
index-requires-2 c =
    let below = left (goal.at.index-requires-2 c).After-pieces in
    let long = c.pieces.inside.ends.ok.0 in
    omega (arith, below, long)

bounds : (c : goal.After-row_known-2-1) → c.self.inside.next < length c.pieces.inside.ends.items
    → AreBounds c.pieces.inside.bytes c.pieces.inside.ends.items c.self.inside.next c.if-i-eq0.start c.index-2.result.now
bounds c below =
    bounds-read c.pieces.inside.bytes c.pieces.inside.ends.items c.self.inside.next c.if-i-eq0.start c.index-2.result.now c.pieces.invariant below
    (elim c.if-i-eq0.branch [
      | then-i-eq0 w ↦ w.start-is ∙ start-first c.pieces.inside.ends.items c.self.inside.next w.if-i-eq0.true
      | else-i-eq0 w ↦ w.start-is ∙ start-later c.pieces.inside.ends.items c.self.inside.next w.index.result.now w.if-i-eq0.false below w.index.ensures
    ]) c.index-2.ensures

pub invariant_of-result : goal.invariant_of-result
invariant_of-result c =
    let ends = bounds c (left (goal.at.invariant_of-result c).After-pieces) in
    (ends.ordered, ends.within, first_of (omega arith, search rules))

pub returns-clause-steps : goal.returns-clause-steps
returns-clause-steps c =
    let below = left (goal.at.returns-clause-steps c).After-pieces in
    let pieces = c.len.ensures in
    let some = c.if-i-len.false in
    sym c.self.view_is ∙ drop_more c.self.inside.pieces.now c.self.inside.next [] (omega (arith, pieces, some))
    ∙ ap (λ piece. piece ∷ drop (c.self.inside.next + 1) c.self.inside.pieces.now)
    (ap (λ ps. get_or ps c.self.inside.next []) (sym c.pieces.view_is) ∙ sym (bounds c below).piece_is)

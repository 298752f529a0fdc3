use Rattle.std.proofs.Common.{◌<◌, None, [], length, get_or, ap, sym, ◌∙◌, arith}
use Rattle.kc_fastx.specs.Reads.{read_of}
use Rattle.kc_kmer.specs.Occurrences.{words_in}
use Rattle.kc_word.proofs.Splitting.{AreBounds, length-pieces_in, start-first, start-later, bounds-read}
use Rattle.kc_word.proofs.pieces.Pieces.roll.Goals as goal
use Rattle.kc_word.proofs.pieces.Pieces.roll.Goals.{After-self, then-i-eq0, else-i-eq0}

below : (c : After-self) → c.args.i < length c.self.inside.ends.items
below c =
    let count = sym (length-pieces_in c.self.inside.bytes c.self.inside.ends.items) ∙ ap length c.self.view_is in
    let within = c.requires in
    omega (arith, count, within)

pub index-requires : goal.index-requires
index-requires c = let within = below (goal.at.index-requires c).After-self in let long = c.self.inside.ends.ok.0 in omega (arith, within, long)

pub index-requires-2 : goal.index-requires-2
index-requires-2 c = let within = below (goal.at.index-requires-2 c).After-self in let long = c.self.inside.ends.ok.0 in omega (arith, within, long)

bounds : (c : goal.After-row_known-2-1) → c.args.i < length c.self.inside.ends.items
    → AreBounds c.self.inside.bytes c.self.inside.ends.items c.args.i c.if-i-eq0.start c.index-2.result.now
bounds c within =
    bounds-read c.self.inside.bytes c.self.inside.ends.items c.args.i c.if-i-eq0.start c.index-2.result.now c.self.invariant within
    (elim c.if-i-eq0.branch [
      | then-i-eq0 w ↦ w.start-is ∙ start-first c.self.inside.ends.items c.args.i w.if-i-eq0.true
      | else-i-eq0 w ↦ w.start-is ∙ start-later c.self.inside.ends.items c.args.i w.index.result.now w.if-i-eq0.false within w.index.ensures
    ]) c.index-2.ensures

pub new-requires-clause-ordered : goal.new-requires-clause-ordered
new-requires-clause-ordered c = (bounds c (below (goal.at.new-requires-clause-ordered c).After-self)).ordered

pub new-requires-clause-within : goal.new-requires-clause-within
new-requires-clause-within c = (bounds c (below (goal.at.new-requires-clause-within c).After-self)).within

pub returns-clause-place : goal.returns-clause-place
returns-clause-place c =
    let at = goal.at.returns-clause-place c in
    c.new.ensures.place
    ∙ ap (λ bs. record { rule = c.args.rule; bytes = bs; taken = 0 })
    ((bounds c.before (below at.After-self)).piece_is ∙ ap (λ ps. get_or ps c.args.i []) c.self.view_is)

pub returns-clause-words : goal.returns-clause-words
returns-clause-words c =
    c.new.ensures.words ∙ ap (λ bs. words_in c.args.rule (read_of bs None)) (sym (ap (λ r. r.bytes) c.new.ensures.place)
    ∙ ap (λ r. r.bytes) (returns-clause-place c))

use Rattle.std.proofs.Common.{ap, ◌∙◌}
use Rattle.kc_word.specs.PackedPiece.{bytes_of}
use Rattle.kc_word.proofs.Joining.{bytes_of-none, IsPiece-none}
use Rattle.kc_word.proofs.PackedLemmas.{codes_of-none}
use Rattle.kc_word.proofs.piece.Piece.new.Goals as goal

pub invariant_of-result-2 : goal.invariant_of-result-2
invariant_of-result-2 c = IsPiece-none _ c.new-2.result.items (codes_of-none c.new.result.items) c.new-2.ensures.items

pub returns : goal.returns
returns c = ap (λ codes. bytes_of codes c.new-2.result.items) (codes_of-none c.new.result.items) ∙ bytes_of-none c.new-2.result.items

use Rattle.std.proofs.Common.{length, ap, sym, ◌∙◌}
use Rattle.kc_word.proofs.Splitting.{length-pieces_in}
use Rattle.kc_word.proofs.pieces.Pieces.len.Goals as goal

pub returns : goal.returns
returns c =
    c.len.ensures ∙ c.self.inside.ends.ok.0 ∙ sym (length-pieces_in c.self.inside.bytes c.self.inside.ends.items) ∙ ap length c.self.view_is

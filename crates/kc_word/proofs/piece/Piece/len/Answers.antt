use Rattle.std.proofs.Common.{length, ap, sym, ◌∙◌}
use Rattle.kc_word.proofs.PackedLemmas.{length-codes_of}
use Rattle.kc_word.proofs.PieceLemmas.{length-bytes_of}
use Rattle.kc_word.proofs.piece.Piece.len.Goals as goal

pub returns : goal.returns
returns c =
    sym (length-codes_of c.self-inside.inside.0.0.numbers.items c.self-inside.inside.0.0.len) ∙ ap (λ p. length p.bases) c.self-inside.view_is
    ∙ sym (length-bytes_of c.self.inside.bases c.self.inside.runs.items) ∙ ap length c.self.view_is

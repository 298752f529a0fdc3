use Rattle.std.proofs.Common.{◌-◌, ◌∷◌, ◌++◌, [], take, drop, ap, ◌∙◌}
use Rattle.kc_word.proofs.Splitting.{pieces-pushed}
use Rattle.kc_word.proofs.pieces.Pieces.with_part.Goals as goal

pub invariant_of-result : goal.invariant_of-result
invariant_of-result c =
    (pieces-pushed c.self.inside.bytes _ c.self.inside.ends.items c.in_ok-bytes.bytes c.push.new.self.items c.self.invariant
    c.in_ok-bytes.ensures (c.in_ok-push.ensures.items ∙ ap (λ n. c.self.inside.ends.items ++ n ∷ []) c.len.ensures)).ends_are

pub returns : goal.returns
returns c =
    (pieces-pushed c.self.inside.bytes _ c.self.inside.ends.items c.in_ok-bytes.bytes c.push.new.self.items c.self.invariant
    c.in_ok-bytes.ensures (c.in_ok-push.ensures.items ∙ ap (λ n. c.self.inside.ends.items ++ n ∷ []) c.len.ensures)).pieces_are
    ∙ ap (λ ps. ps ++ take (c.args.to - c.args.from) (drop c.args.from c.args.piece.now) ∷ []) c.self.view_is

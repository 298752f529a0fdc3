use Rattle.std.proofs.Common.{nat_le, length, ap, sym, ◌∙◌}
use Rattle.kc_word.proofs.Cleaning.{length-cleaned}
use Rattle.kc_select.proofs.base_walk.BaseWalk.is_done.Goals as goal

pub returns : goal.returns
returns c =
    ap (λ bases. nat_le (length bases) c.self.inside.at) c.bases.ensures.value
    ∙ ap (λ n. nat_le n c.self.inside.at) (sym (length-cleaned c.self.inside.rolled.rule c.self.inside.read.now))
    ∙ ap (λ w. nat_le (length w.bytes) w.taken) c.self.view_is

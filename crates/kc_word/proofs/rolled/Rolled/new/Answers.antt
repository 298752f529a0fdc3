use Rattle.std.proofs.Common.{refl, arith, ◌∙◌}
use Rattle.kc_word.proofs.Counting.{backward-start}
use Rattle.kc_word.proofs.Rolling.{IsRolled-none}
use Rattle.kc_word.proofs.WalkLemmas.{IsWalking-none}
use Rattle.kc_word.proofs.rolled.Rolled.new.Goals as goal

pub returns-clause-front : goal.returns-clause-front
returns-clause-front c = λ bytes fits.
    IsWalking-none c.args.rule bytes _ refl c.has_no_list.ensures
    (IsRolled-none c.args.rule.k _ refl (backward-start c.args.rule.k c.get-k.result (c.get-k.ensures.value ∙ c.k.ensures) (omega arith)) refl) refl fits

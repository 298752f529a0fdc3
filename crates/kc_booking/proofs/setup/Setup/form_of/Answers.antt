use Rattle.std.proofs.Common.{ℕ, ◌^◌, ◌<◌, sym, ◌∙◌, subst}
use Rattle.kc_booking.proofs.Forms.{form-on_both, form-on_one, form-from_letters}
use Rattle.kc_booking.proofs.setup.Setup.form_of.Goals as goal

pub returns-then-both-clause-value : goal.returns-then-both-clause-value
returns-then-both-clause-value c =
    let rule = c.self.inside.rule in
    let below : c.canonical.result.0 < 4 ^ rule.k = subst (λ (k : ℕ). c.canonical.result.0 < 4 ^ k) c.k.ensures c.canonical.ensures.below in
    rw (← c.self.view_is) (form-from_letters c.number_of_text.ensures rule c.args.word.0 c.canonical.result.0 below
    (form-on_both rule c.k.result c.args.word.0 c.canonical.result.0 (sym c.both.ensures ∙ c.if-both.true) c.k.ensures c.canonical.ensures.lesser))

pub returns-then-both-clause-letters : goal.returns-then-both-clause-letters
returns-then-both-clause-letters c =
    rw (← c.self.view_is) (form-on_both c.self.inside.rule c.k.result c.args.word.0 c.canonical.result.0 (sym c.both.ensures ∙ c.if-both.true) c.k.ensures c.canonical.ensures.lesser)

pub returns-else-both-clause-value : goal.returns-else-both-clause-value
returns-else-both-clause-value c =
    let below = rw (← c.self.view_is) at c.requires in
    rw (← c.self.view_is) (form-from_letters c.number_of_text.ensures c.self.inside.rule c.args.word.0 c.args.word.0 below
    (form-on_one c.self.inside.rule c.args.word.0 (sym c.both.ensures ∙ c.if-both.false)))

pub returns-else-both-clause-letters : goal.returns-else-both-clause-letters
returns-else-both-clause-letters c =
    rw (← c.self.view_is) (form-on_one c.self.inside.rule c.args.word.0 (sym c.both.ensures ∙ c.if-both.false))

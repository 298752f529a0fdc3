use Rattle.std.proofs.Common.{◌∙◌, ap, subst}
use Rattle.kc_table.specs.Counts.{IsGreatestCount, IsWithin}
use Rattle.kc_booking.proofs.Greatest.{greatest_words}
use Rattle.kc_booking.proofs.stripe.Stripe.greatest.Goals as goal

pub returns : goal.returns
returns g c =
    let table = ap (λ s. s.counted.table) c.self-inside.view_is in
    let within = subst (λ (t : g.row.C.Denot). IsWithin c.key_bits-bits.result (g.C.Counts.counts t)) table c.key_bits-bits.ensures.within in
    rw (← c.self.view_is)
    (greatest_words c.greatest.result c.self.invariant.1 c.self.invariant.0
    (subst (λ n. IsWithin n (g.C.Counts.counts c.self.inside.counted.table)) (c.key_bits-bits.ensures.bits ∙ ap g.C.Counts.bits table) within)
    (subst (λ (t : g.row.C.Denot). IsGreatestCount (g.C.Counts.counts t) c.greatest.result) table c.greatest.ensures))

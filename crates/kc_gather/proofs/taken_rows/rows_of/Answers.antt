use Rattle.std.proofs.Common.{◌≡◌, map, subst, rules}
use Rattle.std.specs.List.Sorted.{IsPermutation}
use Rattle.kc_booking.specs.Stripe.{row_of_pair}
use Rattle.kc_gather.specs.Parts.{ArePartsOf, part_rows}
use Rattle.kc_gather.proofs.Rows.{HasRowsOf-whole}
use Rattle.kc_gather.proofs.taken_rows.rows_of.Goals as goal

pub returns : goal.returns
returns g c = λ setup batches n whole.
    let same : c.deref.result.now ≡ c.in_ok-rows.rows.items = search rules in
    let same_k : c.k-k.result ≡ c.args.stripe.setup.rule.k = search rules in
    HasRowsOf-whole setup batches n c.args.stripe (map row_of_pair c.in_ok-rows.rows.items) c.in_ok-parts.parts c.is_lawful.ensures.numbers_differ whole c.in_ok-rows.ensures
    (subst (λ k. ArePartsOf k c.in_ok-parts.parts.items) same_k c.in_ok-parts.ensures.parts)
    (subst (λ pairs. IsPermutation (map row_of_pair pairs) (part_rows c.in_ok-parts.parts)) same c.in_ok-parts.ensures.rows)

use Rattle.std.proofs.Common.{◌≡◌, ◌+◌, ◌<◌, ◌^◌, All, length, refl, sym, subst, arith}
use Rattle.kc_gather.specs.declared.stripe_part.StripePart.{StripePart}
use Rattle.kc_gather.specs.declared.stripe_part.StripeNumbers.{StripeNumbers}
use Rattle.kc_gather.specs.JoinedStripes.{first_counts, AreNumbersOf}
use Rattle.kc_gather.proofs.JoinedLemmas.{bins-more, bins-fit, total-more, total-fits, numbers-more}
use Rattle.kc_gather.proofs.joined_stripes.joined_numbers.Goals as goal

pub loop-part-init : goal.loop-part-init
loop-part-init c = (omega arith, λ counts have. record { bins_are = c.in_ok-bins.ensures; total_is = refl; greatest_is = refl })

pub add-requires : goal.add-requires
add-requires c =
    let (counts, have, few, _) = c.requires in
    let i = c.loop-part.part-index in
    let before = c.loop-part.invariant.1 counts have in
    let own = subst (λ (p : StripePart). AreNumbersOf (counts i) p.numbers) (sym c.part-item.is) (have i c.part-item.result c.loop-part-test.true) in
    subst (All (λ size. size < 2 ^ 64)) (sym (bins-more counts i before.bins_are own.bins_are))
    (bins-fit counts (i + 1) (length c.args.parts.now) (omega (arith, c.loop-part-test.true)) few)

pub overflow_add-total : goal.overflow_add-total
overflow_add-total c =
    let (counts, have, _, small) = c.requires in
    let i = c.loop-part.part-index in
    let before = c.loop-part.invariant.1 counts have in
    let own = subst (λ (p : StripePart). AreNumbersOf (counts i) p.numbers) (sym c.part-item.is) (have i c.part-item.result c.loop-part-test.true) in
    let more = total-more counts i before.total_is own.total_is in
    let fits = total-fits counts (i + 1) (length c.args.parts.now) (omega (arith, c.loop-part-test.true)) in
    omega (arith, more, fits, small)

pub loop-part-preserved : goal.loop-part-preserved
loop-part-preserved c = (
  omega (arith, c.loop-part-test.true),
  λ counts have.
      let i = c.loop-part.part-index in
      let own = subst (λ (p : StripePart). AreNumbersOf (counts i) p.numbers) (sym c.part-item.is) (have i c.part-item.result c.loop-part-test.true) in
      numbers-more counts i _ c.part-item.result.numbers _ (c.loop-part.invariant.1 counts have) own c.add.ensures refl c.max-greatest.ensures,
)

pub returns : goal.returns
returns c = λ counts have.
    let all : c.loop-part.part-index ≡ length c.args.parts.now = omega (arith, c.loop-part.invariant.0, c.loop-part-test.false) in
    let numbers : StripeNumbers = record { histogram = c.loop-part.bins; total = c.loop-part.total; greatest = c.loop-part.greatest } in
    subst (λ n. AreNumbersOf (first_counts counts n) numbers) all (c.loop-part.invariant.1 counts have)

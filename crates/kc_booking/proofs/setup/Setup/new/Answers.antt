use Rattle.std.proofs.Common.{◌≡◌, ◌*◌, ◌∙◌, true, false, refl, sym, ap, arith, rules}
use Rattle.kc_booking.proofs.HashValues.{IsLookedAt, no_setup-hash, no_setup-power, no_setup-few, is_setup, few_stripe_bits}
use Rattle.kc_booking.proofs.setup.Setup.new.Goals as goal
use Rattle.kc_booking.proofs.setup.Setup.new.Goals.{then-bits-word_bits-via-then-bits-word_bits, then-bits-word_bits-via-else-bits-word_bits+then-stripes-stripe_bits, then-bits-word_bits-via-else-bits-word_bits+else-stripes-stripe_bits+then-stripe_bits-word_bits}

pub returns-then-bits-word_bits-clause-some : goal.returns-then-bits-word_bits-clause-some
returns-then-bits-word_bits-clause-some c =
    let seen : IsLookedAt c.args.rule c.args.hash c.args.stripes c.bits.result (2 * c.get-word_bits.result) c.ilog2-stripe_bits.result = record {
      hash_bits = c.bits.ensures.columns;
      word_bits = search rules;
      at_most = omega arith;
      low = c.ilog2-stripe_bits.ensures.power_le;
      high = c.ilog2-stripe_bits.ensures.next_power_gt;
    } in (
      λ never. absurd (let no : false ≡ true = never in cc),
      λ is. elim c.then-bits-word_bits.branch [
        | then-bits-word_bits-via-then-bits-word_bits w ↦ absurd (no_setup-hash _ _ _ _ _ _ seen w.if-bits-word_bits.true is)
        | then-bits-word_bits-via-else-bits-word_bits+then-stripes-stripe_bits w ↦ absurd (no_setup-power _ _ _ _ _ _ seen w.if-stripes-stripe_bits.true is)
        | then-bits-word_bits-via-else-bits-word_bits+else-stripes-stripe_bits+then-stripe_bits-word_bits w ↦ absurd (no_setup-few _ _ _ _ _ _ seen w.if-stripe_bits-word_bits.true is)
      ],
    )

pub invariant_of-result : goal.invariant_of-result
invariant_of-result c = (
  record {
    word_bits = sym c.bits.ensures.columns ∙ c.if-bits-word_bits.false ∙ ap (λ n. 2 * n) (search rules);
    at_most = search rules;
    stripe_bits_at_most = few_stripe_bits c.args.stripes c.ilog2-stripe_bits.result (omega arith) c.ilog2-stripe_bits.ensures.power_le;
    stripe_bits_few = search rules;
  },
  tt,
)

pub returns-clause-some : goal.returns-clause-some
returns-clause-some c =
    let seen : IsLookedAt c.args.rule c.args.hash c.args.stripes c.bits.result (2 * c.get-word_bits.result) c.ilog2-stripe_bits.result = record {
      hash_bits = c.bits.ensures.columns;
      word_bits = search rules;
      at_most = omega arith;
      low = c.ilog2-stripe_bits.ensures.power_le;
      high = c.ilog2-stripe_bits.ensures.next_power_gt;
    } in (
      λ _. is_setup _ _ _ _ _ _ seen
          (record { whole = c.if-bits-word_bits.false; power = c.if-stripes-stripe_bits.false; few = c.if-stripe_bits-word_bits.false }),
      λ _. refl,
    )

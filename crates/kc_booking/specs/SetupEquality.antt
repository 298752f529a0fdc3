-- The laws of the equality of setups. They are proofs; they are in specs/ because an `impl` can name only what is
-- there.
use Rattle.std.specs.Cmp.{IsEquivalence, IsPartialEquivalence, partial_equiv_from_equiv, nat_eq_equiv, on_equiv}
use Rattle.std.specs.Cmp.{and_equiv, bool_eq_equiv}
use Rattle.std.specs.Cmp.Lexicographic.{nat_list_eq_equiv, options_equiv}
use Rattle.kc_kmer.specs.Rule.{CountingRule}
use Rattle.kc_booking.specs.Setup.{StripeSetup}
use Rattle.kc_booking.specs.Listed.{counts_alike, is_same_setup}

counts_alike-IsEquivalence : IsEquivalence counts_alike
counts_alike-IsEquivalence =
    and_equiv (on_equiv (λ (r : CountingRule). r.k) nat_eq_equiv)
    (and_equiv (on_equiv (λ (r : CountingRule). r.both) bool_eq_equiv)
    (on_equiv (λ (r : CountingRule). r.floor) nat_eq_equiv))

pub is_same_setup-IsEquivalence : IsEquivalence is_same_setup
is_same_setup-IsEquivalence =
    and_equiv
    (and_equiv (on_equiv (λ (s : StripeSetup). s.rule) counts_alike-IsEquivalence)
    (and_equiv (on_equiv (λ (s : StripeSetup). s.hash) nat_list_eq_equiv)
    (on_equiv (λ (s : StripeSetup). s.stripe_bits) nat_eq_equiv)))
    (on_equiv (λ (s : StripeSetup). s.rule.only) (options_equiv nat_list_eq_equiv))

pub is_same_setup-laws : IsPartialEquivalence is_same_setup
is_same_setup-laws = partial_equiv_from_equiv is_same_setup-IsEquivalence

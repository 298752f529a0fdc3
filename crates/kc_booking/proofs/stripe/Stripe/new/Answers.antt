use Rattle.std.proofs.Common.{◌≡◌, ◌≤◌, ℕ, [], ap, arith, nat_eq, subst, sym}
use Rattle.std.specs.List.{list_any}
use Rattle.kc_word.specs.Shared.{values}
use Rattle.kc_booking.specs.Setup.{DividesWords, HasBits, StripeSetup, key_bits}
use Rattle.kc_booking.specs.Stripe.{IsKept}
use Rattle.kc_booking.proofs.CountedTables.{IsTold-empty}
use Rattle.kc_booking.proofs.HashValues.{divides}
use Rattle.kc_booking.proofs.Lawful.{IsLawful-none}
use Rattle.kc_booking.proofs.stripe.Stripe.new.Goals as goal

-- A key has at most 62 bits.
few_bits : {inside setup : StripeSetup} {bits : ℕ} → HasBits inside.rule.k inside.hash inside.stripe_bits → inside ≡ setup
    → bits ≡ key_bits setup → bits ≤ 62
few_bits {inside} has is same =
    let within : key_bits inside ≤ 62 = omega (arith, has.at_most) in
    subst (λ (n : ℕ). n ≤ 62) (sym same) (subst (λ (s : StripeSetup). key_bits s ≤ 62) is within)

pub invariant_of-counted : goal.invariant_of-counted
invariant_of-counted g c =
    let few = few_bits c.setup.invariant.0 c.setup.view_is c.requires.key_bits in
    IsTold-empty _ _ _ few c.requires.empty c.in_ok-at_least.ensures

pub invariant_of-result : goal.invariant_of-result
invariant_of-result g c =
    let hash = c.is_permutation.ensures in
    let nothing : values c.new-2.result.items ≡ [] = ap values c.new-2.ensures.items in
    let few = few_bits c.setup.invariant.0 c.setup.view_is c.requires.key_bits in
    let kept : IsKept c.args.setup.now c.args.number [] (g.C.Counts.bits c.args.table) (λ n. list_any (nat_eq n) c.new-3.result.keys) = record {
      own = c.requires.number;
      divided = subst DividesWords c.setup.view_is (divides _ c.setup.invariant.0 hash.stays_below hash.one_to_one hash.onto);
      bits_are = c.requires.key_bits;
      known_are = λ n. ap (list_any (nat_eq n)) c.new-3.ensures.empty;
    } in
    rw (nothing, c.in_ok-setup.ensures.cases)
    (IsLawful-none kept (IsTold-empty _ _ _ few c.requires.empty c.in_ok-at_least.ensures).counted c.requires.empty, kept)

-- From the tally of batches to the tally of reads, and what a count asks for.
use Rattle.std.proofs.Common.{◌≡◌, ◌<◌, ◌≤◌, ◌+◌, ◌-◌, ◌*◌, ◌%◌, ◌^◌, ℕ, zero, suc, Bool}
use Rattle.std.proofs.Common.{true, false, List, [], ◌∷◌, length, refl, ◌∙◌, ap, subst, arith, below_more}
use Rattle.std.specs.Prelude.{◌==◌, All, sum_by}
use Rattle.std.proofs.lemmas.Bool.{eqb-false, eqb-true}
use Rattle.std.proofs.lemmas.List.Elements.{All-cons, All-head, All-nil, All-tail}
use Rattle.std.proofs.Math.Nat.{div-le_of_le-mul}
use Rattle.kc_fastx.specs.Parsing.{most_bytes}
use Rattle.kc_hash.specs.Product.{IsNonsingular, identity}
use Rattle.kc_hash.specs.Seeds.{NoneIsNonsingular, turn_columns}
use Rattle.kc_hash.proofs.Generator.{length-seed_columns}
use Rattle.kc_hash.proofs.Linear.{length-identity}
use Rattle.kc_word.specs.Cutting.{batch_count, cutting, position_total}
use Rattle.kc_word.proofs.Cuttings.{cutting-positions, length-cutting, position_total-le}
use Rattle.kc_booking.specs.Stripe.{position_sum}

-- The batches of a cutting have no more positions than the pieces have letters.
pub small_cutting : (k size : ℕ) (pieces : List (List ℕ)) → 1 ≤ k → 1 ≤ size
    → position_sum k (cutting k size pieces) ≤ sum_by (λ piece. length piece) pieces
small_cutting k size pieces some room =
    rw (cutting-positions k size pieces some room) (position_total-le k pieces some)

grows : (more n : ℕ) → n ≤ (more + 1) * n
grows more n = omega arith

not_less : (size n : ℕ) → 1 ≤ size → n ≤ size * n
not_less size n room = let same : (size - 1) + 1 ≡ size = omega arith in subst (λ v. n ≤ v * n) same (grows (size - 1) n)

-- A cutting has at most one batch more than positions.
pub few_batches : (k size : ℕ) (pieces : List (List ℕ)) → 1 ≤ k → 1 ≤ size
    → length (cutting k size pieces) ≤ sum_by (λ piece. length piece) pieces + 1
few_batches k size pieces some room =
    let total = position_total k pieces in
    let within : total + size - 1 ≤ size * (total + 1) = omega (arith, not_less size total room) in
    let batches : batch_count k size pieces ≤ total + 1 = div-le_of_le-mul size within in
    omega (arith, length-cutting k size pieces, batches, position_total-le k pieces some)

-- Batches of so few letters are not too many, nor too large.
pub few_enough : (batches letters : ℕ) → batches ≤ letters + 1 → letters ≤ most_bytes → batches ≤ 2 ^ 40
few_enough batches letters few within = omega arith

pub small_enough : (positions letters : ℕ) → positions ≤ letters → letters ≤ most_bytes → positions ≤ 2 ^ 62
small_enough positions letters small within = omega arith

-- Facts about each element by two facts.
pub All-both : {X : Type 0} (P Q : X → Type 0) (xs : List X) → All P xs → All Q xs → All (λ x. P x × Q x) xs
All-both P Q [] p q = All-nil (λ x. P x × Q x)
All-both P Q (x ∷ xs) p q = All-cons (λ x. P x × Q x) x xs (All-head P x xs p, All-head Q x xs q) (All-both P Q xs (All-tail P x xs p) (All-tail Q x xs q))

-- A seeded hash has as many bits as are asked for.
module _ (bits seed : ℕ) (hash : List ℕ)
    (first : (turn : ℕ) → turn < 64 → NoneIsNonsingular bits seed turn → IsNonsingular (turn_columns bits seed turn) → hash ≡ turn_columns bits seed turn)
    (none : NoneIsNonsingular bits seed 64 → hash ≡ identity bits) where
  none_before : (length hash ≡ bits → ⊥) → (turns : ℕ) → turns ≤ 64 → NoneIsNonsingular bits seed turns
  none_before other zero within turn below = absurd (omega arith)
  none_before other (suc turns) within turn below =
      below_more (λ turn. IsNonsingular (turn_columns bits seed turn) → ⊥) turns (none_before other turns (omega arith))
      (λ nonsingular. other (ap length (first turns (omega arith) (none_before other turns (omega arith)) nonsingular) ∙ length-seed_columns bits ((seed + turns) % 2 ^ 64)))
      turn (omega arith)

  pub seeded_bits : length hash ≡ bits
  seeded_bits = decided (length hash == bits) refl where
    decided : (same : Bool) → (length hash == bits) ≡ same → length hash ≡ bits
    decided true e = eqb-true (length hash) bits e
    decided false e =
        let other = eqb-false (length hash) bits e in
        absurd (other (ap length (none (none_before other 64 (omega arith))) ∙ length-identity bits))

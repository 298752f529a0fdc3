-- How often the word of a stripe occurs that occurs most, by the greatest count of its table.
use Rattle.std.proofs.Common.{◌≡◌, ◌≢◌, ◌∙◌, ℕ, ◌<◌, ◌≤◌, ◌^◌, ◌⊎◌, inl, inr, Bool, List, Contains, unwrap_or, Some, None, Option}
use Rattle.std.proofs.Common.{refl, sym, ap, subst, arith, ⊎_elim}
use Rattle.std.specs.FinMap.{get}
use Rattle.std.specs.List.{range_with_len}
use Rattle.std.proofs.lemmas.Bool.{cases_eq}
use Rattle.std.proofs.lemmas.List.Elements.{All-map, All-contains}
use Rattle.std.proofs.lemmas.List.FromFn.{get_or-range_with_len, length-range_with_len}
use Rattle.kc_lemmas.proofs.Greatest.{max-most, max-reached, max-same}
use Rattle.kc_lemmas.proofs.Lists.{Contains-map}
use Rattle.kc_word.specs.Cutting.{NumberedPieces}
use Rattle.kc_table.specs.Counts.{KeyCounts, IsGreatestCount, IsStored, IsWithin, count_at}
use Rattle.kc_table.proofs.KeyCounts.{stored_by_some}
use Rattle.kc_tally.specs.Statistics.{greatest_of}
use Rattle.kc_booking.specs.Counted.{counts_of}
use Rattle.kc_booking.specs.Setup.{StripeSetup, key_bits}
use Rattle.kc_booking.specs.Stripe.{IsKept, IsLawful, stripe_occurrences}
use Rattle.kc_booking.proofs.Lawful.{occurrences-by_keys}

-- a key that was counted is stored
counted_stored : (counts : KeyCounts) (key : ℕ) (found : Option ℕ) → get counts key ≡ found → unwrap_or found 0 ≢ 0 → IsStored counts key
counted_stored counts key None is some = absurd (some refl)
counted_stored counts key (Some n) is some = stored_by_some counts key n is

-- the greatest count of a map of keys of so many bits is the greatest of all their counts
greatest_of_keys : (bits : ℕ) (counts : KeyCounts) (greatest : ℕ) → IsWithin bits counts → IsGreatestCount counts greatest
    → greatest ≡ greatest_of (counts_of bits counts)
greatest_of_keys bits counts greatest within is =
    let found = of_one (max-reached 0 (counts_of bits counts)) in
    let (key, reached) = is.reached in
    ⊎_elim
    (λ (none : greatest ≡ 0). omega (arith, none, found))
    (λ (some : greatest ≢ 0).
    let stored = counted_stored counts key (get counts key) refl (λ zero_. some (sym reached ∙ zero_)) in
    let stands = subst (Contains (counts_of bits counts)) reached
    (Contains-map (count_at counts) (range_with_len 0 (2 ^ bits)) key (among (2 ^ bits) key (within key stored))) in
    let least = max-most 0 (counts_of bits counts) greatest stands in
    omega (arith, least, found))
    (cases_eq greatest 0)
  where
    of_one : (greatest_of (counts_of bits counts) ≡ 0) ⊎ Contains (counts_of bits counts) (greatest_of (counts_of bits counts))
        → greatest_of (counts_of bits counts) ≤ greatest
    of_one (inl none) = omega (arith, none)
    of_one (inr there) =
        All-contains (λ count. count ≤ greatest) (counts_of bits counts) (greatest_of (counts_of bits counts))
        (All-map (λ count. count ≤ greatest) (count_at counts) (range_with_len 0 (2 ^ bits)) (λ k d _. is.most _)) there

    among : (n place : ℕ) → place < n → Contains (range_with_len 0 n) place
    among n place below =
        let long = length-range_with_len 0 n in
        let at = get_or-range_with_len 0 n place place below in
        (place, omega (arith, long, below), omega (arith, at))

-- the greatest count of a lawful stripe's table is how often the word occurs that occurs most
pub greatest_words : {setup : StripeSetup} {number : ℕ} {journal : List NumberedPieces} {bits : ℕ} {known : ℕ → Bool} {counts : KeyCounts} {bins : List ℕ} {total : ℕ}
    → (greatest : ℕ) → IsKept setup number journal bits known → IsLawful setup number journal counts bins total → IsWithin bits counts → IsGreatestCount counts greatest
    → greatest ≡ greatest_of (stripe_occurrences setup number journal)
greatest_words {setup} {number} {journal} {bits} {known} {counts} greatest kept lawful within is =
    greatest_of_keys bits counts greatest within is
    ∙ ap (λ b. greatest_of (counts_of b counts)) kept.bits_are
    ∙ max-same (counts_of (key_bits setup) counts) (stripe_occurrences setup number journal)
    (λ h none. occurrences-by_keys setup number journal counts kept.divided kept.own lawful.counts_are h)

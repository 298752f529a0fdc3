-- Setups with lists of words: when they are the same, and which of the words of a batch count.
use Rattle.std.proofs.Common.{◌≡◌, ◌≢◌, ℕ, true, not, List, filter, Option, Some, None, Decides, refl, ap, ap₂, sym, ◌∙◌, eqb-true, eq-eqb, true≢false}
use Rattle.std.proofs.lemmas.Bool.{and_parts, and_from}
use Rattle.std.proofs.lemmas.Slice.Eq.{bytes_eq-Decides}
use Rattle.std.specs.Cmp.{booleans_Decides}
use Rattle.kc_fastx.specs.Reads.{Read}
use Rattle.kc_kmer.specs.Rule.{CountingRule, is_listed, without_list}
use Rattle.kc_kmer.specs.Occurrences.{words_of}
use Rattle.kc_kmer.specs.Laws.{ListedWords}
use Rattle.kc_booking.specs.Setup.{StripeSetup}
use Rattle.kc_booking.specs.Listed.{are_same_words, is_same_setup}

-- ---- equal setups

are_same_words-Decides : (words others : Option (List ℕ)) → Decides (are_same_words words others) (words ≡ others)
are_same_words-Decides None None = (λ _. refl, λ _. refl)
are_same_words-Decides None (Some y) = (λ h. absurd (true≢false (sym h)), λ e. absurd (none e))
  where
    none : None ≡ Some y → ⊥
    none e = cc
are_same_words-Decides (Some x) None = (λ h. absurd (true≢false (sym h)), λ e. absurd (none e))
  where
    none : Some x ≡ None → ⊥
    none e = cc
are_same_words-Decides (Some x) (Some y) =
    let decides = bytes_eq-Decides x y in (
      λ h. ap Some (decides.0 h),
      λ e. decides.1 (words-of e),
    )
  where
    words-of : Some x ≡ Some y → x ≡ y
    words-of e = cc

pub is_same_setup-Decides : (setup other : StripeSetup) → Decides (is_same_setup setup other) (setup ≡ other)
is_same_setup-Decides setup other = (same, alike)
  where
    same : is_same_setup setup other ≡ true → setup ≡ other
    same h =
        let parts = and_parts _ _ h in
        let left = and_parts _ _ parts.0 in
        let rule = and_parts _ _ left.0 in
        let strands = and_parts _ _ rule.1 in
        let rest = and_parts _ _ left.1 in
        let k : setup.rule.k ≡ other.rule.k = eqb-true setup.rule.k other.rule.k rule.0 in
        let both : setup.rule.both ≡ other.rule.both = (booleans_Decides setup.rule.both other.rule.both).0 strands.0 in
        let floor : setup.rule.floor ≡ other.rule.floor = eqb-true setup.rule.floor other.rule.floor strands.1 in
        let hash : setup.hash ≡ other.hash = (bytes_eq-Decides setup.hash other.hash).0 rest.0 in
        let bits : setup.stripe_bits ≡ other.stripe_bits = eqb-true setup.stripe_bits other.stripe_bits rest.1 in
        let only : setup.rule.only ≡ other.rule.only = (are_same_words-Decides setup.rule.only other.rule.only).0 parts.1 in
        λ i. record { rule = record { k = k i; both = both i; floor = floor i; only = only i }; hash = hash i; stripe_bits = bits i }

    itself : is_same_setup setup setup ≡ true
    itself =
        and_from _ _
        (and_from _ _
        (and_from _ _ (eq-eqb setup.rule.k setup.rule.k refl)
        (and_from _ _ ((booleans_Decides setup.rule.both setup.rule.both).1 refl) (eq-eqb setup.rule.floor setup.rule.floor refl)))
        (and_from _ _ ((bytes_eq-Decides setup.hash setup.hash).1 refl) (eq-eqb setup.stripe_bits setup.stripe_bits refl)))
        ((are_same_words-Decides setup.rule.only setup.rule.only).1 refl)

    alike : setup ≡ other → is_same_setup setup other ≡ true
    alike e = ap (is_same_setup setup) (sym e) ∙ itself

pub is_same_setup-same : (setup other : StripeSetup) → setup ≡ other → is_same_setup setup other ≡ true
is_same_setup-same setup other same = (is_same_setup-Decides setup other).1 same

-- setups that are found to differ
pub other_setup : (setup other : StripeSetup) → true ≡ not (is_same_setup setup other) → setup ≢ other
other_setup setup other differ same = true≢false (differ ∙ ap not (is_same_setup-same setup other same))

-- ---- the words that count

-- if no list is given, all words do
pub all-count : (rule : CountingRule) (reads : List Read) (words : List ℕ) → rule.only ≡ None → words ≡ words_of (without_list rule) reads
    → words ≡ words_of rule reads
all-count rule reads words none is =
    is ∙ (λ i. words_of (record { k = rule.k; both = rule.both; floor = rule.floor; only = sym none i }) reads)

-- if one is given, the listed words do
pub listed-count : (rule : CountingRule) (reads : List Read) (words kept list : List ℕ) → ListedWords → rule.only ≡ Some list
    → words ≡ words_of (without_list rule) reads → kept ≡ filter (is_listed (Some list)) words → kept ≡ words_of rule reads
listed-count rule reads words kept list law only is filtered =
    filtered ∙ ap₂ (λ o ws. filter (is_listed o) ws) (sym only) is ∙ sym (law rule reads)

-- The rows of a table turned into the rows of a stripe: words in place of keys.
use Rattle.std.proofs.Common.{◌≡◌, ◌≢◌, ℕ, ◌+◌, ◌*◌, ◌<◌, ◌≤◌, ◌^◌, ◌⊎◌, inl, inr, true, false, cond, eqb, nat_eq, List, [], ◌∷◌, ◌++◌, length, get_or, take, drop, map, count_by, All, Contains, Some, unwrap_or, refl, ap, sym, ◌∙◌, subst, arith, ⊎_elim}
use Rattle.std.specs.List.{AllByRecursion, IsDistinct}
use Rattle.std.specs.FinMap.{get}
use Rattle.std.proofs.lemmas.Bool.{eq-eqb, ne_eqb, cases_eq}
use Rattle.std.proofs.lemmas.List.{append-nil, drop_all, take_all}
use Rattle.std.proofs.lemmas.List.Elements.{All-map, All-head, All-tail}
use Rattle.std.proofs.lemmas.Map.Keys.{IsDistinct-cons, IsDistinct-head, IsDistinct-tail}
use Rattle.kc_lemmas.proofs.Lists.{Contains-cons_cases}
use Rattle.kc_lemmas.proofs.Sums.{sum_by-map}
use Rattle.kc_hash.specs.Product.{product, AreInverse}
use Rattle.kc_word.specs.Cutting.{NumberedPieces}
use Rattle.kc_table.specs.Counts.{KeyCounts, count_at, AreRowsOf}
use Rattle.kc_tally.specs.declared.row.Row.{Row}
use Rattle.kc_tally.specs.Tally.{count_of}
use Rattle.kc_tally.specs.Histogram.{last_bin, bin_of, bin_at, bin_size, bins_of}
use Rattle.kc_tally.proofs.Bins.{bin_at-bins_of}
use Rattle.kc_booking.specs.Setup.{StripeSetup, HasBits, word_count, stripe_count, key_bits, stripe_of, key_of, stripe_words, StandsAt, DividesWords}
use Rattle.kc_booking.specs.Stripe.{word_occurrences, stripe_occurrences, row_of_pair, AreStripeRows}
use Rattle.kc_booking.proofs.HashValues.{StandsAt-undone}
use Rattle.kc_booking.proofs.Lawful.{CountsWords}

-- the word of a key by the inverse of the hash, an entry with the word in place of the key, and its row
abbrev pub word_under : StripeSetup → List ℕ → ℕ → ℕ → ℕ
word_under setup inverse number key = product inverse (key * stripe_count setup + number)

abbrev pub with_word : StripeSetup → List ℕ → ℕ → ℕ × ℕ → ℕ × ℕ
with_word setup inverse number entry = (word_under setup inverse number entry.0, entry.1)

abbrev pub row_of : StripeSetup → List ℕ → ℕ → ℕ × ℕ → Row
row_of setup inverse number entry = row_of_pair (with_word setup inverse number entry)

-- after the last element of a loop that maps in place, all are mapped
pub all-mapped : {X : Type 0} (f : X → X) (xs ys : List X) (i : ℕ) → length xs ≤ i → ys ≡ map f (take i xs) ++ drop i xs → ys ≡ map f xs
all-mapped f xs ys i end so_far = so_far ∙ rw (take_all i xs end, drop_all i xs end) (append-nil (map f xs))

-- words differ if their keys do
words_differ : (key : ℕ → ℕ) (word : ℕ → ℕ) (entries : List (ℕ × ℕ)) → All (λ e. key (word e.0) ≡ e.0) entries → IsDistinct nat_eq (map (λ e. e.0) entries)
    → IsDistinct nat_eq (map (λ e. word e.0) entries)
unfolding IsDistinct
words_differ key word [] back distinct = tt
words_differ key word (e ∷ entries) back distinct =
    IsDistinct-cons nat_eq (word e.0) (map (λ f. word f.0) entries)
    (others entries (All-tail (λ f. key (word f.0) ≡ f.0) e entries back) (IsDistinct-head nat_eq e.0 (map (λ f. f.0) entries) distinct))
    (words_differ key word entries (All-tail (λ f. key (word f.0) ≡ f.0) e entries back) (IsDistinct-tail nat_eq e.0 (map (λ f. f.0) entries) distinct))
  where
    here : key (word e.0) ≡ e.0
    here = All-head (λ f. key (word f.0) ≡ f.0) e entries back

    apart : (k : ℕ) → key (word k) ≡ k → nat_eq e.0 k ≡ false → nat_eq (word e.0) (word k) ≡ false
    apart k under other = ne_eqb (word e.0) (word k) (λ same.
        let never : true ≡ false = sym (eq-eqb e.0 k (sym here ∙ ap key same ∙ under)) ∙ other in absurd (cc))

    others : (fs : List (ℕ × ℕ)) → All (λ f. key (word f.0) ≡ f.0) fs → AllByRecursion (λ y. nat_eq e.0 y ≡ false) (map (λ f. f.0) fs)
        → AllByRecursion (λ y. nat_eq (word e.0) y ≡ false) (map (λ f. word f.0) fs)
    others [] under all = tt
    others (f ∷ fs) under all =
        (apart f.0 (All-head (λ x. key (word x.0) ≡ x.0) f fs under) all.0, others fs (All-tail (λ x. key (word x.0) ≡ x.0) f fs under) all.1)

-- what a table's rows determine of its entries, and of the word under each key
pub record AreTurned (setup : StripeSetup) (inverse : List ℕ) (number : ℕ) (counts : KeyCounts) (entries : List (ℕ × ℕ)) : Type 0 where
  pub stands : All (λ e. StandsAt setup number e.0 (word_under setup inverse number e.0)) entries
  pub told : All (λ e. (get counts e.0 ≡ Some e.1) × (1 ≤ e.1)) entries

turned-tail : (setup : StripeSetup) (inverse : List ℕ) (number : ℕ) (counts : KeyCounts) (e : ℕ × ℕ) (entries : List (ℕ × ℕ)) → AreTurned setup inverse number counts (e ∷ entries)
    → AreTurned setup inverse number counts entries
turned-tail setup inverse number counts e entries turned = record {
  stands = All-tail (λ f. StandsAt setup number f.0 (word_under setup inverse number f.0)) e entries turned.stands;
  told = All-tail (λ f. (get counts f.0 ≡ Some f.1) × (1 ≤ f.1)) e entries turned.told;
}

-- a word that is looked for among them, and its key
record SoughtWord (setup : StripeSetup) (number : ℕ) : Type 0 where
  pub word : ℕ
  pub key : ℕ
  pub divided : DividesWords setup
  pub at : StandsAt setup number key word

-- a word's row has the count under its key, or there is none and no entry has its key
count_told : (setup : StripeSetup) (inverse : List ℕ) (number : ℕ) (sought : SoughtWord setup number) (counts : KeyCounts) (entries : List (ℕ × ℕ))
    → AreTurned setup inverse number counts entries
    → (count_of (map (row_of setup inverse number) entries) sought.word ≡ count_at counts sought.key)
    ⊎ ((count_of (map (row_of setup inverse number) entries) sought.word ≡ 0) × ((n : ℕ) → ¬ Contains entries (sought.key, n)))
count_told setup inverse number sought counts [] turned = inr (refl, λ n stands. absurd (let some = stands.1 in omega arith))
count_told setup inverse number sought counts (e ∷ entries) turned =
    ⊎_elim
    (λ (same : word_under setup inverse number e.0 ≡ sought.word).
    let under : e.0 ≡ sought.key = sym here.has_key ∙ ap (key_of setup) same ∙ sought.at.has_key in
    inl (ap (λ b. cond b e.1 rest) (eq-eqb (word_under setup inverse number e.0) sought.word same)
    ∙ sym (ap (count_at counts) (sym under) ∙ ap (λ o. unwrap_or o 0) told.0)))
    (λ (apart : word_under setup inverse number e.0 ≢ sought.word).
    let other : e.0 ≢ sought.key = λ under. apart (sought.divided.only number sought.key (word_under setup inverse number e.0) sought.word
    (subst (λ k. StandsAt setup number k (word_under setup inverse number e.0)) under here) sought.at) in
    let skipped : count_of (map (row_of setup inverse number) (e ∷ entries)) sought.word ≡ rest = ap (λ b. cond b e.1 rest) (ne_eqb (word_under setup inverse number e.0) sought.word apart) in
    ⊎_elim
    (λ (found : rest ≡ count_at counts sought.key). inl (skipped ∙ found))
    (λ (missing : (rest ≡ 0) × ((n : ℕ) → ¬ Contains entries (sought.key, n))). inr (
      skipped ∙ missing.0,
      λ n stands.
          ⊎_elim (λ (first : e ≡ (sought.key, n)). other (ap (λ p. p.0) first)) (λ (later : Contains entries (sought.key, n)). missing.1 n later) (Contains-cons_cases entries (sought.key, n) e stands),
    ))
    (count_told setup inverse number sought counts entries (turned-tail setup inverse number counts e entries turned)))
    (cases_eq (word_under setup inverse number e.0) sought.word)
  where
    rest : ℕ
    rest = count_of (map (row_of setup inverse number) entries) sought.word

    here : StandsAt setup number e.0 (word_under setup inverse number e.0)
    here = All-head (λ f. StandsAt setup number f.0 (word_under setup inverse number f.0)) e entries turned.stands

    told : (get counts e.0 ≡ Some e.1) × (1 ≤ e.1)
    told = All-head (λ f. (get counts f.0 ≡ Some f.1) × (1 ≤ f.1)) e entries turned.told

-- what is known of the stripe if its rows are asked for
pub record TellsRows (setup : StripeSetup) (number : ℕ) (journal : List NumberedPieces) (counts : KeyCounts) (entries : List (ℕ × ℕ)) : Type 0 where
  pub bits : HasBits setup.rule.k setup.hash setup.stripe_bits
  pub divided : DividesWords setup
  pub own : number < stripe_count setup
  pub counted : CountsWords setup number journal counts
  pub rows : AreRowsOf counts entries
  pub below : All (λ e. e.0 < 2 ^ key_bits setup) entries

pub AreStripeRows-turned : (setup : StripeSetup) (inverse : List ℕ) (number : ℕ) (journal : List NumberedPieces) (counts : KeyCounts) (entries : List (ℕ × ℕ)) → AreInverse setup.hash inverse
    → TellsRows setup number journal counts entries → AreStripeRows setup number journal (map (row_of setup inverse number) entries)
AreStripeRows-turned setup inverse number journal counts entries inverts tells =
    let word : ℕ → ℕ = word_under setup inverse number in
    let stands : All (λ e. StandsAt setup number e.0 (word e.0)) entries =
    (λ i d within. StandsAt-undone setup inverse number (get_or entries i d).0 tells.bits inverts tells.own (tells.below i d within)) in
    let turned : AreTurned setup inverse number counts entries = record { stands = stands; told = tells.rows.told } in
    record {
      once = subst (IsDistinct nat_eq) (words entries)
          (words_differ (key_of setup) word entries (λ i d within. (stands i d within).has_key) tells.rows.once);
      words = All-map (λ (row : Row). (row.word < word_count setup) × (stripe_of setup row.word ≡ number)) (row_of setup inverse number) entries
          (λ i d within. ((stands i d within).is_word, (stands i d within).has_stripe));
      present = All-map (λ (row : Row). 1 ≤ row.count) (row_of setup inverse number) entries (λ i d within. (tells.rows.told i d within).1);
      counts_are = λ w below in_stripe.
          let at : StandsAt setup number (key_of setup w) w = record { is_word = below; has_stripe = in_stripe; has_key = refl } in
          by w (key_of setup w) (count_told setup inverse number (record { word = w; key = key_of setup w; divided = tells.divided; at = at }) counts entries turned) ∙ tells.counted w below in_stripe;
    }
  where
    words : (es : List (ℕ × ℕ)) → map (λ e. word_under setup inverse number e.0) es ≡ map (λ (row : Row). row.word) (map (row_of setup inverse number) es)
    words [] = refl
    words (e ∷ es) = ap (λ ws. word_under setup inverse number e.0 ∷ ws) (words es)

    by : (w key : ℕ) → (count_of (map (row_of setup inverse number) entries) w ≡ count_at counts key)
        ⊎ ((count_of (map (row_of setup inverse number) entries) w ≡ 0) × ((n : ℕ) → ¬ Contains entries (key, n)))
        → count_of (map (row_of setup inverse number) entries) w ≡ count_at counts key
    by w key (inl found) = found
    by w key (inr missing) =
        ⊎_elim (λ (none : count_at counts key ≡ 0). missing.0 ∙ sym none)
        (λ (some : count_at counts key ≢ 0). absurd (missing.1 (count_at counts key) (tells.rows.complete key (omega arith))))
        (cases_eq (count_at counts key) 0)

-- ---- a bin

pub bin_words : (setup : StripeSetup) (number : ℕ) (journal : List NumberedPieces) (bins : List ℕ) (bin : ℕ) → bins ≡ bins_of (stripe_occurrences setup number journal)
    → 1 ≤ bin → bin ≤ last_bin → bin_at bins bin ≡ count_by (λ word. eqb (bin_of (word_occurrences setup journal word)) bin) (stripe_words setup number)
unfolding bin_size
bin_words setup number journal bins bin is some within =
    ap (λ b. bin_at b bin) is ∙ bin_at-bins_of (stripe_occurrences setup number journal) bin some within
    ∙ sum_by-map (λ c. cond (eqb (bin_of c) bin) 1 0) (word_occurrences setup journal) (stripe_words setup number)

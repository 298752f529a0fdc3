-- A lawful stripe: when nothing was booked, and when one more batch is booked.
use Rattle.std.proofs.Common.{◌≡◌, ◌≢◌, ℕ, ◌+◌, ◌<◌, ◌^◌, Bool, true, false, cond, ◌||◌, eqb, nat_eq, List, [], ◌∷◌, ◌++◌, get_or, filter, sum, sum_by, count_by, All, append-nil, refl, ap, sym, subst, ◌∙◌, arith, ⊎_elim}
use Rattle.std.specs.Bool.{MatchBool}
use Rattle.std.specs.List.{range_with_len, list_any, IsDistinct}
use Rattle.std.proofs.lemmas.Bool.{eqb-true, eq-eqb, ne_eqb, cases_eq}
use Rattle.std.proofs.lemmas.Bool.Decides.{eqb_tells}
use Rattle.std.proofs.lemmas.List.{map_push}
use Rattle.std.proofs.lemmas.List.Concat.{flat_map-append}
use Rattle.std.proofs.lemmas.List.Elements.{All-filter, filter_passes, All-map}
use Rattle.std.proofs.lemmas.List.Folds.{list_any-append}
use Rattle.std.proofs.lemmas.Map.Views.{Contains-from_any, list_any-from_Contains}
use Rattle.std.specs.Cmp.{nat_eq_equiv}
use Rattle.std.specs.FinMap.{empty}
use Rattle.kc_lemmas.proofs.Distinct.{IsDistinct-push_new}
use Rattle.kc_lemmas.proofs.Lists.{All-range}
use Rattle.kc_lemmas.proofs.Sums.{sum_by-map, sum_by-same, sum_by-filter, sum_by-parts, sum_by-one_place}
use Rattle.kc_lemmas.proofs.Permutations.{WeighTheSame}
use Rattle.kc_kmer.specs.Word.{text}
use Rattle.kc_kmer.specs.Occurrences.{occurrences, words_of}
use Rattle.kc_word.specs.Cutting.{NumberedPieces, as_reads}
use Rattle.kc_kmer.specs.Laws.{CountedWords, JoinedOccurrences, WordsAreBelow}
use Rattle.kc_table.specs.Counts.{KeyCounts, count_at}
use Rattle.kc_table.proofs.KeyCounts.{count_at-empty}
use Rattle.kc_tally.specs.Histogram.{bins_of}
use Rattle.kc_tally.proofs.Bins.{bins_of-permuted}
use Rattle.kc_booking.specs.Setup.{StripeSetup, word_count, stripe_count, key_bits, stripe_of, key_of, stripe_words, StandsAt, DividesWords}
use Rattle.kc_table.specs.declared.table_fault.TableFault.{TableFault}
use Rattle.kc_table.specs.declared.table_fault.TableFault.TheVariants as table
use Rattle.kc_booking.specs.declared.booking_fault.BookFault.TheVariants as book
use Rattle.kc_booking.specs.Faults.{booking_fault}
use Rattle.kc_booking.specs.Cut.{keys_of, keys_among, cut_at}
use Rattle.kc_booking.specs.Counted.{counts_of, IsCounted}
use Rattle.kc_booking.specs.Stripe.{numbers_of, reads_in, word_occurrences, stripe_occurrences, IsLawful, IsBooked, IsKept}

-- ---- the words of a stripe and their keys

-- the word that is found under a key is the only one
record IsOnlyWord (setup : StripeSetup) (number key found : ℕ) : Type 0 where
  pub divided : DividesWords setup
  pub at : StandsAt setup number key found

-- a word below 4 ^ k has the stripe and the key exactly if it is the one that has
same_word : (setup : StripeSetup) (number key found word weight : ℕ) → IsOnlyWord setup number key found → word < word_count setup
    → cond (eqb (stripe_of setup word) number) (cond (eqb (key_of setup word) key) weight 0) 0 ≡ cond (eqb found word) weight 0
same_word setup number key found word weight one below =
    ⊎_elim
    (λ (here : found ≡ word).
    ap (λ b. cond b (cond (eqb (key_of setup word) key) weight 0) 0) (eq-eqb (stripe_of setup word) number (ap (stripe_of setup) (sym here) ∙ one.at.has_stripe))
    ∙ ap (λ b. cond b weight 0) (eq-eqb (key_of setup word) key (ap (key_of setup) (sym here) ∙ one.at.has_key))
    ∙ sym (ap (λ b. cond b weight 0) (eq-eqb found word here)))
    (λ (apart : found ≢ word).
    ⊎_elim
    (λ (in_stripe : stripe_of setup word ≡ number).
    ap (λ b. cond b (cond (eqb (key_of setup word) key) weight 0) 0) (eq-eqb (stripe_of setup word) number in_stripe)
    ∙ ap (λ b. cond b weight 0) (ne_eqb (key_of setup word) key (λ under. apart (one.divided.only number key found word one.at (record { is_word = below; has_stripe = in_stripe; has_key = under }))))
    ∙ sym (ap (λ b. cond b weight 0) (ne_eqb found word apart)))
    (λ (other : stripe_of setup word ≢ number).
    ap (λ b. cond b (cond (eqb (key_of setup word) key) weight 0) 0) (ne_eqb (stripe_of setup word) number other)
    ∙ sym (ap (λ b. cond b weight 0) (ne_eqb found word apart)))
    (cases_eq (stripe_of setup word) number))
    (cases_eq found word)

-- of the words of a stripe, one has the key
one_word : (setup : StripeSetup) (number key : ℕ) (h : ℕ → ℕ) → DividesWords setup → number < stripe_count setup → key < 2 ^ key_bits setup
    → sum_by (λ word. h (key_of setup word)) (filter (λ word. eqb (key_of setup word) key) (stripe_words setup number)) ≡ h key
one_word setup number key h divided own below =
    let (found, at) = divided.found number key own below in
    sum_by-filter (λ word. h (key_of setup word)) (λ word. eqb (key_of setup word) key) (stripe_words setup number)
    ∙ sum_by-same (λ word. cond (eqb (key_of setup word) key) (h (key_of setup word)) 0) (λ word. cond (eqb (key_of setup word) key) (h key) 0) (stripe_words setup number)
    (λ i d within. weighs (get_or (stripe_words setup number) i d))
    ∙ sum_by-filter (λ word. cond (eqb (key_of setup word) key) (h key) 0) (λ word. eqb (stripe_of setup word) number) (range_with_len 0 (word_count setup))
    ∙ sum_by-same (λ word. cond (eqb (stripe_of setup word) number) (cond (eqb (key_of setup word) key) (h key) 0) 0) (λ word. cond (eqb found word) (h key) 0) (range_with_len 0 (word_count setup))
    (All-range (λ word. cond (eqb (stripe_of setup word) number) (cond (eqb (key_of setup word) key) (h key) 0) 0 ≡ cond (eqb found word) (h key) 0) 0 (word_count setup)
    (λ word _ small. same_word setup number key found word (h key) (record { divided = divided; at = at }) (omega arith)))
    ∙ sum_by-one_place (h key) found (word_count setup) at.is_word
  where
    weighs : (word : ℕ) → cond (eqb (key_of setup word) key) (h (key_of setup word)) 0 ≡ cond (eqb (key_of setup word) key) (h key) 0
    weighs word =
        ⊎_elim (λ (here : key_of setup word ≡ key). ap (λ k. cond (eqb (key_of setup word) key) (h k) 0) here)
        (λ (apart : key_of setup word ≢ key).
        ap (λ b. cond b (h (key_of setup word)) 0) (ne_eqb (key_of setup word) key apart) ∙ sym (ap (λ b. cond b (h key) 0) (ne_eqb (key_of setup word) key apart)))
        (cases_eq (key_of setup word) key)

All-stripe_words : (setup : StripeSetup) (number : ℕ) → All (λ word. word < word_count setup) (stripe_words setup number)
All-stripe_words setup number =
    All-filter (λ word. eqb (stripe_of setup word) number) (λ word. word < word_count setup) (range_with_len 0 (word_count setup))
    (All-range (λ word. word < word_count setup) 0 (word_count setup) (λ word _ small. omega arith))

-- summed over the words of a stripe or over all keys, what is weighed by keys is the same
weighed-by_keys : (setup : StripeSetup) (number : ℕ) (h : ℕ → ℕ) → DividesWords setup → number < stripe_count setup
    → sum_by (λ word. h (key_of setup word)) (stripe_words setup number) ≡ sum_by h (range_with_len 0 (2 ^ key_bits setup))
weighed-by_keys setup number h divided own =
    let words = stripe_words setup number in
    sym (sum_by-parts (λ word. h (key_of setup word)) (key_of setup) (2 ^ key_bits setup) words
    (λ i d within. divided.fits (get_or words i d) (All-stripe_words setup number i d within)))
    ∙ sum_by-same (λ key. sum_by (λ word. h (key_of setup word)) (filter (λ word. eqb (key_of setup word) key) words)) h (range_with_len 0 (2 ^ key_bits setup))
    (All-range (λ key. sum_by (λ word. h (key_of setup word)) (filter (λ word. eqb (key_of setup word) key) words) ≡ h key) 0 (2 ^ key_bits setup)
    (λ key _ small. one_word setup number key h divided own (omega arith)))

-- ---- lawful by what the table counts

-- the count under the key of each word of the stripe is the number of its occurrences
abbrev pub CountsWords : StripeSetup → ℕ → List NumberedPieces → KeyCounts → Type 0
CountsWords setup number journal counts =
    (word : ℕ) → word < word_count setup → stripe_of setup word ≡ number → count_at counts (key_of setup word) ≡ word_occurrences setup journal word

pub occurrences-by_keys : (setup : StripeSetup) (number : ℕ) (journal : List NumberedPieces) (counts : KeyCounts) → DividesWords setup → number < stripe_count setup
    → CountsWords setup number journal counts → WeighTheSame (counts_of (key_bits setup) counts) (stripe_occurrences setup number journal)
occurrences-by_keys setup number journal counts divided own is h =
    let words = stripe_words setup number in
    sum_by-map h (count_at counts) (range_with_len 0 (2 ^ key_bits setup))
    ∙ sym (weighed-by_keys setup number (λ key. h (count_at counts key)) divided own)
    ∙ sum_by-same (λ word. h (count_at counts (key_of setup word))) (λ word. h (word_occurrences setup journal word)) words
    (λ i d within. ap h (is (get_or words i d) (All-stripe_words setup number i d within)
    (eqb-true (stripe_of setup (get_or words i d)) number (filter_passes (λ word. eqb (stripe_of setup word) number) (range_with_len 0 (word_count setup)) i d within))))
    ∙ sym (sum_by-map h (word_occurrences setup journal) words)

-- what is counted under the keys, with the bins and the total of all keys, is a lawful stripe
pub IsLawful-from : {setup : StripeSetup} {number : ℕ} {journal : List NumberedPieces} {bits : ℕ} {known : ℕ → Bool} {counts : KeyCounts} {bins : List ℕ} {total : ℕ}
    → IsKept setup number journal bits known → IsCounted bits counts bins total → IsDistinct nat_eq (numbers_of journal)
    → CountsWords setup number journal counts → IsLawful setup number journal counts bins total
IsLawful-from {setup} {number} {journal} {bits} {known} {counts} {bins} {total} kept counted distinct counts_are =
    let same = occurrences-by_keys setup number journal counts kept.divided kept.own counts_are in
    record {
      numbers_differ = distinct;
      counts_are = counts_are;
      bins_are = counted.bins_are ∙ ap (λ b. bins_of (counts_of b counts)) kept.bits_are ∙ bins_of-permuted (counts_of (key_bits setup) counts) (stripe_occurrences setup number journal) same;
      total_is = counted.total_is ∙ ap (λ b. sum (counts_of b counts)) kept.bits_are ∙ same (λ c. c);
      total_at_most = counted.total_at_most;
    }

-- ---- nothing booked

CountsWords-none : (setup : StripeSetup) (number : ℕ) (counts : KeyCounts) → counts ≡ empty → CountsWords setup number [] counts
unfolding occurrences
CountsWords-none setup number counts none word below in_stripe = ap (λ (m : KeyCounts). count_at m (key_of setup word)) none ∙ count_at-empty (key_of setup word)

pub IsLawful-none : {setup : StripeSetup} {number : ℕ} {bits : ℕ} {known : ℕ → Bool} {counts : KeyCounts} {bins : List ℕ} {total : ℕ}
    → IsKept setup number [] bits known → IsCounted bits counts bins total → counts ≡ empty → IsLawful setup number [] counts bins total
unfolding IsDistinct
IsLawful-none {setup} {number} {bits} {known} {counts} kept counted none = IsLawful-from kept counted tt (CountsWords-none setup number counts none)

-- ---- one more batch

reads_in-push : (journal : List NumberedPieces) (batch : NumberedPieces) → reads_in (journal ++ batch ∷ []) ≡ reads_in journal ++ as_reads batch.pieces
reads_in-push journal batch =
    flat_map-append (λ (b : NumberedPieces). as_reads b.pieces) journal (batch ∷ []) ∙ ap (λ reads. reads_in journal ++ reads) (append-nil (as_reads batch.pieces))

-- a word of the stripe occurs among the words of a batch as often as its key among the keys of the cut
key_times : (setup : StripeSetup) (number word : ℕ) (words : List ℕ) → DividesWords setup → word < word_count setup → stripe_of setup word ≡ number
    → All (λ w. w < word_count setup) words → count_by (λ key. eqb key (key_of setup word)) (keys_among setup number words) ≡ count_by (λ w. eqb w word) words
key_times setup number word words divided below in_stripe small =
    sum_by-map (λ key. cond (eqb key (key_of setup word)) 1 0) (key_of setup) (filter (λ w. eqb (stripe_of setup w) number) words)
    ∙ sum_by-filter (λ w. cond (eqb (key_of setup w) (key_of setup word)) 1 0) (λ w. eqb (stripe_of setup w) number) words
    ∙ sum_by-same (λ w. cond (eqb (stripe_of setup w) number) (cond (eqb (key_of setup w) (key_of setup word)) 1 0) 0) (λ w. cond (eqb w word) 1 0) words
    (λ i d within.
    same_word setup number (key_of setup word) word (get_or words i d) 1
    (record { divided = divided; at = record { is_word = below; has_stripe = in_stripe; has_key = refl } }) (small i d within)
    ∙ ap (λ b. cond b 1 0) (flips word (get_or words i d)))
  where
    flips : (a b : ℕ) → eqb a b ≡ eqb b a
    flips a b =
        ⊎_elim (λ (e : a ≡ b). eq-eqb a b e ∙ sym (eq-eqb b a (sym e))) (λ (ne : a ≢ b). ne_eqb a b ne ∙ sym (ne_eqb b a (λ e. ne (sym e)))) (cases_eq a b)

-- what is known of the words of batches
pub record WordLaws : Type 0 where
  pub counted : CountedWords
  pub joined : JoinedOccurrences
  pub below : WordsAreBelow

-- with one more cut, the occurrences of a word of the stripe grow by those of its key among the cut's keys
pub occurrences-more : (setup : StripeSetup) (number word : ℕ) (journal : List NumberedPieces) (batch : NumberedPieces) → WordLaws → DividesWords setup
    → word < word_count setup → stripe_of setup word ≡ number
    → word_occurrences setup (journal ++ batch ∷ []) word
    ≡ word_occurrences setup journal word + count_by (λ key. eqb key (key_of setup word)) (keys_of (cut_at setup batch number))
occurrences-more setup number word journal batch laws divided below in_stripe =
    let more = as_reads batch.pieces in
    let times = key_times setup number word (words_of setup.rule more) divided below in_stripe (laws.below setup.rule more) in
    let occurs = laws.counted setup.rule more word below in
    let both = laws.joined setup.rule (reads_in journal) more (text setup.rule.k word) in
    let whole = ap (λ reads. occurrences setup.rule reads (text setup.rule.k word)) (reads_in-push journal batch) in
    omega arith

pub keys-fit : (setup : StripeSetup) (number bits : ℕ) (batch : NumberedPieces) → WordsAreBelow → DividesWords setup → bits ≡ key_bits setup
    → All (λ key. key < 2 ^ bits) (keys_of (cut_at setup batch number))
keys-fit setup number bits batch are_below divided is =
    let words = words_of setup.rule (as_reads batch.pieces) in
    All-map (λ key. key < 2 ^ bits) (key_of setup) (filter (λ word. eqb (stripe_of setup word) number) words)
    (All-filter (λ word. eqb (stripe_of setup word) number) (λ word. key_of setup word < 2 ^ bits) words
    (λ i d within. rw is (divided.fits (get_or words i d) (are_below setup.rule (as_reads batch.pieces) i d within))))

-- ---- the numbers in the journal

pub known-none : (keys : List ℕ) (n : ℕ) → keys ≡ [] → list_any (nat_eq n) keys ≡ list_any (nat_eq n) (numbers_of [])
known-none keys n none = ap (list_any (nat_eq n)) none

pub numbers_of-push : (journal : List NumberedPieces) (batch : NumberedPieces) → numbers_of (journal ++ batch ∷ []) ≡ numbers_of journal ++ batch.number ∷ []
numbers_of-push journal batch = map_push (λ (b : NumberedPieces). b.number) journal batch

-- one more number is known
pub known-more : (journal : List NumberedPieces) (batch : NumberedPieces) (old new : ℕ → Bool) → ((n : ℕ) → old n ≡ list_any (nat_eq n) (numbers_of journal))
    → ((n : ℕ) → new n ≡ cond (nat_eq batch.number n) true (old n)) → (n : ℕ) → new n ≡ list_any (nat_eq n) (numbers_of (journal ++ batch ∷ []))
known-more journal batch old new known updated n =
    updated n ∙ ap (cond (nat_eq batch.number n) true) (known n)
    ∙ ap (λ b. cond b true (list_any (nat_eq n) (numbers_of journal))) (flips batch.number n)
    ∙ by (nat_eq n batch.number) (list_any (nat_eq n) (numbers_of journal))
    ∙ sym (ap (list_any (nat_eq n)) (numbers_of-push journal batch) ∙ list_any-append (nat_eq n) (numbers_of journal) (batch.number ∷ []))
  where
    flips : (a b : ℕ) → nat_eq a b ≡ nat_eq b a
    flips a b =
        ⊎_elim (λ (e : a ≡ b). eq-eqb a b e ∙ sym (eq-eqb b a (sym e))) (λ (ne : a ≢ b). ne_eqb a b ne ∙ sym (ne_eqb b a (λ e. ne (sym e)))) (cases_eq a b)

    by : (b others : Bool) → cond b true others ≡ (others || (b || false))
    by true true = refl
    by true false = refl
    by false true = refl
    by false false = refl

pub numbers_differ-more : (journal : List NumberedPieces) (batch : NumberedPieces) → IsDistinct nat_eq (numbers_of journal) → ¬ IsBooked journal batch.number
    → IsDistinct nat_eq (numbers_of (journal ++ batch ∷ []))
numbers_differ-more journal batch distinct new =
    rw (numbers_of-push journal batch) (IsDistinct-push_new nat_eq eqb_tells (numbers_of journal) batch.number distinct new)

-- the result of the test of a batch's number
pub booked-told : (journal : List NumberedPieces) {n number : ℕ} (found : Bool) → found ≡ list_any (nat_eq n) (numbers_of journal)
    → n ≡ number → MatchBool found (IsBooked journal number) (¬ IsBooked journal number)
booked-told journal {n} true is same = subst (IsBooked journal) same (Contains-from_any eqb-true n (numbers_of journal) (sym is))
booked-told journal {n} {number} false is same = λ (booked : IsBooked journal number).
    let stands = subst (IsBooked journal) (sym same) booked in
    let never : false ≡ true = is ∙ list_any-from_Contains nat_eq_equiv n (numbers_of journal) stands in
    absurd (cc)

-- ---- a refusal

-- what a refusal of the table was
pub was_full : (why : TableFault) → booking_fault why ≡ book.Full → why ≡ table.Full
was_full table.Full is = refl
was_full table.Memory is = absurd (cc)

-- Rows that are dealt out among stripes, joined and sorted.
use Rattle.std.proofs.Common.{◌≡◌, ◌≢◌, ℕ, suc, ◌+◌, ◌<◌, ◌≤◌, ⊎_elim, Vec, Global, false, cond, eqb, nat_eq, List, [], ◌∷◌, ◌++◌, length, get_or, map, sum_by, All, Contains, refl, ap, sym, ◌∙◌, subst, arith}
use Rattle.std.specs.List.{IsDistinct, flat_map}
use Rattle.std.specs.List.Sorted.{IsPermutation}
use Rattle.std.proofs.lemmas.Bool.{cases_eq, eq-eqb, ne_eqb, cond-true, cond-false}
use Rattle.std.proofs.lemmas.Bool.Decides.{eqb_tells}
use Rattle.std.proofs.lemmas.Nat.{pow_pos}
use Rattle.std.proofs.Math.Nat.{mod-lt}
use Rattle.std.proofs.lemmas.List.{map-append, get_or_default}
use Rattle.std.proofs.lemmas.List.Elements.{All-head, All-tail, All-append, All-nil, All-map, All-from_recursion, recursion_from_All}
use Rattle.std.proofs.lemmas.List.Sums.{sum_by-cons, sum_by-append}
use Rattle.std.proofs.lemmas.List.Sorted.{All-permutation, sum_by-IsPermutation, IsPermutation-map, IsPermutation-trans, IsPermutation-append_comm, IsPermutation-append_left}
use Rattle.std.proofs.lemmas.Map.Keys.{IsDistinct-tail, IsDistinct-head, IsDistinct-cons, IsDistinct-IsPermutation}
use Rattle.kc_lemmas.proofs.Distinct.{head_apart, equal_flips}
use Rattle.kc_lemmas.proofs.Lists.{Contains-map}
use Rattle.kc_lemmas.proofs.Sums.{sum_by-zeros, sum_by-flat_map}
use Rattle.kc_kmer.specs.Word.{text}
use Rattle.kc_kmer.specs.Occurrences.{occurrences_in, occurrences}
use Rattle.kc_word.specs.Cutting.{NumberedPieces, as_reads}
use Rattle.kc_tally.specs.declared.row.Row.{Row}
use Rattle.kc_tally.specs.Tally.{count_of}
use Rattle.kc_booking.specs.Setup.{StripeSetup, word_count, stripe_count, stripe_of}
use Rattle.kc_booking.specs.Stripe.{StripeState, numbers_of, word_occurrences, AreStripeRows}
use Rattle.kc_tally.specs.Packing.{LooseSeen}
use Rattle.kc_gather.specs.Parts.{ArePartsOf, part_rows}
use Rattle.kc_gather.specs.Gathering.{IsWhole, AreRowsFrom, HasRowsOf}
use Rattle.kc_gather.proofs.Journals.{weighs_whole}

abbrev pub words_in_rows : List Row → List ℕ
words_in_rows rows = map (λ row. row.word) rows

-- ---- counts as sums

-- what the row counts under the word
abbrev pub weight_of : ℕ → Row → ℕ
weight_of word row = cond (eqb row.word word) row.count 0

-- if no row has the word, none counts under it
no_weight : (word : ℕ) (rows : List Row) → All (λ row. row.word ≢ word) rows → sum_by (weight_of word) rows ≡ 0
no_weight word rows apart =
    sum_by-zeros (weight_of word) rows (λ k d within. ap (λ b. cond b (get_or rows k d).count 0) (ne_eqb (get_or rows k d).word word (apart k d within)))

-- of rows of different words
pub count_of-sum : (rows : List Row) (word : ℕ) → IsDistinct nat_eq (words_in_rows rows) → count_of rows word ≡ sum_by (weight_of word) rows
count_of-sum [] word distinct = refl
count_of-sum (row ∷ rows) word distinct =
    let split = sum_by-cons (weight_of word) row rows in
    ⊎_elim
    (λ (same : row.word ≡ word).
    let none = no_weight word rows (λ k d within other.
    head_apart nat_eq eqb_tells row.word (words_in_rows rows) distinct
    (subst (Contains (words_in_rows rows)) (other ∙ sym same) (Contains-map (λ (r : Row). r.word) rows (get_or rows k d) (k, within, get_or_default_itself rows k d within)))) in
    let here : count_of (row ∷ rows) word ≡ row.count = cond-true (eqb row.word word) row.count (count_of rows word) (eq-eqb row.word word same) in
    let weight : weight_of word row ≡ row.count = cond-true (eqb row.word word) row.count 0 (eq-eqb row.word word same) in
    omega (arith, split, none, here, weight))
    (λ (other : row.word ≢ word).
    let rest = count_of-sum rows word (IsDistinct-tail nat_eq row.word (words_in_rows rows) distinct) in
    let here : count_of (row ∷ rows) word ≡ count_of rows word = cond-false (eqb row.word word) row.count (count_of rows word) (ne_eqb row.word word other) in
    let weight : weight_of word row ≡ 0 = cond-false (eqb row.word word) row.count 0 (ne_eqb row.word word other) in
    omega (arith, split, rest, here, weight))
    (cases_eq row.word word)
  where
    get_or_default_itself : (xs : List Row) (k : ℕ) (d : Row) → k < length xs → get_or xs k (get_or xs k d) ≡ get_or xs k d
    get_or_default_itself xs k d within = get_or_default xs k (get_or xs k d) d within

-- numbers that differ, and that are none of other ones
IsDistinct-append : (xs ys : List ℕ) → IsDistinct nat_eq xs → IsDistinct nat_eq ys → All (λ x. All (λ y. x ≢ y) ys) xs → IsDistinct nat_eq (xs ++ ys)
IsDistinct-append [] ys first second apart = second
IsDistinct-append (x ∷ xs) ys first second apart =
    let others = All-from_recursion (λ z. nat_eq x z ≡ false) xs (IsDistinct-head nat_eq x xs first) in
    let strange : All (λ z. nat_eq x z ≡ false) ys = λ k d within. ne_eqb x (get_or ys k d) (All-head (λ z. All (λ y. z ≢ y) ys) x xs apart k d within) in
    IsDistinct-cons nat_eq x (xs ++ ys) (recursion_from_All (λ z. nat_eq x z ≡ false) (xs ++ ys) (All-append (λ z. nat_eq x z ≡ false) xs ys others strange))
    (IsDistinct-append xs ys (IsDistinct-tail nat_eq x xs first) second (All-tail (λ z. All (λ y. z ≢ y) ys) x xs apart))

-- ---- stripes from the last one on

pub distinct-permuted : (rows others : List Row) → IsPermutation rows others → IsDistinct nat_eq (words_in_rows rows) → IsDistinct nat_eq (words_in_rows others)
distinct-permuted rows others same distinct =
    IsDistinct-IsPermutation nat_eq (equal_flips nat_eq eqb_tells) (words_in_rows rows) (words_in_rows others) (IsPermutation-map (λ (row : Row). row.word) rows others same) distinct

-- their order is none of it
pub AreRowsFrom-permuted : (setup : StripeSetup) (batches : List NumberedPieces) (n : ℕ) (rows others : List Row) → IsPermutation rows others
    → AreRowsFrom setup batches n rows → AreRowsFrom setup batches n others
AreRowsFrom-permuted setup batches n rows others same from = record {
  once = distinct-permuted rows others same from.once;
  words = All-permutation (λ (row : Row). (row.word < word_count setup) × (n ≤ stripe_of setup row.word)) rows others same from.words;
  present = All-permutation (λ (row : Row). 1 ≤ row.count) rows others same from.present;
  counts_are = λ word below past.
      count_of-sum others word (distinct-permuted rows others same from.once) ∙ sum_by-IsPermutation (weight_of word) rows others same
      ∙ sym (count_of-sum rows word from.once) ∙ from.counts_are word below past;
}

pub AreRowsFrom-none : (setup : StripeSetup) (batches : List NumberedPieces) (n : ℕ) → n ≡ stripe_count setup → AreRowsFrom setup batches n []
unfolding IsDistinct
AreRowsFrom-none setup batches n all = record {
  once = distinct_none;
  words = All-nil (λ row. (row.word < word_count setup) × (n ≤ stripe_of setup row.word));
  present = All-nil (λ row. 1 ≤ row.count);
  counts_are = λ word below past. absurd (let within = stripe-below setup word in omega (arith, within, past, all));
}
  where
    distinct_none : IsDistinct nat_eq []
    distinct_none = tt

    stripe-below : (s : StripeSetup) (word : ℕ) → stripe_of s word < stripe_count s
    stripe-below s word = mod-lt _ (pow_pos s.stripe_bits)

pub AreRowsFrom-more : (setup : StripeSetup) (batches : List NumberedPieces) (n : ℕ) (rows part : List Row) → AreRowsFrom setup batches (n + 1) rows
    → AreStripeRows setup n batches part → AreRowsFrom setup batches n (rows ++ part)
AreRowsFrom-more setup batches n rows part from of = record {
  once = distinct;
  words = All-append (λ row. (row.word < word_count setup) × (n ≤ stripe_of setup row.word)) rows part
      (λ k d within. let (below, past) = from.words k d within in (below, omega (arith, past)))
      (λ k d within. let (below, own) = of.words k d within in (below, omega (arith, own)));
  present = All-append (λ row. 1 ≤ row.count) rows part from.present of.present;
  counts_are = λ word below past.
      let whole = count_of-sum (rows ++ part) word distinct ∙ sum_by-append (weight_of word) rows part in
      ⊎_elim
      (λ (own : stripe_of setup word ≡ n).
      let none = no_weight word rows (λ k d within same. let (_, higher) = from.words k d within in let here = ap (stripe_of setup) same in omega (arith, higher, own, here)) in
      let here = count_of-sum part word of.once in
      let counted = of.counts_are word below own in
      omega (arith, whole, none, here, counted))
      (λ (other : stripe_of setup word ≢ n).
      let none = no_weight word part (λ k d within same. let (_, own) = of.words k d within in other (ap (stripe_of setup) (sym same) ∙ own)) in
      let here = count_of-sum rows word from.once in
      let counted = from.counts_are word below (omega (arith, other, past)) in
      omega (arith, whole, none, here, counted))
      (cases_eq (stripe_of setup word) n);
}
  where
    distinct : IsDistinct nat_eq (words_in_rows (rows ++ part))
    distinct = subst (IsDistinct nat_eq) (sym (map-append (λ (row : Row). row.word) rows part))
        (IsDistinct-append (words_in_rows rows) (words_in_rows part) from.once of.once
        (All-map (λ x. All (λ y. x ≢ y) (words_in_rows part)) (λ (row : Row). row.word) rows (λ k d within.
        All-map (λ y. (get_or rows k d).word ≢ y) (λ (row : Row). row.word) part (λ j e inside same.
        let (_, higher) = from.words k d within in
        let (_, own) = of.words j e inside in
        let stripes = ap (stripe_of setup) same in omega (arith, higher, own, stripes)))))

-- a word occurs as often in the journal of a stripe with exactly the given batches as in these
pub whole-occurrences : {C : Type 0} (setup : StripeSetup) (batches : List NumberedPieces) (i : ℕ) (stripe : StripeState C) → IsDistinct nat_eq (numbers_of stripe.journal)
    → IsWhole setup batches i stripe → (word : ℕ) → word_occurrences setup stripe.journal word ≡ word_occurrences setup batches word
unfolding occurrences
whole-occurrences setup batches i stripe distinct whole word =
    as_sum stripe.journal
    ∙ weighs_whole batches stripe.journal distinct whole.own.given whole.all (λ batch. occurrences setup.rule (as_reads batch.pieces) (text setup.rule.k word))
    ∙ sym (as_sum batches)
  where
    as_sum : (entries : List NumberedPieces) → word_occurrences setup entries word ≡ sum_by (λ batch. occurrences setup.rule (as_reads batch.pieces) (text setup.rule.k word)) entries
    as_sum entries = sum_by-flat_map (λ read. occurrences_in setup.rule read (text setup.rule.k word)) (λ (batch : NumberedPieces). as_reads batch.pieces) entries

-- a stripe whose journal has exactly the given batches has their rows
pub rows-whole : {C : Type 0} (setup : StripeSetup) (batches : List NumberedPieces) (i : ℕ) (stripe : StripeState C) (rows : List Row)
    → IsDistinct nat_eq (numbers_of stripe.journal) → IsWhole setup batches i stripe → AreStripeRows stripe.setup stripe.number stripe.journal rows
    → AreStripeRows setup i batches rows
rows-whole setup batches i stripe rows distinct whole are =
    let here = subst (λ s. AreStripeRows s stripe.number stripe.journal rows) whole.own.same_setup are in
    let own = subst (λ n. AreStripeRows setup n stripe.journal rows) whole.own.same_number here in
    record {
      once = own.once;
      words = own.words;
      present = own.present;
      counts_are = λ word below falls. own.counts_are word below falls ∙ whole-occurrences setup batches i stripe distinct whole word;
    }

-- ---- the rows of each stripe

-- the rows of all stripes, stripe after stripe
abbrev pub taken_rows : List (Vec LooseSeen Global) → List Row
taken_rows taken = flat_map part_rows taken

pub AreRowsFrom-taken : (setup : StripeSetup) (batches : List NumberedPieces) (n : ℕ) (taken : List (Vec LooseSeen Global)) → n + length taken ≡ stripe_count setup
    → ((i : ℕ) (parts : Vec LooseSeen Global) → i < length taken → HasRowsOf setup batches (n + i) (get_or taken i parts)) → AreRowsFrom setup batches n (taken_rows taken)
AreRowsFrom-taken setup batches n [] all have = AreRowsFrom-none setup batches n (omega (arith, all))
AreRowsFrom-taken setup batches n (parts ∷ taken) all have =
    let later = AreRowsFrom-taken setup batches (n + 1) taken (omega (arith, all))
    (λ i p within. subst (λ k. HasRowsOf setup batches k (get_or taken i p)) (plus i) (have (suc i) p (omega (arith, within)))) in
    let own = subst (λ k. HasRowsOf setup batches k parts) zero_more (have 0 parts (omega arith)) in
    AreRowsFrom-permuted setup batches n (taken_rows taken ++ own.rows) (part_rows parts ++ taken_rows taken)
    (IsPermutation-trans (taken_rows taken ++ own.rows) (own.rows ++ taken_rows taken) (part_rows parts ++ taken_rows taken)
    (IsPermutation-append_comm (taken_rows taken) own.rows) (IsPermutation-append_left (taken_rows taken) own.rows (part_rows parts) own.same))
    (AreRowsFrom-more setup batches n (taken_rows taken) own.rows later own.rows_are)
  where
    plus : (i : ℕ) → n + suc i ≡ n + 1 + i
    plus i = omega arith

    zero_more : n + 0 ≡ n
    zero_more = omega arith

-- the rows of a stripe whose journal has exactly the given batches, in parts, are those of this stripe of the count
pub HasRowsOf-whole : {C : Type 0} (setup : StripeSetup) (batches : List NumberedPieces) (n : ℕ) (stripe : StripeState C) (rows : List Row) (parts : Vec LooseSeen Global)
    → IsDistinct nat_eq (numbers_of stripe.journal) → IsWhole setup batches n stripe → AreStripeRows stripe.setup stripe.number stripe.journal rows
    → ArePartsOf stripe.setup.rule.k parts.items → IsPermutation rows (part_rows parts) → HasRowsOf setup batches n parts
HasRowsOf-whole setup batches n stripe rows parts differ whole are parted same = record {
  parts_are = subst (λ (s : StripeSetup). ArePartsOf s.rule.k parts.items) whole.own.same_setup parted;
  rows = rows;
  rows_are = rows-whole setup batches n stripe rows differ whole are;
  same = same;
}

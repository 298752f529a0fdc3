-- The tally that the rows of all stripes are when they are sorted.
use Rattle.std.proofs.Common.{◌≡◌, ℕ, ◌+◌, ◌^◌, ◌<◌, ◌≤◌, eqb, nat_eq, List, [], ◌∷◌, length, get_or, All, Vec, Global, refl, ap, sym, subst, ◌∙◌, arith}
use Rattle.std.specs.List.{IsDistinct, flat_map}
use Rattle.std.specs.List.Sorted.{IsPermutation, IsNonDecreasingBy, IsStrictlyIncreasing}
use Rattle.std.proofs.lemmas.Bool.{eq-eqb, cond-true}
use Rattle.std.proofs.lemmas.Bool.Decides.{eqb_tells}
use Rattle.std.proofs.lemmas.List.{length-map, get_or-map, get_or_default, length-append}
use Rattle.std.proofs.lemmas.List.Concat.{flat_map-append}
use Rattle.std.proofs.lemmas.List.Elements.{All-contains}
use Rattle.std.proofs.lemmas.List.Sums.{sum_by-cons}
use Rattle.std.proofs.lemmas.List.Sorted.{All-permutation, sum_by-IsPermutation, IsPermutation-trans}
use Rattle.std.proofs.lemmas.Map.Keys.{IsStrictlyIncreasing-from_distinct}
use Rattle.kc_lemmas.proofs.Distinct.{Contains-from_times}
use Rattle.kc_lemmas.proofs.Sums.{term-le-sum_by}
use Rattle.kc_kmer.specs.Word.{text, form}
use Rattle.kc_kmer.specs.Occurrences.{words_in, words_of}
use Rattle.kc_word.specs.Cutting.{NumberedPieces, as_reads, position_total}
use Rattle.kc_word.proofs.Cuttings.{length-words_of-pieces}
use Rattle.kc_kmer.proofs.WordCounts.{times-words_of, All-forms}
use Rattle.kc_tally.specs.declared.row.Row.{Row}
use Rattle.kc_tally.specs.Tally.{TallySeen, row_of, AreRows, IsTally, IsTallyOf}
use Rattle.kc_tally.proofs.Tallies.{tally_total}
use Rattle.kc_booking.specs.Setup.{StripeSetup, word_count, stripe_of}
use Rattle.kc_booking.specs.Stripe.{reads_in, position_sum}
use Rattle.kc_tally.specs.Packing.{LooseSeen, ListsSeen}
use Rattle.kc_gather.specs.Parts.{ArePartsOf, AreColumnsOf, AreSorted, part_rows, part_shift}
use Rattle.kc_gather.specs.Gathering.{AreRowsFrom, AreAllParts, HasRowsOf}
use Rattle.kc_gather.proofs.PartLemmas.{in_column, AreSorted-permutation, AreSorted-rise}
use Rattle.kc_gather.proofs.Rows.{words_in_rows, weight_of, count_of-sum, distinct-permuted, AreRowsFrom-taken}

rising-sorted : (sorted : List Row) → IsNonDecreasingBy (λ row. row.word) sorted → IsDistinct nat_eq (words_in_rows sorted) → IsStrictlyIncreasing (words_in_rows sorted)
rising-sorted sorted up distinct =
    let long = length-map sorted (λ (row : Row). row.word) in
    let word = λ (row : Row). row.word in
    let first : Row = row_of 0 0 in
    IsStrictlyIncreasing-from_distinct (words_in_rows sorted) (λ i j d le within.
    let inside : j < length sorted = omega (arith, long, within) in
    let step = up i j first le inside in
    let here = get_or-map word sorted i first d (omega (arith, le, inside)) in
    let there = get_or-map word sorted j first d inside in
    omega (arith, step, here, there)) distinct

-- sorted, the rows of all stripes are the tally
IsTally-sorted : (setup : StripeSetup) (batches : List NumberedPieces) (rows sorted : List Row) → AreRowsFrom setup batches 0 rows → IsPermutation rows sorted
    → IsNonDecreasingBy (λ row. row.word) sorted → IsTally setup.rule (reads_in batches) sorted
IsTally-sorted setup batches rows sorted from same up = record {
  ordered = record {
    rising = rising-sorted sorted up distinct;
    words = λ k d within. (All-permutation (λ (row : Row). (row.word < word_count setup) × (0 ≤ stripe_of setup row.word)) rows sorted same from.words k d within).0;
    present = All-permutation (λ (row : Row). 1 ≤ row.count) rows sorted same from.present;
  };
  counts = λ n below.
      count_of-sum sorted n distinct ∙ sum_by-IsPermutation (weight_of n) rows sorted same ∙ sym (count_of-sum rows n from.once)
      ∙ from.counts_are n below (omega arith);
}
  where
    distinct : IsDistinct nat_eq (words_in_rows sorted)
    distinct = distinct-permuted rows sorted same from.once

-- the batches have at most as many words as positions
pub few_words : (setup : StripeSetup) (batches : List NumberedPieces) → length (words_of setup.rule (reads_in batches)) ≤ position_sum setup.rule.k batches
unfolding words_of
few_words setup [] = omega arith
few_words setup (batch ∷ batches) =
    let rest = few_words setup batches in
    let this = length-words_of-pieces setup.rule batch.pieces in
    let joined = ap length (flat_map-append (λ read. words_in setup.rule read) (as_reads batch.pieces) (reads_in batches)) in
    let long = length-append (words_of setup.rule (as_reads batch.pieces)) (words_of setup.rule (reads_in batches)) in
    let sum = sum_by-cons (λ (b : NumberedPieces). position_total setup.rule.k b.pieces) batch batches in
    omega (arith, rest, this, joined, long, sum)

-- and is one that a `Tally` may be
AreRows-sorted : (setup : StripeSetup) (batches : List NumberedPieces) (rows sorted : List Row) → position_sum setup.rule.k batches ≤ 2 ^ 62
    → AreRowsFrom setup batches 0 rows → IsPermutation rows sorted → IsNonDecreasingBy (λ row. row.word) sorted → AreRows setup.rule.k setup.rule.both sorted
AreRows-sorted setup batches rows sorted few from same up = record {
  ordered = tally.ordered;
  forms = λ k d within.
      let row : Row = get_or sorted k d in
      let below = tally.ordered.words k d within in
      let present = tally.ordered.present k d within in
      let term = term-le-sum_by (weight_of row.word) sorted row (k, within, get_or_default sorted k row d within) in
      let weight : weight_of row.word row ≡ row.count = cond-true (eqb row.word row.word) row.count 0 (eq-eqb row.word row.word refl) in
      let counted = sym (count_of-sum sorted row.word (distinct-permuted rows sorted same from.once)) ∙ tally.counts row.word below ∙ sym (times-words_of setup.rule (reads_in batches) row.word below) in
      All-contains (λ n. form setup.rule.both (text setup.rule.k n) ≡ text setup.rule.k n) (words_of setup.rule (reads_in batches)) row.word (All-forms setup.rule (reads_in batches))
      (Contains-from_times nat_eq eqb_tells row.word (words_of setup.rule (reads_in batches)) (omega (arith, present, term, weight, counted)));
  small = let total = tally_total setup.rule (reads_in batches) sorted tally in let words = few_words setup batches in omega (arith, total, words, few);
}
  where
    tally : IsTally setup.rule (reads_in batches) sorted
    tally = IsTally-sorted setup batches rows sorted from same up

-- and a `Tally` of these rows is the tally
IsTallyOf-sorted : (setup : StripeSetup) (batches : List NumberedPieces) (sorted : List Row) (tally : TallySeen) → tally ≡ record { k = setup.rule.k; both = setup.rule.both; rows = sorted }
    → IsTally setup.rule (reads_in batches) sorted → IsTallyOf setup.rule (reads_in batches) tally
IsTallyOf-sorted setup batches sorted tally is of = record {
  k = ap (λ (t : TallySeen). t.k) is;
  both = ap (λ (t : TallySeen). t.both) is;
  rows = subst (IsTally setup.rule (reads_in batches)) (sym (ap (λ (t : TallySeen). t.rows) is)) of;
}

-- ---- from the stripes to the sorted rows

-- the rows of whole stripes, and the same rows in the order of their words
record AreGathered (setup : StripeSetup) (batches : List NumberedPieces) (sorted : List Row) : Type 0 where
  pub rows : List Row
  pub from : AreRowsFrom setup batches 0 rows
  pub same : IsPermutation rows sorted
  pub up : IsNonDecreasingBy (λ row. row.word) sorted

-- what was done of it: the rows of each stripe were taken and brought into columns, and these were sorted
pub record IsGathering (setup : StripeSetup) (batches : List NumberedPieces) (sorted : List Row) : Type 0 where
  pub taken : List (Vec LooseSeen Global)
  pub columns : List ListsSeen
  pub k : ℕ
  pub parts_are : AreAllParts HasRowsOf setup batches taken
  pub parted : AreColumnsOf k columns
  pub same : IsPermutation (flat_map part_rows taken) (flat_map in_column columns)
  pub sorted_are : AreSorted in_column columns sorted

are_gathered : (setup : StripeSetup) (batches : List NumberedPieces) (sorted : List Row) → IsGathering setup batches sorted → AreGathered setup batches sorted
are_gathered setup batches sorted of = record {
  rows = flat_map part_rows of.taken;
  from = AreRowsFrom-taken setup batches 0 of.taken (let all = of.parts_are.all in omega (arith, all)) (λ i parts within.
      subst (λ n. HasRowsOf setup batches n (get_or of.taken i parts)) (from_zero i) (of.parts_are.each i parts within));
  same = IsPermutation-trans (flat_map part_rows of.taken) (flat_map in_column of.columns) sorted of.same (AreSorted-permutation in_column of.columns sorted of.sorted_are);
  up = AreSorted-rise in_column (part_shift of.k) of.columns sorted of.parted.parted of.sorted_are;
}
  where
    from_zero : (i : ℕ) → i ≡ 0 + i
    from_zero i = omega arith

-- the rows that were taken are in parts
pub parts-taken : (setup : StripeSetup) (batches : List NumberedPieces) (taken : List (Vec LooseSeen Global)) (k : ℕ) → AreAllParts HasRowsOf setup batches taken → k ≡ setup.rule.k
    → All (λ parts. ArePartsOf k parts.items) taken
parts-taken setup batches taken k are same i parts within =
    subst (λ n. ArePartsOf n (get_or taken i parts).items) (sym same) (are.each i parts within).parts_are

-- what was gathered is one that a `Tally` may be, and is the tally
pub AreRows-gathered : (setup : StripeSetup) (batches : List NumberedPieces) (sorted : List Row) → IsGathering setup batches sorted → AreRows setup.rule.k setup.rule.both sorted
AreRows-gathered setup batches sorted of =
    let made = are_gathered setup batches sorted of in
    AreRows-sorted setup batches made.rows sorted of.parts_are.few made.from made.same made.up

pub IsTallyOf-gathered : (setup : StripeSetup) (batches : List NumberedPieces) (sorted : List Row) (tally : TallySeen)
    → tally ≡ record { k = setup.rule.k; both = setup.rule.both; rows = sorted } → IsGathering setup batches sorted → IsTallyOf setup.rule (reads_in batches) tally
IsTallyOf-gathered setup batches sorted tally is of =
    let made = are_gathered setup batches sorted of in
    IsTallyOf-sorted setup batches sorted tally is (IsTally-sorted setup batches made.rows sorted made.from made.same made.up)

-- A lawful stripe: it has the counts of the batches in its journal.
-- Source: the occurrences of a word, Marçais and Kingsford 2011; the stripes and their journals are this project's.
use Rattle.std.specs.Prelude.{◌≡◌, ℕ, Bool, ◌<◌, ◌≤◌, ◌^◌, List, map, sum, sum_by, All, Contains, nat_eq}
use Rattle.std.specs.List.{IsDistinct, flat_map, list_any}
use Rattle.kc_fastx.specs.Reads.{Read}
use Rattle.kc_kmer.specs.Word.{text}
use Rattle.kc_kmer.specs.Occurrences.{occurrences}
use Rattle.kc_word.specs.Cutting.{NumberedPieces, position_total, as_reads}
use Rattle.kc_table.specs.Counts.{KeyCounts, count_at}
use Rattle.kc_tally.specs.declared.row.Row.{Row}
use Rattle.kc_tally.specs.Tally.{count_of}
use Rattle.kc_tally.specs.Histogram.{bins_of}
use Rattle.kc_booking.specs.Setup.{StripeSetup, word_count, stripe_count, key_bits, stripe_of, key_of, stripe_words}
use Rattle.kc_booking.specs.Setup.{DividesWords}
use Rattle.kc_booking.specs.Cut.{StripeCut}

-- a stripe as a value: the setup, its number, its journal of the batches that were booked, the table of its counts, the
-- sizes of the counts' bins, and the sum of the counts
pub record StripeState (C : Type 0) : Type 0 where
  pub setup : StripeSetup
  pub number : ℕ
  pub journal : List NumberedPieces
  pub table : C
  pub bins : List ℕ
  pub total : ℕ

-- the numbers of the batches in a journal
abbrev pub numbers_of : List NumberedPieces → List ℕ
numbers_of journal = map (λ batch. batch.number) journal

-- the batches of a journal have different numbers
abbrev pub NumbersDiffer : List NumberedPieces → Type 0
NumbersDiffer journal = IsDistinct nat_eq (numbers_of journal)

-- for each number it is known whether it is in the journal
abbrev pub KnowsNumbers : (ℕ → Bool) → List NumberedPieces → Type 0
KnowsNumbers known journal = (n : ℕ) → known n ≡ list_any (nat_eq n) (numbers_of journal)

-- how many positions the batches have together
abbrev pub position_sum : ℕ → List NumberedPieces → ℕ
position_sum k batches = sum_by (λ batch. position_total k batch.pieces) batches

-- the pieces of the batches in a journal, each as a read without qualities
abbrev pub reads_in : List NumberedPieces → List Read
reads_in journal = flat_map (λ batch. as_reads batch.pieces) journal

-- how often a word occurs in the batches of a journal
abbrev pub word_occurrences : StripeSetup → List NumberedPieces → ℕ → ℕ
word_occurrences setup journal word = occurrences setup.rule (reads_in journal) (text setup.rule.k word)

-- the same for each word of a stripe, also for words that do not occur
abbrev pub stripe_occurrences : StripeSetup → ℕ → List NumberedPieces → List ℕ
stripe_occurrences setup number journal = map (word_occurrences setup journal) (stripe_words setup number)

-- A lawful stripe. The batches in its journal have different numbers. The count under the key of each word of the
-- stripe is how often the word occurs in these batches. Bin c is the number of words of the stripe that occur c times;
-- the last bin, of those that occur more than 10,000 times. The total is the sum of the counts, and at most 2 ^ 62.
pub record IsLawful (setup : StripeSetup) (number : ℕ) (journal : List NumberedPieces)
    (counts : KeyCounts) (bins : List ℕ) (total : ℕ) : Type 0 where
  pub numbers_differ : NumbersDiffer journal
  pub counts_are : (word : ℕ) → word < word_count setup → stripe_of setup word ≡ number
      → count_at counts (key_of setup word) ≡ word_occurrences setup journal word
  pub bins_are : bins ≡ bins_of (stripe_occurrences setup number journal)
  pub total_is : total ≡ sum (stripe_occurrences setup number journal)
  pub total_at_most : total ≤ 2 ^ 62

-- the row of a word and its count
abbrev pub row_of_pair : ℕ × ℕ → Row
row_of_pair pair = record { word = pair.0; count = pair.1 }

-- the rows are the words of the stripe that occur in the journal's batches, each once, with its occurrences
pub record AreStripeRows (setup : StripeSetup) (number : ℕ) (journal : List NumberedPieces) (rows : List Row)
    : Type 0 where
  pub once : IsDistinct nat_eq (map (λ row. row.word) rows)
  pub words : All (λ row. (row.word < word_count setup) × (stripe_of setup row.word ≡ number)) rows
  pub present : All (λ row. 1 ≤ row.count) rows
  pub counts_are : (word : ℕ) → word < word_count setup → stripe_of setup word ≡ number
      → count_of rows word ≡ word_occurrences setup journal word

-- the journal has a batch with this number
abbrev pub IsBooked : List NumberedPieces → ℕ → Type 0
IsBooked journal number = Contains (numbers_of journal) number

-- the cut belongs to the stripe: it has the stripe's setup and number
abbrev pub IsOwnCut : {C : Type 0} → StripeState C → StripeCut → Type 0
IsOwnCut stripe cut = (cut.setup ≡ stripe.setup) × (cut.stripe ≡ stripe.number)

-- the journal, counts, bins and total are as before
pub record IsUnchanged {C : Type 0} (counts : C → KeyCounts) (old new : StripeState C) : Type 0 where
  pub same_journal : new.journal ≡ old.journal
  pub same_counts : (key : ℕ) → count_at (counts new.table) key ≡ count_at (counts old.table) key
  pub same_bins : new.bins ≡ old.bins
  pub same_total : new.total ≡ old.total

-- the invariant of a stripe besides being lawful: its number is that of a stripe, its keys are those of words, and it
-- knows which numbers are in its journal
pub record IsKept (setup : StripeSetup) (number : ℕ) (journal : List NumberedPieces) (bits : ℕ) (known : ℕ → Bool)
    : Type 0 where
  pub own : number < stripe_count setup
  pub divided : DividesWords setup
  pub bits_are : bits ≡ key_bits setup
  pub known_are : KnowsNumbers known journal

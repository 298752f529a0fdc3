-- What is counted of reads, one more at a time, and that it fits 64 bits.
use Rattle.std.proofs.Common.{◌≡◌, ℕ, cond, ◌+◌, ◌^◌, ◌<◌, ◌≤◌, true, List, [], ◌∷◌, ◌++◌, length}
use Rattle.std.proofs.Common.{sym, ap, ◌∙◌, arith, length-append}
use Rattle.std.proofs.lemmas.List.{map-append}
use Rattle.std.proofs.lemmas.List.Sums.{sum_by-append, sum_by-cons, count_by-le-length}
use Rattle.kc_io.specs.Sources.{Seen}
use Rattle.kc_gzip.proofs.IntakesLemmas.{taken_once}
use Rattle.kc_fastx.proofs.ReadingLemmas.{all_taken}
use Rattle.kc_fastx.specs.Reads.{Read, base_count}
use Rattle.kc_fastx.specs.Parsing.{most_bytes}
use Rattle.kc_fastx.specs.Reading.{Stand}
use Rattle.kc_fastx.specs.Titles.{Record, HasGivenRecords, GivesRecords, reads_in}
use Rattle.kc_kmer.proofs.WordCounts.{length-words_in}
use Rattle.kc_tally.specs.Tally.{TallySeen}
use Rattle.kc_select.specs.declared.selection_counts.SelectionCounts.{SelectionCounts}
use Rattle.kc_select.specs.Solid.{SelectionRule, rule_for, words_for, is_solid_word, solid_in, is_selected}
use Rattle.kc_select.specs.Counts.{counts_of, both_counts}

-- of some reads and of others, it is the sum
pub counts_append : (tally : TallySeen) (rule : SelectionRule) (reads more : List Read)
    → counts_of tally rule (reads ++ more) ≡ both_counts (counts_of tally rule reads) (counts_of tally rule more)
counts_append tally rule reads more =
    let reads_are = length-append reads more in
    let kept_are = sum_by-append (λ read. cond (is_selected tally rule read) 1 0) reads more in
    let words_are = sum_by-append (λ read. length (words_for tally rule read)) reads more in
    let solid_are = sum_by-append (λ read. solid_in tally rule read) reads more in
    alike reads_are kept_are words_are solid_are
  where
    alike : {a b c d e f g h : ℕ} → a ≡ b → c ≡ d → e ≡ f → g ≡ h
        → (let one : SelectionCounts = record { reads = a; kept = c; words = e; solid = g } in one)
        ≡ record { reads = b; kept = d; words = f; solid = h }
    alike p q r s = cc

pub counts_push : (tally : TallySeen) (rule : SelectionRule) (records : List Record) (this : Record)
    (counts judged sum : SelectionCounts) → counts ≡ counts_of tally rule (reads_in records)
    → judged ≡ counts_of tally rule (this.read ∷ []) → sum ≡ both_counts counts judged
    → sum ≡ counts_of tally rule (reads_in (records ++ this ∷ []))
counts_push tally rule records this counts judged sum before one is =
    is
    ∙ ap (λ v. both_counts v judged) before
    ∙ ap (λ v. both_counts (counts_of tally rule (reads_in records)) v) one
    ∙ sym (counts_append tally rule (reads_in records) (this.read ∷ []))
    ∙ ap (λ v. counts_of tally rule v) (sym (map-append (λ (r : Record). r.read) records (this ∷ [])))

-- reads have no more words than bases, and no more solid words than words
pub words_few : (tally : TallySeen) (rule : SelectionRule) → 1 ≤ tally.k → (reads : List Read)
    → (counts_of tally rule reads).words ≤ base_count reads
words_few tally rule some [] = omega arith
words_few tally rule some (read ∷ reads) =
    omega (
      arith,
      length-words_in (rule_for tally rule) read some,
      words_few tally rule some reads,
      sum_by-cons (λ (r : Read). length (words_for tally rule r)) read reads,
      sum_by-cons (λ (r : Read). length r.bases) read reads,
    )

pub solid_fewer : (tally : TallySeen) (rule : SelectionRule) (reads : List Read)
    → (counts_of tally rule reads).solid ≤ (counts_of tally rule reads).words
solid_fewer tally rule [] = omega arith
solid_fewer tally rule (read ∷ reads) =
    omega (
      arith,
      count_by-le-length (λ word. is_solid_word tally rule word) (words_for tally rule read),
      solid_fewer tally rule reads,
      sum_by-cons (λ (r : Read). length (words_for tally rule r)) read reads,
      sum_by-cons (λ (r : Read). solid_in tally rule r) read reads,
    )

-- no count is 2^64 or more
pub record AreFew (counts : SelectionCounts) : Type 0 where
  pub reads : counts.reads < 2 ^ 64
  pub kept : counts.kept < 2 ^ 64
  pub words : counts.words < 2 ^ 64
  pub solid : counts.solid < 2 ^ 64

pub counts_few : (tally : TallySeen) (rule : SelectionRule) → 1 ≤ tally.k → (reads : List Read)
    → base_count reads ≤ most_bytes → length reads ≤ most_bytes → AreFew (counts_of tally rule reads)
counts_few tally rule some reads bases few =
    let words = words_few tally rule some reads in
    let solid = solid_fewer tally rule reads in
    let kept = count_by-le-length (λ read. is_selected tally rule read) reads in
    record {
      reads = omega (arith, few);
      kept = omega (arith, few, kept);
      words = omega (arith, bases, words);
      solid = omega (arith, bases, words, solid);
    }

-- at the end as many bytes came as were used or are unused
pub taken_same : (start now : Seen) (limit : ℕ) (records : List Record) (stand : Stand)
    → HasGivenRecords start now limit records stand → stand.ended ≡ true → (gives : GivesRecords start now limit records)
    → stand.used + length stand.unread.bytes ≡ length gives.0
taken_same start now limit records stand given ended gives =
    let counted = given.given.counted in
    let same = taken_once (all_taken ended given.given.taken) gives.1 in
    omega (arith, counted, ap length same, length-append given.given.used stand.unread.bytes)

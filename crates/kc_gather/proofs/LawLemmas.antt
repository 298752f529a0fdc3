-- From the tally of batches to the tally of the reads that they were cut from.
use Rattle.std.proofs.Common.{◌≡◌, ◌≤◌, ◌+◌, ℕ, List, [], ◌∷◌, map, refl, sym, ◌∙◌, ap}
use Rattle.std.specs.Prelude.{sum_by}
use Rattle.std.proofs.lemmas.List.Sums.{sum_by-append, sum_by-cons}
use Rattle.kc_fastx.specs.Reads.{Read}
use Rattle.kc_word.specs.Cutting.{NumberedPieces, as_reads, cleaned, cutting}
use Rattle.kc_kmer.specs.Occurrences.{occurrences, occurrences_in}
use Rattle.kc_kmer.specs.Rule.{CountingRule}
use Rattle.kc_kmer.specs.Word.{text}
use Rattle.kc_word.proofs.Cleaning.{occurrences-cleaned}
use Rattle.kc_word.proofs.Cuttings.{cutting-occurrences}
use Rattle.kc_booking.specs.Stripe.{reads_in}
use Rattle.kc_gather.specs.Laws.{TallyOfCutting}

-- A word occurs in the batches together as often as in their reads.
occurrences_joined : (rule : CountingRule) (batches : List NumberedPieces) (word : List ℕ) →
    occurrences rule (reads_in batches) word ≡ sum_by (λ batch. occurrences rule (as_reads batch.pieces) word) batches
unfolding occurrences
occurrences_joined rule [] word = refl
occurrences_joined rule (batch ∷ batches) word =
    let own = as_reads batch.pieces in
    sum_by-append (λ read. occurrences_in rule read word) own (reads_in batches)
    ∙ ap (λ n. sum_by (λ read. occurrences_in rule read word) own + n) (occurrences_joined rule batches word)
    ∙ sym (sum_by-cons (λ batch. occurrences rule (as_reads batch.pieces) word) batch batches)

-- So it does in a cutting of cleaned reads and in the reads.
occurrences_cut : (rule : CountingRule) (size : ℕ) (reads : List Read) (word : List ℕ) → 1 ≤ rule.k → 1 ≤ size →
    occurrences rule (reads_in (cutting rule.k size (map (λ read. cleaned rule read) reads))) word ≡ occurrences rule reads word
occurrences_cut rule size reads word some room =
    let pieces = map (λ read. cleaned rule read) reads in
    occurrences_joined rule (cutting rule.k size pieces) word
    ∙ cutting-occurrences rule size pieces word some room
    ∙ occurrences-cleaned rule reads word

pub cutting_tally : TallyOfCutting
cutting_tally = λ rule size reads tally some room h. record {
  k = h.k;
  both = h.both;
  rows = record {
    ordered = h.rows.ordered;
    counts = λ n below. h.rows.counts n below ∙ occurrences_cut rule size reads (text rule.k n) some room;
  };
}

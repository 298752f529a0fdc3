-- The tally of batches, and that of the reads from which they were cut.
-- Source: this project's own.
use Rattle.std.specs.Prelude.{◌≤◌, ℕ, List, map}
use Rattle.kc_fastx.specs.Reads.{Read}
use Rattle.kc_word.specs.Cutting.{cleaned, cutting}
use Rattle.kc_kmer.specs.Rule.{CountingRule}
use Rattle.kc_tally.specs.Tally.{IsTallyOf, TallySeen}
use Rattle.kc_booking.specs.Stripe.{reads_in}

-- the tally of the batches of a cutting of cleaned reads is the tally of the reads
abbrev pub TallyOfCutting : Type 0
TallyOfCutting = (rule : CountingRule) (size : ℕ) (reads : List Read) (tally : TallySeen) → 1 ≤ rule.k → 1 ≤ size
    → IsTallyOf rule (reads_in (cutting rule.k size (map (λ read. cleaned rule read) reads))) tally
    → IsTallyOf rule reads tally

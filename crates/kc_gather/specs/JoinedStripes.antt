-- The numbers of all stripes of a count together.
-- Source: this project's own.
use Rattle.std.specs.Prelude.{◌≡◌, ℕ, ◌<◌, List, length, sum, slice_index_or}
use Rattle.std.specs.List.{flat_map, range_with_len}
use Rattle.kc_word.specs.Cutting.{NumberedPieces}
use Rattle.kc_tally.specs.Histogram.{bins_of}
use Rattle.kc_tally.specs.Statistics.{greatest_of}
use Rattle.kc_booking.specs.Setup.{StripeSetup}
use Rattle.kc_booking.specs.Stripe.{stripe_occurrences}
use Rattle.kc_gather.specs.declared.stripe_part.StripePart.{StripePart}
use Rattle.kc_gather.specs.declared.stripe_part.StripeNumbers.{StripeNumbers}

-- the counts of the first n parts, part after part
abbrev pub first_counts : (ℕ → List ℕ) → ℕ → List ℕ
first_counts counts n = flat_map counts (range_with_len 0 n)

-- the bins of the counts, their sum and the greatest one
pub record AreNumbersOf (counts : List ℕ) (numbers : StripeNumbers) : Type 0 where
  pub bins_are : numbers.histogram ≡ bins_of counts
  pub total_is : numbers.total ≡ sum counts
  pub greatest_is : numbers.greatest ≡ greatest_of counts

-- each part has the numbers of its counts
abbrev pub HaveNumbers : (ℕ → List ℕ) → List StripePart → Type 0
HaveNumbers counts parts = (i : ℕ) (part : StripePart) → i < length parts
    → AreNumbersOf (counts i) (slice_index_or parts i part).numbers

-- the numbers of stripe n in a count of the batches
abbrev pub HasStripeNumbers : StripeSetup → List NumberedPieces → ℕ → StripePart → Type 0
HasStripeNumbers setup batches n part = AreNumbersOf (stripe_occurrences setup n batches) part.numbers

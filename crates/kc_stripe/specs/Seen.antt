-- What the stripes know of a word: how often it occurs in the batches booked into the stripe where it counts.
-- Source: the canonical form is that of Jellyfish's option -C; naming the batches is this project's own.
use Rattle.std.specs.Prelude.{◌≡◌, ℕ, List, Contains, nat_eq}
use Rattle.std.specs.List.{IsDistinct}
use Rattle.kc_kmer.specs.Occurrences.{occurrences}
use Rattle.kc_word.specs.Cutting.{NumberedPieces}
use Rattle.kc_share.specs.declared.entry.Entry.{Entry}
use Rattle.kc_share.specs.declared.entry.Booking.{Booking}
use Rattle.kc_share.specs.Entries.{entries_in}
use Rattle.kc_booking.specs.Setup.{StripeSetup, stripe_of, form_text, form_of}
use Rattle.kc_booking.specs.Stripe.{StripeState, numbers_of, reads_in}

-- how the words are divided, the word that was looked up, its count, and the batches in which it was counted
pub record WordSeen : Type 0 where
  pub setup : StripeSetup
  pub word : ℕ
  pub count : ℕ
  pub batches : List NumberedPieces

-- the stripe in which a word counts: the stripe of its form
abbrev pub form_stripe : StripeSetup → ℕ → ℕ
form_stripe setup word = stripe_of setup (form_of setup word)

-- the word counts in this stripe: the stripe divides the words by the same setup, and has the number of the stripe of
-- the word's form
abbrev pub IsStripeOf : {C : Type 0} → StripeSetup → ℕ → StripeState C → Type 0
IsStripeOf setup word stripe = (stripe.setup ≡ setup) × (stripe.number ≡ form_stripe setup word)

-- the batches have different numbers, and the count is how often the word's form occurs in them
pub record IsSeen (setup : StripeSetup) (word count : ℕ) (batches : List NumberedPieces) : Type 0 where
  pub numbers_differ : IsDistinct nat_eq (numbers_of batches)
  pub count_is : count ≡ occurrences setup.rule (reads_in batches) (form_text setup word)

-- the batches contain each batch that was booked into the stripe with this number
abbrev pub AreNamed : ℕ → List Booking → List NumberedPieces → Type 0
AreNamed stripe booked batches =
    (entry : Entry) → Contains (entries_in stripe booked) entry → Contains batches entry.batch

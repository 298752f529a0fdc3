-- A cut: the words of a batch that belong to one stripe.
-- Source: this project's own; a stripe counts its words by their keys.
use Rattle.std.specs.Prelude.{ℕ, ◌==◌, List, map, filter}
use Rattle.std.specs.List.{range_with_len}
use Rattle.kc_kmer.specs.Occurrences.{words_of}
use Rattle.kc_word.specs.Cutting.{NumberedPieces, as_reads}
use Rattle.kc_booking.specs.Setup.{StripeSetup, stripe_count, hash_value_of, stripe_of, key_of}

-- the words of a batch in one of the stripes of a setup
pub record StripeCut : Type 0 where
  pub setup : StripeSetup
  pub stripe : ℕ
  pub batch : NumberedPieces

-- the keys of those words that belong to a stripe, in the order of the words
abbrev pub keys_among : StripeSetup → ℕ → List ℕ → List ℕ
keys_among setup stripe words = map (key_of setup) (filter (λ word. stripe_of setup word == stripe) words)

-- the keys of a cut: those of its batch's words in its stripe, in order
abbrev pub keys_of : StripeCut → List ℕ
keys_of cut = keys_among cut.setup cut.stripe (words_of cut.setup.rule (as_reads cut.batch.pieces))

-- the hash values of a batch's words, in order
abbrev pub batch_hash_values : StripeSetup → NumberedPieces → List ℕ
batch_hash_values setup batch = map (hash_value_of setup) (words_of setup.rule (as_reads batch.pieces))

-- a batch cut up: one cut for each stripe, in the order of the stripes
abbrev pub cut_at : StripeSetup → NumberedPieces → ℕ → StripeCut
cut_at setup batch stripe = record { setup = setup; stripe = stripe; batch = batch }

abbrev pub cuts_of : StripeSetup → NumberedPieces → List StripeCut
cuts_of setup batch = map (cut_at setup batch) (range_with_len 0 (stripe_count setup))

-- A round: several batches, whose words are divided among the stripes, in buffers that are used again.
-- Source: this project's own; a worker cuts the batches of a round up one by one, and books them together.
use Rattle.std.specs.Prelude.{◌≡◌, ℕ, ◌+◌, ◌/◌, ◌%◌, ◌^◌, ◌<◌, ◌==◌, Bool, List, [], map, filter, length, get_or, Vec}
use Rattle.std.specs.Prelude.{vec_capacity}
use Rattle.std.specs.Bool.{MatchBool}
use Rattle.std.specs.declared.alloc.Global.{Global}
use Rattle.kc_word.specs.Cutting.{NumberedPieces}
use Rattle.kc_booking.specs.Setup.{StripeSetup, stripe_count}
use Rattle.kc_booking.specs.Cuts.{round_at, all_keys_of, sizes_of}
use Rattle.kc_booking.specs.Stripe.{NumbersDiffer, KnowsNumbers}

-- a round as a value: the setup, its batches in order, and the number of keys for which each stripe has room
pub record RoundState : Type 0 where
  pub setup : StripeSetup
  pub batches : List NumberedPieces
  pub rooms : List ℕ

-- a number and an eighth of it
abbrev pub with_an_eighth : ℕ → ℕ
with_an_eighth n = n + n / 8

-- of several vectors, the contents of the one at this index, and its capacity
abbrev pub items_at : {T : Type 0} → List (Vec T Global) → ℕ → List T
items_at vecs place = get_or (map (λ vec. vec.items) vecs) place []

abbrev pub rooms_of : {T : Type 0} → List (Vec T Global) → List ℕ
rooms_of vecs = map (λ vec. vec_capacity vec) vecs

abbrev pub room_at : {T : Type 0} → List (Vec T Global) → ℕ → ℕ
room_at vecs place = get_or (rooms_of vecs) place 0

-- the keys of those hash values that belong to a stripe: the value without its low s bits, which are the stripe
abbrev pub stripe_keys : ℕ → ℕ → List ℕ → List ℕ
stripe_keys s stripe hash_values =
    map (λ value. value / 2 ^ s) (filter (λ value. value % 2 ^ s == stripe) hash_values)

-- what is stored of the batches of a round: for each stripe the keys and how many each batch has; which numbers the
-- batches have; and whether these are different
pub record IsRound (setup : StripeSetup) (batches : List NumberedPieces) (keys sizes : List (Vec ℕ Global))
    (known : ℕ → Bool) (differ : Bool) : Type 0 where
  pub keys_all : length keys ≡ stripe_count setup
  pub sizes_all : length sizes ≡ stripe_count setup
  pub keys_are : (stripe : ℕ) → stripe < stripe_count setup
      → items_at keys stripe ≡ all_keys_of (round_at setup batches stripe)
  pub sizes_are : (stripe : ℕ) → stripe < stripe_count setup
      → items_at sizes stripe ≡ sizes_of (round_at setup batches stripe)
  pub known_are : KnowsNumbers known batches
  pub differ_is : MatchBool differ (NumbersDiffer batches) (¬ NumbersDiffer batches)

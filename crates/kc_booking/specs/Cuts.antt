-- The words of several batches that belong to one stripe, and when a stripe refuses them.
-- Source: this project's own; a worker books the batches of a round into each stripe by one call.
use Rattle.std.specs.Prelude.{◌≡◌, ℕ, Bool, List, [], ◌∷◌, map, length}
use Rattle.std.specs.Bool.{MatchBool}
use Rattle.std.specs.List.{flat_map}
use Rattle.kc_word.specs.Cutting.{NumberedPieces}
use Rattle.kc_booking.specs.Setup.{StripeSetup}
use Rattle.kc_booking.specs.Cut.{StripeCut, keys_of, cut_at}
use Rattle.kc_booking.specs.Stripe.{StripeState, NumbersDiffer, IsBooked}

-- the words of several batches in one of the stripes of a setup
pub record RoundCut : Type 0 where
  pub setup : StripeSetup
  pub stripe : ℕ
  pub batches : List NumberedPieces

-- its cuts: one for each batch, in order
abbrev pub cuts_in : RoundCut → List StripeCut
cuts_in round = map (λ batch. cut_at round.setup batch round.stripe) round.batches

-- the keys of its cuts, cut after cut
abbrev pub all_keys_of : RoundCut → List ℕ
all_keys_of round = flat_map keys_of (cuts_in round)

-- how many keys each of its cuts has
abbrev pub sizes_of : RoundCut → List ℕ
sizes_of round = map (λ cut. length (keys_of cut)) (cuts_in round)

-- several batches cut up: all of their words that belong to a stripe
abbrev pub round_at : StripeSetup → List NumberedPieces → ℕ → RoundCut
round_at setup batches stripe = record { setup = setup; stripe = stripe; batches = batches }

-- what is stored of it: the keys, how many each batch has, and whether the batches have different numbers
pub record AreCuts (round : RoundCut) (keys sizes : List ℕ) (differ : Bool) : Type 0 where
  pub keys_are : keys ≡ all_keys_of round
  pub sizes_are : sizes ≡ sizes_of round
  pub differ_is : MatchBool differ (NumbersDiffer round.batches) (¬ NumbersDiffer round.batches)

-- the words are divided as in the stripe, and are those of this stripe
abbrev pub IsOwnRound : {C : Type 0} → StripeState C → RoundCut → Type 0
IsOwnRound stripe round = (round.setup ≡ stripe.setup) × (round.stripe ≡ stripe.number)

-- there is a first batch, and this holds for it
abbrev pub OfFirst : (NumberedPieces → Type 0) → List NumberedPieces → Type 0
OfFirst P [] = ⊥
OfFirst P (batch ∷ more) = P batch

-- there is a first batch, and its number is in the journal, or is not
abbrev pub FirstIsBooked : List NumberedPieces → List NumberedPieces → Type 0
FirstIsBooked journal batches = OfFirst (λ batch. IsBooked journal batch.number) batches

abbrev pub FirstIsNew : List NumberedPieces → List NumberedPieces → Type 0
FirstIsNew journal batches = OfFirst (λ batch. ¬ IsBooked journal batch.number) batches

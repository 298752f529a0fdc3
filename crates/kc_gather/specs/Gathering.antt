-- When the stripes of a count can be gathered, and the errors if they can't.
-- Source: this project's own.
use Rattle.std.specs.Prelude.{◌≡◌, ◌≢◌, ℕ, ◌<◌, ◌≤◌, ◌^◌, List, length, map, All, Some, nat_eq}
use Rattle.std.specs.Prelude.{slice_get, slice_index_or, Vec}
use Rattle.std.specs.List.{IsDistinct}
use Rattle.std.specs.List.Sorted.{IsPermutation}
use Rattle.kc_word.specs.Cutting.{NumberedPieces}
use Rattle.kc_tally.specs.declared.row.Row.{Row}
use Rattle.kc_tally.specs.Tally.{count_of}
use Rattle.kc_booking.specs.Setup.{StripeSetup, word_count, stripe_count, stripe_of}
use Rattle.kc_booking.specs.Stripe.{StripeState, IsBooked, AreStripeRows, position_sum, word_occurrences}
use Rattle.kc_tally.specs.Packing.{LooseSeen}
use Rattle.kc_gather.specs.Parts.{ArePartsOf, part_rows}
use Rattle.kc_gather.specs.declared.gather_fault.GatherFault.{GatherFault}
use Rattle.kc_gather.specs.declared.gather_fault.GatherFault.TheVariants.{Foreign, Missing, Memory}

-- the batch is the given one with its number: the one at that index
abbrev pub IsGiven : List NumberedPieces → NumberedPieces → Type 0
IsGiven batches batch = slice_get batches batch.number ≡ Some batch

-- the journal has a batch for each number below this one
abbrev pub HasAllBelow : List NumberedPieces → ℕ → Type 0
HasAllBelow journal number = (n : ℕ) → n < number → IsBooked journal n

-- the journal has a batch for each given number
abbrev pub HasAllNumbers : List NumberedPieces → List NumberedPieces → Type 0
HasAllNumbers batches journal = HasAllBelow journal (length batches)

-- n is the least number of a given batch that the journal lacks; the journal's length differs from the number of
-- batches
pub record IsLeastMissing (batches journal : List NumberedPieces) (n : ℕ) : Type 0 where
  pub given : n < length batches
  pub missing : ¬ IsBooked journal n
  pub least : HasAllBelow journal n
  pub counted : length journal ≢ length batches

-- the stripe at this index has this property
abbrev pub StandsThere : {C : Type 0} → List (StripeState C) → ℕ → (StripeState C → Type 0) → Type 0
StandsThere {C} stripes i Is = (stripe : StripeState C) × (slice_get stripes i ≡ Some stripe) × Is stripe

module _ {C : Type 0} (setup : StripeSetup) (batches : List NumberedPieces) where
  -- the stripe is that of index i in a count of the given batches: it has this setup and the number i, and each batch
  -- in its journal is the given one with its number
  pub record IsOwn (i : ℕ) (stripe : StripeState C) : Type 0 where
    pub same_setup : stripe.setup ≡ setup
    pub same_number : stripe.number ≡ i
    pub given : All (IsGiven batches) stripe.journal

  -- the same, and the journal has exactly the given batches
  pub record IsWhole (i : ℕ) (stripe : StripeState C) : Type 0 where
    pub own : IsOwn i stripe
    pub all : HasAllNumbers batches stripe.journal

  -- why the stripe at this index is refused; this does not depend on memory
  abbrev pub IsStripeRefusal : ℕ → StripeState C → GatherFault → Type 0
  IsStripeRefusal i stripe (Foreign at) = (at ≡ i) × ¬ IsOwn i stripe
  IsStripeRefusal i stripe (Missing at n) = (at ≡ i) × IsOwn i stripe × IsLeastMissing batches stripe.journal n
  IsStripeRefusal i stripe Memory = ⊥

  -- the journals of the stripes from one index to before another have exactly the given batches
  abbrev pub AreWholeIn : List (StripeState C) → ℕ → ℕ → Type 0
  AreWholeIn stripes from to = (i : ℕ) → from ≤ i → i < to → StandsThere stripes i (IsWhole i)

  -- among the stripes from one index to before another, the first that isn't whole is refused for this reason
  pub record IsRefusedIn (stripes : List (StripeState C)) (from to : ℕ) (fault : GatherFault) : Type 0 where
    pub at : ℕ
    pub behind : from ≤ at
    pub before : at < to
    pub whole : AreWholeIn stripes from at
    pub refusal : StandsThere stripes at (λ stripe. IsStripeRefusal at stripe fault)

  -- the journals of the first n stripes have exactly the given batches
  abbrev pub AreWholeBefore : List (StripeState C) → ℕ → Type 0
  AreWholeBefore stripes n = (i : ℕ) → i < n → StandsThere stripes i (IsWhole i)

  -- the stripe at this index is foreign
  abbrev pub IsForeign : List (StripeState C) → ℕ → Type 0
  IsForeign stripes i = StandsThere stripes i (λ stripe. ¬ IsOwn i stripe)

  -- the stripe at this index is not foreign, and n is the least number that its journal lacks
  abbrev pub IsLacking : List (StripeState C) → ℕ → ℕ → Type 0
  IsLacking stripes i n = StandsThere stripes i (λ stripe. IsOwn i stripe × IsLeastMissing batches stripe.journal n)

  -- why the first stripe that is refused is refused; lack of memory is an error only if none is
  abbrev pub IsRefusal : List (StripeState C) → GatherFault → Type 0
  IsRefusal stripes (Foreign i) = AreWholeBefore stripes i × IsForeign stripes i
  IsRefusal stripes (Missing i n) = AreWholeBefore stripes i × IsLacking stripes i n
  IsRefusal stripes Memory = AreWholeBefore stripes (length stripes)

-- the rows are those words of the stripes from number n on that occur in the batches, each once, with its occurrences
pub record AreRowsFrom (setup : StripeSetup) (batches : List NumberedPieces) (n : ℕ) (rows : List Row) : Type 0 where
  pub once : IsDistinct nat_eq (map (λ row. row.word) rows)
  pub words : All (λ row. (row.word < word_count setup) × (n ≤ stripe_of setup row.word)) rows
  pub present : All (λ row. 1 ≤ row.count) rows
  pub counts_are : (word : ℕ) → word < word_count setup → n ≤ stripe_of setup word
      → count_of rows word ≡ word_occurrences setup batches word

-- the parts have the rows of stripe n in a count of the batches
pub record HasRowsOf {Z : Type 0} (setup : StripeSetup) (batches : List NumberedPieces) (n : ℕ)
    (parts : Vec LooseSeen Z) : Type 0 where
  pub parts_are : ArePartsOf setup.rule.k parts.items
  pub rows : List Row
  pub rows_are : AreStripeRows setup n batches rows
  pub same : IsPermutation rows (part_rows parts)

-- what was taken from these stripes: the part of each one, whichever stripe it is, of whichever count
pub record HavePartsOf {C P : Type 0} (IsPart : StripeSetup → List NumberedPieces → ℕ → P → Type 0)
    (stripes : List (StripeState C)) (parts : List P) : Type 0 where
  pub all : length parts ≡ length stripes
  pub each : (i : ℕ) (stripe : StripeState C) (part : P) → i < length stripes
      → (setup : StripeSetup) (batches : List NumberedPieces) (n : ℕ)
      → IsWhole setup batches n (slice_index_or stripes i stripe)
      → IsPart setup batches n (slice_index_or parts i part)

-- the parts of all stripes of a count of the batches, in order; the batches have at most 2 ^ 62 positions together
pub record AreAllParts {P : Type 0} (IsPart : StripeSetup → List NumberedPieces → ℕ → P → Type 0) (setup : StripeSetup)
    (batches : List NumberedPieces) (parts : List P) : Type 0 where
  pub few : position_sum setup.rule.k batches ≤ 2 ^ 62
  pub all : length parts ≡ stripe_count setup
  pub each : (i : ℕ) (part : P) → i < length parts → IsPart setup batches i (slice_index_or parts i part)

-- A round when a batch is cut up, and when its batches are taken out.
use Rattle.std.proofs.Common.{◌≡◌, ℕ, ◌+◌, ◌<◌, ◌≤◌, max, Bool, true, List, [], ◌∷◌, ◌++◌, length, get_or, count_by, Vec, Global, append-nil, ap, ap₂, sym, subst, ◌∙◌, arith, ⊎_elim}
use Rattle.std.specs.Bool.{MatchBool}
use Rattle.std.proofs.lemmas.Bool.{cases_lt}
use Rattle.std.proofs.lemmas.List.{length-append}
use Rattle.kc_word.specs.Cutting.{NumberedPieces}
use Rattle.kc_booking.specs.Setup.{StripeSetup, stripe_count}
use Rattle.kc_booking.specs.Cut.{keys_of, cut_at, batch_hash_values}
use Rattle.kc_booking.specs.Cuts.{round_at, all_keys_of}
use Rattle.kc_booking.specs.Round.{items_at, room_at, stripe_keys, with_an_eighth, IsRound}
use Rattle.kc_booking.specs.Stripe.{KnowsNumbers, NumbersDiffer}
use Rattle.kc_booking.proofs.KeptVecs.{items_at-get, room_at-past}
use Rattle.kc_booking.proofs.Parts.{falls_in}
use Rattle.kc_booking.proofs.RoundLemmas.{all_keys-more, sizes-more, batch-keys, batch-size}

-- the contents of the vectors are unchanged
pub IsRound-kept : {setup : StripeSetup} {batches : List NumberedPieces} {keys sizes newer lengths : List (Vec ℕ Global)} {known now : ℕ → Bool} {differ : Bool}
    → IsRound setup batches keys sizes known differ
    → length newer ≡ length keys → ((place : ℕ) → items_at newer place ≡ items_at keys place)
    → length lengths ≡ length sizes → ((place : ℕ) → items_at lengths place ≡ items_at sizes place)
    → ((n : ℕ) → now n ≡ known n) → IsRound setup batches newer lengths now differ
IsRound-kept is keys_all keys sizes_all sizes numbers = record {
  keys_all = keys_all ∙ is.keys_all;
  sizes_all = sizes_all ∙ is.sizes_all;
  keys_are = λ stripe below. keys stripe ∙ is.keys_are stripe below;
  sizes_are = λ stripe below. sizes stripe ∙ is.sizes_are stripe below;
  known_are = λ n. numbers n ∙ is.known_are n;
  differ_is = is.differ_is;
}

-- one more batch
pub record IsOneMore (setup : StripeSetup) (batch : NumberedPieces) (hash_values counts : List ℕ) (keys sizes newer lengths : List (Vec ℕ Global)) : Type 0 where
  pub hashed : hash_values ≡ batch_hash_values setup batch
  pub counted : (stripe : ℕ) → get_or counts stripe 0 ≡ count_by (falls_in setup.stripe_bits stripe) hash_values
  pub keys_all : length newer ≡ length keys
  pub keys_are : (stripe : ℕ) → stripe < stripe_count setup → items_at newer stripe ≡ items_at keys stripe ++ stripe_keys setup.stripe_bits stripe hash_values
  pub sizes_all : length lengths ≡ length sizes
  pub sizes_are : (stripe : ℕ) → stripe < length sizes → items_at lengths stripe ≡ items_at sizes stripe ++ get_or counts stripe 0 ∷ []

pub IsRound-more : {setup : StripeSetup} {batches : List NumberedPieces} {keys sizes newer lengths : List (Vec ℕ Global)} {known now : ℕ → Bool} {differ again : Bool}
    (batch : NumberedPieces) {hash_values counts : List ℕ} → IsRound setup batches keys sizes known differ
    → IsOneMore setup batch hash_values counts keys sizes newer lengths
    → KnowsNumbers now (batches ++ batch ∷ [])
    → MatchBool again (NumbersDiffer (batches ++ batch ∷ [])) (¬ NumbersDiffer (batches ++ batch ∷ []))
    → IsRound setup (batches ++ batch ∷ []) newer lengths now again
IsRound-more {setup} {batches} {keys} {sizes} {newer} {lengths} {known} {now} {differ} {again} batch {hash_values} {counts} is one knows differs = record {
  keys_all = one.keys_all ∙ is.keys_all;
  sizes_all = one.sizes_all ∙ is.sizes_all;
  keys_are = λ stripe below.
      one.keys_are stripe below
      ∙ ap₂ (λ (xs ys : List ℕ). xs ++ ys) (is.keys_are stripe below) (ap (stripe_keys setup.stripe_bits stripe) one.hashed ∙ batch-keys setup stripe batch)
      ∙ sym (all_keys-more setup stripe batches batch);
  sizes_are = λ stripe below.
      one.sizes_are stripe (omega (arith, is.sizes_all, below))
      ∙ ap₂ (λ (xs : List ℕ) (x : ℕ). xs ++ x ∷ []) (is.sizes_are stripe below)
      (one.counted stripe ∙ ap (count_by (falls_in setup.stripe_bits stripe)) one.hashed ∙ batch-size setup stripe batch)
      ∙ sym (sizes-more setup stripe batches batch);
  known_are = knows;
  differ_is = differs;
}

-- what is counted of a batch: its hash values, and how many fall in each stripe, as the program has them
pub record IsCounted (setup : StripeSetup) (batch seen : NumberedPieces) (bits : ℕ) (hash_values passed counts : List ℕ) : Type 0 where
  pub bits_are : bits ≡ setup.stripe_bits
  pub seen_is : seen ≡ batch
  pub hashed : hash_values ≡ batch_hash_values setup seen
  pub passed_are : passed ≡ hash_values
  pub counted : (stripe : ℕ) → get_or counts stripe 0 ≡ count_by (falls_in bits stripe) passed

-- how many keys its cut of a stripe has
pub IsCounted-size : {setup : StripeSetup} {batch seen : NumberedPieces} {bits : ℕ} {hash_values passed counts : List ℕ}
    → IsCounted setup batch seen bits hash_values passed counts → (stripe : ℕ) → get_or counts stripe 0 ≡ length (keys_of (cut_at setup batch stripe))
IsCounted-size {setup} {batch} {seen} {bits} {hash_values} {passed} {counts} is stripe =
    is.counted stripe
    ∙ ap₂ (λ (s : ℕ) (values : List ℕ). count_by (falls_in s stripe) values) is.bits_are (is.passed_are ∙ is.hashed ∙ ap (batch_hash_values setup) is.seen_is)
    ∙ batch-size setup stripe batch

-- the room that is made for them
pub cut-bounded : {setup : StripeSetup} {batches : List NumberedPieces} {keys sizes : List (Vec ℕ Global)} (newer : List (Vec ℕ Global)) {known : ℕ → Bool} {differ : Bool}
    {batch seen : NumberedPieces} {bits : ℕ} {hash_values passed counts : List ℕ} → IsRound setup batches keys sizes known differ
    → IsCounted setup batch seen bits hash_values passed counts → length newer ≡ length keys
    → ((place : ℕ) → room_at newer place ≤ max (room_at keys place) (with_an_eighth (length (items_at keys place) + get_or counts place 0)))
    → (stripe : ℕ) → room_at newer stripe ≤ max (room_at keys stripe) (with_an_eighth (length (all_keys_of (round_at setup (batches ++ batch ∷ []) stripe))))
cut-bounded {setup} {batches} {keys} {sizes} newer {known} {differ} {batch} {seen} {bits} {hash_values} {passed} {counts} is counted all bounded stripe = ⊎_elim
    (λ (below : stripe < stripe_count setup).
    let held = ap length (is.keys_are stripe below) in
    let more = ap length (all_keys-more setup stripe batches batch) in
    let both = length-append (all_keys_of (round_at setup batches stripe)) (keys_of (cut_at setup batch stripe)) in
    let together : length (items_at keys stripe) + get_or counts stripe 0 ≡ length (all_keys_of (round_at setup (batches ++ batch ∷ []) stripe)) =
    omega (arith, held, more, both, IsCounted-size counted stripe) in
    subst (λ (n : ℕ). room_at newer stripe ≤ max (room_at keys stripe) (with_an_eighth n)) together (bounded stripe))
    (λ (past : stripe_count setup ≤ stripe).
    let none = room_at-past newer stripe (omega (arith, past, all, is.keys_all)) in
    omega (arith, none))
    (cases_lt stripe (stripe_count setup))

-- the keys of a stripe in a round of one batch are those of its cut
pub one-cut : {setup seen : StripeSetup} {batch : NumberedPieces} {batches : List NumberedPieces} (parts : List (Vec ℕ Global)) {i : ℕ} {part : Vec ℕ Global}
    → seen ≡ setup → batches ≡ batch ∷ [] → length parts ≡ stripe_count seen
    → ((stripe : ℕ) → stripe < stripe_count seen → items_at parts stripe ≡ all_keys_of (round_at seen batches stripe))
    → (i < length parts) × (part ≡ get_or parts i part) → part.items ≡ keys_of (cut_at setup batch i)
one-cut {setup} {seen} {batch} {batches} parts {i} {part} same one all keys (within, is) =
    sym (items_at-get parts i part within is) ∙ keys i (omega (arith, within, all))
    ∙ ap₂ (λ (s : StripeSetup) (bs : List NumberedPieces). all_keys_of (round_at s bs i)) same one
    ∙ append-nil (keys_of (cut_at setup batch i))

-- none at all
pub IsRound-none : {setup : StripeSetup} {keys sizes : List (Vec ℕ Global)} {known : ℕ → Bool}
    → length keys ≡ stripe_count setup → ((place : ℕ) → items_at keys place ≡ [])
    → length sizes ≡ stripe_count setup → ((place : ℕ) → items_at sizes place ≡ [])
    → KnowsNumbers known [] → NumbersDiffer [] → IsRound setup [] keys sizes known true
IsRound-none keys_all keys sizes_all sizes known differ = record {
  keys_all = keys_all;
  sizes_all = sizes_all;
  keys_are = λ stripe below. keys stripe;
  sizes_are = λ stripe below. sizes stripe;
  known_are = known;
  differ_is = differ;
}

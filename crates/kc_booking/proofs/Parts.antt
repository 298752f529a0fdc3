-- Hash values divided among stripes, as the loops have them.
use Rattle.std.proofs.Common.{◌≡◌, ◌≢◌, ℕ, ◌+◌, ◌/◌, ◌%◌, ◌*◌, ◌-◌, ◌^◌, ◌<◌, ◌≤◌, Bool, true, false, cond, eqb, List, [], ◌∷◌, ◌++◌, length, get_or, set, map, filter, All, bit_and, Vec, Global, refl, ap, sym, ◌∙◌, arith, below_more}
use Rattle.std.specs.List.{range_with_len}
use Rattle.std.proofs.lemmas.Nat.{mod_below, pow_pos}
use Rattle.std.proofs.lemmas.List.{get_or-set_same, get_or-set_other, length-set, length-map, get_or-map, ext_get_or, map_push}
use Rattle.std.proofs.lemmas.List.FromFn.{length-map-range_with_len}
use Rattle.kc_lemmas.proofs.Lists.{range_more}
use Rattle.kc_kmer.specs.Rule.{CountingRule}
use Rattle.kc_booking.specs.Setup.{StripeSetup, HasBits, hash_value_of}
use Rattle.kc_booking.specs.Cut.{keys_among}
use Rattle.kc_booking.proofs.HashValues.{low-bits, stripes-few, word-fits}

-- ---- a function applied in place

-- the first i elements are mapped, the later ones are unchanged
pub record IsMappedTo (f : ℕ → ℕ) (old new : List ℕ) (i : ℕ) : Type 0 where
  pub long : length new ≡ length old
  pub done : (k : ℕ) → k < i → get_or new k 0 ≡ f (get_or old k 0)
  pub rest : (k : ℕ) → i ≤ k → get_or new k 0 ≡ get_or old k 0

pub IsMappedTo-none : (f : ℕ → ℕ) (old : List ℕ) → IsMappedTo f old old 0
IsMappedTo-none f old = record { long = refl; done = λ k h. absurd (omega arith); rest = λ k h. refl }

pub IsMappedTo-more : (f : ℕ → ℕ) (old new : List ℕ) (i y : ℕ) → i < length new → IsMappedTo f old new i → y ≡ f (get_or new i 0) → IsMappedTo f old (set new i y) (i + 1)
IsMappedTo-more f old new i y within so_far is = record {
  long = length-set new i y ∙ so_far.long;
  done = below_more _ i
      (λ k h. let apart : k ≢ i = omega arith in get_or-set_other new i k y 0 apart ∙ so_far.done k h)
      (get_or-set_same new i y 0 within ∙ is ∙ ap f (so_far.rest i (omega arith)));
  rest = λ k h. let apart : k ≢ i = omega arith in get_or-set_other new i k y 0 apart ∙ so_far.rest k (omega arith);
}

pub IsMappedTo-all : (f : ℕ → ℕ) (old new : List ℕ) (i : ℕ) → length new ≤ i → IsMappedTo f old new i → new ≡ map f old
IsMappedTo-all f old new i end so_far =
    ext_get_or 0 new (map f old) (so_far.long ∙ sym (length-map old f))
    (λ k h. so_far.done k (omega arith) ∙ sym (get_or-map f old k 0 0 (let e = so_far.long in omega arith)))

-- ---- the stripe of a hash value

-- the hash value's low bits
abbrev pub falls_in : ℕ → ℕ → ℕ → Bool
falls_in s stripe hash_value = eqb (hash_value % 2 ^ s) stripe

-- the hash value's stripe, as the program takes it
pub low-below : (x s : ℕ) → s ≤ 6 → bit_and x (1 * 2 ^ s % 2 ^ 64 - 1) < 2 ^ s
low-below x s few = rw (low-bits x s few) (mod_below x (2 ^ s) (pow_pos s))

pub low-below_64 : (x s : ℕ) → s ≤ 6 → bit_and x (1 * 2 ^ s % 2 ^ 64 - 1) < 64
low-below_64 x s few = let low = low-below x s few in let most = stripes-few s few in omega arith

-- ---- the keys of each stripe

-- the keys of the hash values that fall in a stripe
abbrev pub keys_in : ℕ → ℕ → List ℕ → List ℕ
keys_in s stripe hash_values = map (λ value. value / 2 ^ s) (filter (falls_in s stripe) hash_values)

abbrev pub Part : Type 0
Part = Vec ℕ Global

-- ---- the cuts of a batch

filter-map_after : (p : ℕ → Bool) (f : ℕ → ℕ) (xs : List ℕ) → filter p (map f xs) ≡ map f (filter (λ x. p (f x)) xs)
filter-map_after p f [] = refl
filter-map_after p f (x ∷ xs) =
    ap (λ ys. cond (p (f x)) (f x ∷ ys) ys) (filter-map_after p f xs) ∙ by (p (f x)) (filter (λ y. p (f y)) xs)
  where
    by : (b : Bool) (ys : List ℕ) → cond b (f x ∷ map f ys) (map f ys) ≡ map f (cond b (x ∷ ys) ys)
    by true ys = refl
    by false ys = refl

-- words that will be hashed, with the rule and the tables of the program
pub record HashCall (setup : StripeSetup) : Type 0 where
  pub rule : CountingRule
  pub words : List ℕ
  pub tables : List ℕ
  pub rule_is : rule ≡ setup.rule
  pub tables_are : tables ≡ setup.hash
  pub bits : HasBits setup.rule.k setup.hash setup.stripe_bits
  pub below : All (λ word. word < 4 ^ rule.k) words

-- the words are numbers of as many bits as the hash has
pub words-fit : (setup : StripeSetup) (call : HashCall setup) → All (λ word. word < 2 ^ length call.tables) call.words
words-fit setup call k d within =
    let small : get_or call.words k d < 4 ^ setup.rule.k = rw (← call.rule_is) (call.below k d within) in
    rw call.tables_are (word-fits setup.rule.k (length setup.hash) (get_or call.words k d) call.bits.word_bits small)

pub map-map : {X Y Z : Type 0} (f : Y → Z) (g : X → Y) (xs : List X) → map f (map g xs) ≡ map (λ x. f (g x)) xs
map-map f g [] = refl
map-map f g (x ∷ xs) = ap (λ ys. f (g x) ∷ ys) (map-map f g xs)

pub keys_in-hashed : (setup : StripeSetup) (stripe : ℕ) (words : List ℕ) → keys_in setup.stripe_bits stripe (map (hash_value_of setup) words) ≡ keys_among setup stripe words
keys_in-hashed setup stripe words =
    ap (map (λ value. value / 2 ^ setup.stripe_bits)) (filter-map_after (falls_in setup.stripe_bits stripe) (hash_value_of setup) words)
    ∙ map-map (λ value. value / 2 ^ setup.stripe_bits) (hash_value_of setup) (filter (λ word. falls_in setup.stripe_bits stripe (hash_value_of setup word)) words)

-- one more is made, for the next stripe
pub made-more : {X : Type 0} (f : ℕ → X) (made : List X) (i : ℕ) → made ≡ map f (range_with_len 0 i) → made ++ f i ∷ [] ≡ map f (range_with_len 0 (i + 1))
made-more f made i so_far = ap (λ xs. xs ++ f i ∷ []) so_far ∙ sym (ap (map f) (range_more i) ∙ map_push f (range_with_len 0 i) i)

pub length-made : {X : Type 0} (f : ℕ → X) (made : List X) (i : ℕ) → made ≡ map f (range_with_len 0 i) → length made ≡ i
length-made f made i is = ap length is ∙ length-map-range_with_len f 0 i

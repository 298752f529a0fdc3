-- Hash values of words: their low bits are the stripe, the rest is the key.
use Rattle.std.proofs.Common.{◌≡◌, ◌≢◌, ℕ, ◌+◌, ◌-◌, ◌*◌, ◌/◌, ◌%◌, ◌^◌, ◌<◌, ◌≤◌, List, length, ap, ap₂, sym, ◌∙◌, subst, arith, ⊎_elim, bit_and}
use Rattle.std.proofs.lemmas.Bool.{cases_lt}
use Rattle.std.proofs.lemmas.Nat.{pow-add, pow_below, one_shl, shl_whole, and_mask, shr_below, shr_split, mul-add-lt, div-mul-add, mod-mul-add}
use Rattle.std.proofs.Math.Pow.{pow_mono}
use Rattle.kc_hash.specs.Product.{product, AreInverse, IsOneToOne, IsOnto}
use Rattle.kc_kmer.proofs.Letters.{pow-four}
use Rattle.kc_kmer.specs.Rule.{CountingRule}
use Rattle.kc_booking.specs.Setup.{stripe_count, StripeSetup, IsSetup, HasBits, key_bits, StandsAt, DividesWords}

-- ---- the bits of words

-- a word is a number of as many bits as the hash has
pub word-fits : (k n x : ℕ) → n ≡ 2 * k → x < 4 ^ k → x < 2 ^ n
word-fits k n x wide below = subst (λ m. x < m) (pow-four k ∙ ap (λ m. 2 ^ m) (sym wide)) below

pub word-below : (k n x : ℕ) → n ≡ 2 * k → x < 2 ^ n → x < 4 ^ k
word-below k n x wide below = subst (λ m. x < m) (ap (λ m. 2 ^ m) wide ∙ sym (pow-four k)) below

-- the low bits, as the hash value takes them
pub low-bits : (x s : ℕ) → s ≤ 6 → bit_and x (1 * 2 ^ s % 2 ^ 64 - 1) ≡ x % 2 ^ s
low-bits x s few = ap (λ m. bit_and x (m - 1)) (one_shl s 64 (omega arith)) ∙ and_mask x s

-- the bits above them
pub high-bits : (k s n x : ℕ) → n ≡ 2 * k → s ≤ 2 * k → x < 2 ^ n → x / 2 ^ s < 2 ^ (2 * k - s)
high-bits k s n x wide few below =
    let whole : n ≡ 2 * k - s + s = omega arith in
    shr_below x (2 * k - s) s (subst (λ m. x < 2 ^ m) whole below)

pub stripes-shifted : (s : ℕ) → s ≤ 6 → 1 * 2 ^ s % 2 ^ 32 ≡ 2 ^ s
stripes-shifted s few = one_shl s 32 (omega arith)

pub stripes-few : (s : ℕ) → s ≤ 6 → 2 ^ s ≤ 64
stripes-few s few = pow_mono {i = s} {j = 6} few

-- ---- when there is a setup

-- the power of two below a power of two and above its half is that one
same_power : (s b : ℕ) → 2 ^ b ≤ 2 ^ s → 2 ^ s < 2 * 2 ^ b → b ≡ s
same_power s b low high =
    ⊎_elim (λ (less : s < b). absurd (let past = pow_below s b less in omega arith))
    (λ (most : b ≤ s).
    ⊎_elim (λ (more : b < s).
    absurd (let past : 2 ^ (b + 1) ≤ 2 ^ s = pow_mono {i = b + 1} {j = s} (omega arith) in
    let twice : 2 ^ (b + 1) ≡ 2 ^ b * 2 = pow-add 2 b 1 in
    omega arith))
    (λ (least : s ≤ b). omega arith) (cases_lt b s)) (cases_lt s b)

-- the logarithm of at most 64 stripes
pub few_stripe_bits : (stripes b : ℕ) → stripes ≤ 64 → 2 ^ b ≤ stripes → b ≤ 6
few_stripe_bits stripes b few low =
    ⊎_elim (λ (more : 6 < b). absurd (let past = pow_below 6 b more in omega arith)) (λ most. most) (cases_lt 6 b)

-- what is known of the arguments if they are looked at: the hash's bits n, the bits w of a word, and the logarithm b of
-- the number of stripes
pub record IsLookedAt (rule : CountingRule) (hash : List ℕ) (stripes n w b : ℕ) : Type 0 where
  pub hash_bits : n ≡ length hash
  pub word_bits : w ≡ 2 * rule.k
  pub at_most : stripes ≤ 64
  pub low : 2 ^ b ≤ stripes
  pub high : stripes < 2 * 2 ^ b

pub no_setup-hash : (rule : CountingRule) (hash : List ℕ) (stripes n w b : ℕ) → IsLookedAt rule hash stripes n w b → n ≢ w → ¬ IsSetup rule hash stripes
no_setup-hash rule hash stripes n w b seen apart is = apart (seen.hash_bits ∙ is.word_bits ∙ sym seen.word_bits)

log-shifted : (rule : CountingRule) (hash : List ℕ) (stripes n w b : ℕ) → IsLookedAt rule hash stripes n w b → 1 * 2 ^ b % 2 ^ 32 ≡ 2 ^ b
log-shifted rule hash stripes n w b seen = stripes-shifted b (few_stripe_bits stripes b seen.at_most seen.low)

pub no_setup-power : (rule : CountingRule) (hash : List ℕ) (stripes n w b : ℕ) → IsLookedAt rule hash stripes n w b → stripes ≢ 1 * 2 ^ b % 2 ^ 32 → ¬ IsSetup rule hash stripes
no_setup-power rule hash stripes n w b seen apart is =
    let s = is.power.0 in
    let same : b ≡ s = same_power s b (subst (λ m. 2 ^ b ≤ m) is.power.1 seen.low) (subst (λ m. m < 2 * 2 ^ b) is.power.1 seen.high) in
    apart (is.power.1 ∙ ap (λ m. 2 ^ m) (sym same) ∙ sym (log-shifted rule hash stripes n w b seen))

pub no_setup-few : (rule : CountingRule) (hash : List ℕ) (stripes n w b : ℕ) → IsLookedAt rule hash stripes n w b → w < b → ¬ IsSetup rule hash stripes
no_setup-few rule hash stripes n w b seen more is =
    let past = pow_below w b more in
    let words : 4 ^ rule.k ≡ 2 ^ w = pow-four rule.k ∙ ap (λ m. 2 ^ m) (sym seen.word_bits) in
    let few = is.few in
    let low = seen.low in
    omega arith

-- what is found of them if there is a setup
pub record IsFoundRight (stripes n w b : ℕ) : Type 0 where
  pub whole : n ≡ w
  pub power : stripes ≡ 1 * 2 ^ b % 2 ^ 32
  pub few : b ≤ w

pub is_setup : (rule : CountingRule) (hash : List ℕ) (stripes n w b : ℕ) → IsLookedAt rule hash stripes n w b → IsFoundRight stripes n w b → IsSetup rule hash stripes
is_setup rule hash stripes n w b seen right =
    let same : stripes ≡ 2 ^ b = right.power ∙ log-shifted rule hash stripes n w b seen in
    let words : 4 ^ rule.k ≡ 2 ^ w = pow-four rule.k ∙ ap (λ m. 2 ^ m) (sym seen.word_bits) in
    let most : 2 ^ b ≤ 2 ^ w = pow_mono {i = b} {j = w} right.few in
    record { word_bits = sym seen.hash_bits ∙ right.whole ∙ seen.word_bits; power = (b, same); at_most = seen.at_most; few = omega arith }

-- ---- the hash value of a stripe and a key

pub hash_value-shifted : (k s key : ℕ) → 2 * k ≤ 62 → s ≤ 2 * k → key < 2 ^ (2 * k - s) → key * 2 ^ s % 2 ^ 64 ≡ key * 2 ^ s
hash_value-shifted k s key fits few high = shl_whole key (2 * k - s) s 64 high (omega arith)

pub hash_value-joined : (k s stripe key : ℕ) → s ≤ 2 * k → stripe < 2 ^ s → key < 2 ^ (2 * k - s) → key * 2 ^ s + stripe < 2 ^ (2 * k)
hash_value-joined k s stripe key few low high =
    let whole : 2 ^ (2 * k - s + s) ≡ 2 ^ (2 * k - s) * 2 ^ s = pow-add 2 (2 * k - s) s in
    let same : 2 * k - s + s ≡ 2 * k = omega arith in
    let placed : key * 2 ^ s + stripe < 2 ^ s * 2 ^ (2 * k - s) = mul-add-lt key (2 ^ s) stripe (2 ^ (2 * k - s)) high low in
    subst (λ m. key * 2 ^ s + stripe < 2 ^ m) same (omega arith)

-- if the word of a stripe and a key is asked for: both are small enough
pub record IsAskedFor (setup : StripeSetup) (stripe key : ℕ) : Type 0 where
  pub bits : HasBits setup.rule.k setup.hash setup.stripe_bits
  pub stripe_fits : stripe < 2 ^ setup.stripe_bits
  pub key_fits : key < 2 ^ key_bits setup

pub asked_for : (setup seen : StripeSetup) (stripe key : ℕ) → setup ≡ seen → HasBits setup.rule.k setup.hash setup.stripe_bits
    → stripe < 2 ^ seen.stripe_bits → key < 2 ^ key_bits seen → IsAskedFor setup stripe key
asked_for setup seen stripe key same bits stripe_fits key_fits = record {
  bits = bits;
  stripe_fits = rw same stripe_fits;
  key_fits = rw same key_fits;
}

-- the hash value, as the program puts it together
abbrev pub hash_value_at : StripeSetup → ℕ → ℕ → ℕ
hash_value_at setup stripe key = key * 2 ^ setup.stripe_bits % 2 ^ 64 + stripe

pub hash_value_at-whole : (setup : StripeSetup) (stripe key : ℕ) → IsAskedFor setup stripe key → hash_value_at setup stripe key ≡ key * 2 ^ setup.stripe_bits + stripe
hash_value_at-whole setup stripe key asked =
    ap (λ m. m + stripe) (hash_value-shifted setup.rule.k setup.stripe_bits key asked.bits.at_most asked.bits.stripe_bits_few asked.key_fits)

pub hash_value_at-fits : (setup : StripeSetup) (stripe key : ℕ) → IsAskedFor setup stripe key → hash_value_at setup stripe key < 2 ^ length setup.hash
hash_value_at-fits setup stripe key asked =
    let bits = asked.bits in
    rw (hash_value_at-whole setup stripe key asked, bits.word_bits)
    (hash_value-joined setup.rule.k setup.stripe_bits stripe key bits.stripe_bits_few asked.stripe_fits asked.key_fits)

pub hash_value_at-fits_64 : (setup : StripeSetup) (stripe key : ℕ) → IsAskedFor setup stripe key → hash_value_at setup stripe key < 2 ^ 64
hash_value_at-fits_64 setup stripe key asked =
    let fits = hash_value_at-fits setup stripe key asked in
    let narrow : 2 ^ length setup.hash ≤ 2 ^ 62 = pow_mono {i = length setup.hash} {j = 62} (rw asked.bits.word_bits asked.bits.at_most) in
    omega arith

-- a word that has the hash value has the stripe and the key, and the other way round
pub StandsAt-hashed : (setup : StripeSetup) (stripe key word : ℕ) → IsAskedFor setup stripe key → word < 2 ^ length setup.hash
    → product setup.hash word ≡ hash_value_at setup stripe key → StandsAt setup stripe key word
StandsAt-hashed setup stripe key word asked below hashed =
    let whole : product setup.hash word ≡ key * 2 ^ setup.stripe_bits + stripe = hashed ∙ hash_value_at-whole setup stripe key asked in
    record {
      is_word = word-below setup.rule.k (length setup.hash) word asked.bits.word_bits below;
      has_stripe = ap (λ x. x % 2 ^ setup.stripe_bits) whole ∙ mod-mul-add key (2 ^ setup.stripe_bits) stripe asked.stripe_fits;
      has_key = ap (λ x. x / 2 ^ setup.stripe_bits) whole ∙ div-mul-add key (2 ^ setup.stripe_bits) stripe asked.stripe_fits;
    }

pub product-StandsAt : (setup : StripeSetup) (stripe key word : ℕ) → IsAskedFor setup stripe key → StandsAt setup stripe key word
    → product setup.hash word ≡ hash_value_at setup stripe key
product-StandsAt setup stripe key word asked at =
    sym (shr_split (product setup.hash word) setup.stripe_bits)
    ∙ ap₂ (λ high low. high * 2 ^ setup.stripe_bits + low) at.has_key at.has_stripe
    ∙ sym (hash_value_at-whole setup stripe key asked)

pub word-StandsAt : (setup : StripeSetup) (stripe key word : ℕ) → HasBits setup.rule.k setup.hash setup.stripe_bits → StandsAt setup stripe key word → word < 2 ^ length setup.hash
word-StandsAt setup stripe key word bits at = word-fits setup.rule.k (length setup.hash) word bits.word_bits at.is_word

-- ---- one place for each word, and one word for each place

pub divides : (setup : StripeSetup) → HasBits setup.rule.k setup.hash setup.stripe_bits
    → ((x : ℕ) → x < 2 ^ length setup.hash → product setup.hash x < 2 ^ length setup.hash) → IsOneToOne setup.hash → IsOnto setup.hash → DividesWords setup
divides setup bits stays one onto = record {
  fits = λ word below.
      high-bits setup.rule.k setup.stripe_bits (length setup.hash) (product setup.hash word) bits.word_bits bits.stripe_bits_few
      (stays word (word-fits setup.rule.k (length setup.hash) word bits.word_bits below));
  found = λ stripe key stripe_fits key_fits.
      let asked : IsAskedFor setup stripe key = record { bits = bits; stripe_fits = stripe_fits; key_fits = key_fits } in
      let (word, below, hashed) = onto (hash_value_at setup stripe key) (hash_value_at-fits setup stripe key asked) in
      (word, StandsAt-hashed setup stripe key word asked below hashed);
  only = λ stripe key word other at also.
      one word other (word-StandsAt setup stripe key word bits at) (word-StandsAt setup stripe key other bits also)
      (sym (shr_split (product setup.hash word) setup.stripe_bits)
      ∙ ap₂ (λ high low. high * 2 ^ setup.stripe_bits + low) (at.has_key ∙ sym also.has_key) (at.has_stripe ∙ sym also.has_stripe)
      ∙ shr_split (product setup.hash other) setup.stripe_bits);
}

-- what the inverse of the hash gives back for the hash value of a stripe and a key is the word that has them
pub StandsAt-undone : (setup : StripeSetup) (inverse : List ℕ) (stripe key : ℕ) → HasBits setup.rule.k setup.hash setup.stripe_bits → AreInverse setup.hash inverse
    → stripe < stripe_count setup → key < 2 ^ key_bits setup → StandsAt setup stripe key (product inverse (key * stripe_count setup + stripe))
StandsAt-undone setup inverse stripe key bits inverts stripe_fits key_fits =
    let asked : IsAskedFor setup stripe key = record { bits = bits; stripe_fits = stripe_fits; key_fits = key_fits } in
    let whole = hash_value_at-whole setup stripe key asked in
    let fits = hash_value_at-fits setup stripe key asked in
    subst (λ hash_value. StandsAt setup stripe key (product inverse hash_value)) whole
    (StandsAt-hashed setup stripe key (product inverse (hash_value_at setup stripe key)) asked
    (inverts.stays_back (hash_value_at setup stripe key) fits)
    (inverts.undone (hash_value_at setup stripe key) (rw inverts.same_bits fits)))

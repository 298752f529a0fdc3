-- How the words of a count are divided among stripes.
-- Source: the bits of a k-mer times an invertible matrix, Marçais and Kingsford 2011; the canonical form is that of
-- Jellyfish's option -C; the stripes are this project's.
use Rattle.std.specs.Prelude.{◌≡◌, ℕ, ◌-◌, ◌*◌, ◌/◌, ◌%◌, ◌^◌, ◌<◌, ◌≤◌, ◌==◌, List, length, filter}
use Rattle.std.specs.List.{range_with_len}
use Rattle.kc_hash.specs.Product.{product}
use Rattle.kc_kmer.specs.Rule.{CountingRule}
use Rattle.kc_kmer.specs.Word.{text, number, form}

-- the rule of the count; the hash, as the columns of its matrix; and s, for 2 ^ s stripes
pub record StripeSetup : Type 0 where
  pub rule : CountingRule
  pub hash : List ℕ
  pub stripe_bits : ℕ

-- the hash takes words of k bases, with two bits a base; the number of stripes is a power of two, at most 64 and at
-- most the number of words
pub record IsSetup (rule : CountingRule) (hash : List ℕ) (stripes : ℕ) : Type 0 where
  pub word_bits : length hash ≡ 2 * rule.k
  pub power : (s : ℕ) × (stripes ≡ 2 ^ s)
  pub at_most : stripes ≤ 64
  pub few : stripes ≤ 4 ^ rule.k

-- the invariant of a setup: the hash takes words of k bases, and at most 6 bits of the hash value are the stripe
pub record HasBits (k : ℕ) (hash : List ℕ) (stripe_bits : ℕ) : Type 0 where
  pub word_bits : length hash ≡ 2 * k
  pub at_most : 2 * k ≤ 62
  pub stripe_bits_at_most : stripe_bits ≤ 6
  pub stripe_bits_few : stripe_bits ≤ 2 * k

module _ (setup : StripeSetup) where
  -- how many words there are
  abbrev pub word_count : ℕ
  word_count = 4 ^ setup.rule.k

  -- how many stripes there are
  abbrev pub stripe_count : ℕ
  stripe_count = 2 ^ setup.stripe_bits

  -- the hash value of a word: the matrix times its number
  abbrev pub hash_value_of : ℕ → ℕ
  hash_value_of word = product setup.hash word

  -- its stripe: the low s bits of the hash value
  abbrev pub stripe_of : ℕ → ℕ
  stripe_of word = hash_value_of word % 2 ^ setup.stripe_bits

  -- its key: the rest of the hash value
  abbrev pub key_of : ℕ → ℕ
  key_of word = hash_value_of word / 2 ^ setup.stripe_bits

  -- how many bits a key has
  abbrev pub key_bits : ℕ
  key_bits = 2 * setup.rule.k - setup.stripe_bits

  -- the words of a stripe
  abbrev pub stripe_words : ℕ → List ℕ
  stripe_words stripe = filter (λ word. stripe_of word == stripe) (range_with_len 0 word_count)

  -- the word has this stripe and this key
  pub record StandsAt (stripe key word : ℕ) : Type 0 where
    pub is_word : word < word_count
    pub has_stripe : stripe_of word ≡ stripe
    pub has_key : key_of word ≡ key

  -- each word has a stripe and a key, and each stripe and key have exactly one word
  pub record DividesWords : Type 0 where
    pub fits : (word : ℕ) → word < word_count → key_of word < 2 ^ key_bits
    pub found : (stripe key : ℕ) → stripe < stripe_count → key < 2 ^ key_bits → (word : ℕ) × StandsAt stripe key word
    pub only : (stripe key word other : ℕ) → StandsAt stripe key word → StandsAt stripe key other → word ≡ other

-- the form under which a word counts, as letters and as a number
abbrev pub form_text : StripeSetup → ℕ → List ℕ
form_text setup word = form setup.rule.both (text setup.rule.k word)

abbrev pub form_of : StripeSetup → ℕ → ℕ
form_of setup word = number (form_text setup word)

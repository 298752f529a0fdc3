-- The numbers that a generator draws, one by one.
use Rattle.std.proofs.Common.{◌≡◌, ℕ, zero, suc, ◌+◌, ◌%◌, ◌^◌, ◌<◌, length, get_or, add-one, refl, sym, ◌∙◌, ap, arith}
use Rattle.std.proofs.lemmas.List.{length-map, get_or-map}
use Rattle.rand_core.specs.Steps.{first_words}
use Rattle.rand_xoshiro.specs.SplitMix64.{mix_u64}
use Rattle.kc_hash.specs.Seeds.{seed_columns}

-- the state after so many numbers
pub state_after : (ℕ → ℕ × ℕ) → ℕ → ℕ → ℕ
state_after step zero s = s
state_after step (suc k) s = (step (state_after step k s)).1

state_after-next : (step : ℕ → ℕ × ℕ) (k s : ℕ) → state_after step k (step s).1 ≡ state_after step (suc k) s
unfolding state_after
state_after-next step zero s = refl
state_after-next step (suc k) s = ap (λ t. (step t).1) (state_after-next step k s)

pub state_starts : (step : ℕ → ℕ × ℕ) (s : ℕ) → state_after step 0 s ≡ s
unfolding state_after
state_starts step s = refl

pub state_more : (step : ℕ → ℕ × ℕ) (k s : ℕ) → state_after step (k + 1) s ≡ (step (state_after step k s)).1
unfolding state_after
state_more step k s = ap (λ j. state_after step j s) (add-one k)

length-first_words : (step : ℕ → ℕ × ℕ) (k s : ℕ) → length (first_words step k s) ≡ k
unfolding first_words
length-first_words step zero s = refl
length-first_words step (suc k) s = ap suc (length-first_words step k (step s).1)

get_or-first_words : (step : ℕ → ℕ × ℕ) (k i s : ℕ) → i < k → get_or (first_words step k s) i 0 ≡ (step (state_after step i s)).0
unfolding first_words
get_or-first_words step zero i s h = absurd (omega arith)
get_or-first_words step (suc k) zero s h = ap (λ t. (step t).0) (sym (state_starts step s))
get_or-first_words step (suc k) (suc i) s h =
    get_or-first_words step k i (step s).1 (omega arith) ∙ ap (λ t. (step t).0) (state_after-next step i s)

pub length-seed_columns : (bits seed : ℕ) → length (seed_columns bits seed) ≡ bits
unfolding seed_columns
length-seed_columns bits seed = length-map (first_words mix_u64 bits seed) (λ drawn. drawn % 2 ^ bits) ∙ length-first_words mix_u64 bits seed

pub get_or-seed_columns : (bits seed i : ℕ) → i < bits
    → get_or (seed_columns bits seed) i 0 ≡ (mix_u64 (state_after mix_u64 i seed)).0 % 2 ^ bits
unfolding seed_columns
get_or-seed_columns bits seed i h =
    get_or-map (λ drawn. drawn % 2 ^ bits) (first_words mix_u64 bits seed) i 0 0 (omega (arith, length-first_words mix_u64 bits seed))
    ∙ ap (λ drawn. drawn % 2 ^ bits) (get_or-first_words mix_u64 bits i seed h)

-- The columns so far, copied into an array of zeros.
use Rattle.std.proofs.Common.{◌≡◌, ◌≢◌, ℕ, ◌+◌, ◌<◌, ◌≤◌, ◌^◌, List, length, get_or, set, replicate, take, sym, ◌∙◌, below_more, arith}
use Rattle.std.proofs.lemmas.List.{get_or-set_same, get_or-set_other, length-set, length-replicate, length-take-le, take_all, ext_get_or, get_or-take}
use Rattle.kc_hash.specs.Matrix.{IsWidth, IsMatrix}
use Rattle.kc_hash.specs.Inversion.{zeros-get_or}

-- the first entries of the given columns are copied and have so many bits; zeros follow them
pub record CopiesFront (bits : ℕ) (columns kept : List ℕ) (index : ℕ) : Type 0 where
  pub full : length kept ≡ 62
  pub copied : (i : ℕ) → i < index → get_or kept i 0 ≡ get_or columns i 0
  pub below : (i : ℕ) → i < index → get_or columns i 0 < 2 ^ bits
  pub rest : (i : ℕ) → index ≤ i → get_or kept i 0 ≡ 0

pub copies_none : (bits : ℕ) (columns zeros : List ℕ) → zeros ≡ replicate 62 0 → CopiesFront bits columns zeros 0
copies_none bits columns zeros e = rw e (record {
  full = length-replicate {A = ℕ} 62 0;
  copied = λ i h. absurd (omega arith);
  below = λ i h. absurd (omega arith);
  rest = λ i h. zeros-get_or 62 i;
})

-- the entry to be copied next
pub record IsNext (bits : ℕ) (columns : List ℕ) (index entry : ℕ) : Type 0 where
  pub within : index < 62
  pub is : entry ≡ get_or columns index 0
  pub fits : entry < 2 ^ bits

pub copies_more : (bits : ℕ) (columns kept : List ℕ) (index entry : ℕ) → CopiesFront bits columns kept index → IsNext bits columns index entry
    → CopiesFront bits columns (set kept index entry) (index + 1)
copies_more bits columns kept index entry so_far next = record {
  full = length-set kept index entry ∙ so_far.full;
  copied = below_more _ index
      (λ i h. let ne : i ≢ index = omega arith in get_or-set_other kept index i entry 0 ne ∙ so_far.copied i h)
      (let inside : index < length kept = rw so_far.full next.within in get_or-set_same kept index entry 0 inside ∙ next.is);
  below = below_more _ index so_far.below (rw (← next.is) next.fits);
  rest = λ i h. let ne : i ≢ index = omega arith in get_or-set_other kept index i entry 0 ne ∙ so_far.rest i (omega arith);
}

pub copies_all : (bits : ℕ) (columns kept : List ℕ) (index : ℕ) → IsWidth bits → index ≡ bits → CopiesFront bits columns kept index → IsMatrix bits kept
copies_all bits columns kept index width end so_far = record {
  width = width;
  full = so_far.full;
  below = λ i h. rw (so_far.copied i (omega arith)) (so_far.below i (omega arith));
  rest = λ i h. so_far.rest i (omega arith);
}

pub copies-take : (bits : ℕ) (columns kept : List ℕ) (index : ℕ) → bits ≤ length columns → bits ≤ 62 → index ≡ bits → CopiesFront bits columns kept index
    → take bits kept ≡ take bits columns
copies-take bits columns kept index long fits end so_far =
    let kept_full : length kept ≡ 62 = so_far.full in
    let left : length (take bits kept) ≡ bits = length-take-le bits kept (omega arith) in
    let right : length (take bits columns) ≡ bits = length-take-le bits columns long in
    ext_get_or 0 (take bits kept) (take bits columns) (left ∙ sym right)
    (λ i h.
    let inner : i < bits = omega arith in
    let copied : get_or kept i 0 ≡ get_or columns i 0 = so_far.copied i (omega arith) in
    get_or-take bits kept i 0 inner ∙ copied ∙ sym (get_or-take bits columns i 0 inner))

-- the same if the list has these columns alone
pub copies_whole : (bits : ℕ) (columns kept : List ℕ) (index : ℕ) → length columns ≡ bits → bits ≤ 62 → index ≡ bits → CopiesFront bits columns kept index
    → take bits kept ≡ columns
copies_whole bits columns kept index long fits end so_far =
    copies-take bits columns kept index (omega arith) fits end so_far ∙ take_all bits columns (omega arith)

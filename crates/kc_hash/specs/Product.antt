-- A bit matrix of n columns is the list of its columns, each a number whose bits are the column's entries. It is
-- multiplied by a number of n bits (Marçais and Kingsford 2011: a k-mer's bits, as a vector, are multiplied by an
-- invertible matrix).
use Rattle.std.specs.Prelude.{◌≡◌, refl, ℕ, ◌<◌, ◌^◌, List, [], ◌∷◌, length, map, ◌==◌, slice_index, bit_xor}
use Rattle.std.specs.List.{filter, range_with_len}
use Rattle.std.specs.Int.{bit_at}

-- the positions of the set bits of x among the lowest n, in ascending order
abbrev pub set_bits : ℕ → ℕ → List ℕ
set_bits n x = filter (λ i. bit_at x i == 1) (range_with_len 0 n)

set_bits_row : set_bits 6 0b101100 ≡ 2 ∷ 3 ∷ 5 ∷ []
set_bits_row = refl

-- the xor of these numbers, 0 if there are none
abbrev pub xor_of : List ℕ → ℕ
xor_of [] = 0
xor_of (y ∷ ys) = bit_xor y (xor_of ys)

-- the matrix product: the xor of the columns at the set bits of x
unfoldable pub product : List ℕ → ℕ → ℕ
product columns x = xor_of (map (λ i. slice_index columns i) (set_bits (length columns) x))

product_rows : (product (1 ∷ 3 ∷ []) 1 ≡ 1) × (product (1 ∷ 3 ∷ []) 2 ≡ 3) × (product (1 ∷ 3 ∷ []) 3 ≡ 2)
unfolding product
product_rows = (refl, refl, refl)

-- a singular matrix
singular_row : product (1 ∷ 1 ∷ []) 3 ≡ 0
unfolding product
singular_row = refl

-- the identity matrix: column i has only bit i set
unfoldable pub identity : ℕ → List ℕ
identity n = map (λ i. 2 ^ i) (range_with_len 0 n)

identity_row : identity 4 ≡ 1 ∷ 2 ∷ 4 ∷ 8 ∷ []
unfolding identity
identity_row = refl

-- the second matrix undoes the product with the first
abbrev pub Undoes : List ℕ → List ℕ → Type 0
Undoes columns other = (x : ℕ) → x < 2 ^ length columns → product other (product columns x) ≡ x

-- the two matrices have equally many columns, their products stay below 2 ^ n, and each undoes the other
pub record AreInverse (columns other : List ℕ) : Type 0 where
  pub same_bits : length other ≡ length columns
  pub stays : (x : ℕ) → x < 2 ^ length columns → product columns x < 2 ^ length columns
  pub stays_back : (x : ℕ) → x < 2 ^ length columns → product other x < 2 ^ length columns
  pub undoes : Undoes columns other
  pub undone : Undoes other columns

-- a number below 2 ^ n, not 0, that the matrix maps to 0
pub record IsInKernel (columns : List ℕ) (x : ℕ) : Type 0 where
  pub positive : 0 < x
  pub within : x < 2 ^ length columns
  pub to_zero : product columns x ≡ 0

-- the matrix maps no number below 2 ^ n but 0 to 0
abbrev pub IsNonsingular : List ℕ → Type 0
IsNonsingular columns = (x : ℕ) → x < 2 ^ length columns → product columns x ≡ 0 → x ≡ 0

-- the products of numbers below 2 ^ n stay below it
abbrev pub StaysBelow : List ℕ → Type 0
StaysBelow columns = (x : ℕ) → x < 2 ^ length columns → product columns x < 2 ^ length columns

-- the matrix maps different numbers below 2 ^ n to different numbers
abbrev pub IsOneToOne : List ℕ → Type 0
IsOneToOne columns =
    (x y : ℕ) → x < 2 ^ length columns → y < 2 ^ length columns → product columns x ≡ product columns y → x ≡ y

-- each number below 2 ^ n is the product with a number below 2 ^ n
abbrev pub IsOnto : List ℕ → Type 0
IsOnto columns = (y : ℕ) → y < 2 ^ length columns → (x : ℕ) × (x < 2 ^ length columns) × (product columns x ≡ y)

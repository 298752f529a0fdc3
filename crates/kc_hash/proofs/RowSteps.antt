-- Row operations keep a reduction; if it ends at the identity, the other matrix is the inverse, and if it stops before,
-- there is a number in the kernel.
use Rattle.std.proofs.Common.{◌≡◌, ℕ, zero, suc, ◌+◌, ◌-◌, ◌*◌, ◌%◌, ◌^◌, ◌<◌, ◌≤◌, List, length, map, get_or, set, take, drop, ◌++◌, ◌/◌, below_more, ⊎_elim, refl, sym, ◌∙◌, ap, ap₂, subst, arith}
use Rattle.std.specs.Int.{bit_at, w64, trailing_zeros}
use Rattle.std.specs.Prelude.{bit_xor, bit_and}
use Rattle.std.specs.Int.Bits.{xor_self, xor_zero_r, xor_zero_l, xor_assoc, xor_shifted}
use Rattle.std.proofs.lemmas.Nat.{xor_comm, xor_lt, pow_pos, pow_below, shr-shr, shr_le}
use Rattle.std.proofs.lemmas.Nat.Bits.{bit_at_xor, bit_at-lt, bit_at-zero, bit_at-pow_same, bit_at-pow_other, bit_at_above, bit_at-trailing_zeros, shr_and_one}
use Rattle.std.proofs.lemmas.List.{length-map, get_or-map, take_all, drop_all, append-nil, get_or_past, get_or_default, length-append, length-take-le, length-drop}
use Rattle.std.proofs.lemmas.List.Edits.{map_over_more}
use Rattle.std.proofs.lemmas.Bool.{cases_lt}
use Rattle.std.proofs.Math.Nat.{zero-mul, one-mul, lt-div-mul-add}
use Rattle.std.proofs.Math.Pow.{pow_mono}
use Rattle.kc_hash.specs.Product.{product, identity, Undoes, AreInverse, IsInKernel, IsNonsingular, IsOneToOne}
use Rattle.kc_hash.specs.Hash.{IsHash}
use Rattle.kc_hash.specs.Matrix.{IsMatrix}
use Rattle.kc_hash.specs.Elimination.{row_added}
use Rattle.kc_hash.proofs.Linear.{IsLinear, xor_medial, two_bits, bit_below, product-zero, product-xor, product-below, product-map, product-pow, product-units, product-identity, length-identity}

-- The same row operations have made `reduced` of the matrix and `inverse` of the identity: `inverse` leads each product
-- with the matrix to that with `reduced`, and nothing is lost by it.
pub record IsReduction (columns reduced inverse : List ℕ) : Type 0 where
  pub reduced_bits : length reduced ≡ length columns
  pub inverse_bits : length inverse ≡ length columns
  pub follows : (x : ℕ) → x < 2 ^ length columns → product inverse (product columns x) ≡ product reduced x
  pub stays : (y : ℕ) → y < 2 ^ length columns → product inverse y < 2 ^ length columns
  pub lossless : (y : ℕ) → y < 2 ^ length columns → product inverse y ≡ 0 → y ≡ 0

-- the first columns have one bit each, in order
abbrev pub HasUnits : List ℕ → ℕ → Type 0
HasUnits columns count = (i : ℕ) → i < count → get_or columns i 0 ≡ 2 ^ i

-- how far the elimination has come
pub record Reduces (columns reduced inverse : List ℕ) (index : ℕ) : Type 0 where
  pub reduction : IsReduction columns reduced inverse
  pub units : HasUnits reduced index

row_added-linear : (row rows : ℕ) → IsLinear (row_added row rows)
row_added-linear row rows = record {
  zero_kept = ap (λ b. bit_xor 0 (b * rows)) (bit_at-zero row) ∙ ap (bit_xor 0) (zero-mul rows);
  xor_kept = λ a b.
      ap (bit_xor (bit_xor a b))
      (ap (λ c. c * rows) (bit_at_xor a b row) ∙ two_bits (bit_at a row) (bit_at b row) rows (bit_at-lt a row) (bit_at-lt b row))
      ∙ xor_medial a b (bit_at a row * rows) (bit_at b row * rows);
}

-- a bit that is not set in `rows` is not set in any multiple of it by a bit
bit_at-times : (b rows row : ℕ) → b < 2 → bit_at rows row ≡ 0 → bit_at (b * rows) row ≡ 0
bit_at-times zero rows row h e = ap (λ n. bit_at n row) (zero-mul rows) ∙ bit_at-zero row
bit_at-times (suc zero) rows row h e = ap (λ n. bit_at n row) (one-mul rows) ∙ e
bit_at-times (suc (suc b)) rows row h e = absurd (omega arith)

-- a row operation done twice is undone
row_added-twice : (row rows c : ℕ) → bit_at rows row ≡ 0 → row_added row rows (row_added row rows c) ≡ c
row_added-twice row rows c apart =
    let mask : ℕ = bit_at c row * rows in
    let small : bit_at c row < 2 = bit_at-lt c row in
    let unset : bit_at mask row ≡ 0 = bit_at-times (bit_at c row) rows row small apart in
    let same : bit_at (bit_xor c mask) row ≡ bit_at c row = bit_at_xor c mask row ∙ omega arith in
    ap (λ b. bit_xor (bit_xor c mask) (b * rows)) same
    ∙ xor_assoc c mask mask ∙ ap (bit_xor c) (xor_self mask) ∙ xor_zero_r c

row_added_below : (row rows column w : ℕ) → column < 2 ^ w → rows < 2 ^ w → row_added row rows column < 2 ^ w
row_added_below row rows column w h k =
    xor_lt w column (bit_at column row * rows) h (bit_below (bit_at column row) rows w (bit_at-lt column row) k)

pub reduction_starts : (columns : List ℕ) → ((i : ℕ) → i < length columns → get_or columns i 0 < 2 ^ length columns)
    → IsReduction columns columns (identity (length columns))
reduction_starts columns within = record {
  reduced_bits = refl;
  inverse_bits = length-identity (length columns);
  follows = λ x h. product-identity (length columns) (product columns x) (product-below columns (length columns) x within);
  stays = λ y h. rw (product-identity (length columns) y h) h;
  lossless = λ y h e. sym (product-identity (length columns) y h) ∙ e;
}

-- the same row operation on both matrices
pub reduction_more : (columns reduced inverse : List ℕ) (row rows : ℕ) → bit_at rows row ≡ 0 → rows < 2 ^ length reduced
    → IsReduction columns reduced inverse → IsReduction columns (map (row_added row rows) reduced) (map (row_added row rows) inverse)
reduction_more columns reduced inverse row rows apart within r =
    let linear : IsLinear (row_added row rows) = row_added-linear row rows in
    record {
      reduced_bits = length-map reduced (row_added row rows) ∙ r.reduced_bits;
      inverse_bits = length-map inverse (row_added row rows) ∙ r.inverse_bits;
      follows = λ x h.
          product-map (row_added row rows) linear inverse (product columns x)
          ∙ ap (row_added row rows) (r.follows x h)
          ∙ sym (product-map (row_added row rows) linear reduced x);
      stays = λ y h.
          rw (product-map (row_added row rows) linear inverse y)
          (row_added_below row rows (product inverse y) (length columns) (r.stays y h) (rw (← r.reduced_bits) within));
      lossless = λ y h e.
          r.lossless y h
          (sym (row_added-twice row rows (product inverse y) apart)
          ∙ ap (row_added row rows) (sym (product-map (row_added row rows) linear inverse y) ∙ e)
          ∙ linear.zero_kept);
    }

-- two products are equal only of equal numbers
same_from_products : (columns : List ℕ) (w a b : ℕ) → ((y : ℕ) → y < 2 ^ w → product columns y ≡ 0 → y ≡ 0)
    → a < 2 ^ w → b < 2 ^ w → product columns a ≡ product columns b → a ≡ b
same_from_products columns w a b lossless below_a below_b e =
    let none : bit_xor a b ≡ 0 =
    lossless (bit_xor a b) (xor_lt w a b below_a below_b)
    (product-xor columns a b ∙ ap (λ z. bit_xor z (product columns b)) e ∙ xor_self (product columns b)) in
    sym (xor_zero_r a) ∙ ap (bit_xor a) (sym (xor_self b)) ∙ sym (xor_assoc a b b) ∙ ap (λ z. bit_xor z b) none ∙ xor_zero_l b

-- the elimination has come to the identity
pub inverse_found : (columns reduced inverse : List ℕ) (count : ℕ) → IsReduction columns reduced inverse → HasUnits reduced count → count ≡ length columns
    → ((i : ℕ) → i < length columns → get_or columns i 0 < 2 ^ length columns)
    → AreInverse columns inverse
inverse_found columns reduced inverse count r units end within =
    let same : length inverse ≡ length columns = r.inverse_bits in
    let wide : length reduced ≡ length columns = r.reduced_bits in
    let stays : (x : ℕ) → x < 2 ^ length columns → product columns x < 2 ^ length columns = λ x h. product-below columns (length columns) x within in
    let undoes : (x : ℕ) → x < 2 ^ length columns → product inverse (product columns x) ≡ x =
    λ x h. r.follows x h ∙ product-units reduced (length columns) x (omega arith) (λ i lower. units i (omega arith)) h in
    record {
      same_bits = same;
      stays = stays;
      stays_back = r.stays;
      undoes = undoes;
      undone = λ y h.
          let inside : y < 2 ^ length columns = rw (← same) h in
          same_from_products inverse (length columns) (product columns (product inverse y)) y r.lossless
          (stays (product inverse y) (r.stays y inside)) inside
          (undoes (product inverse y) (r.stays y inside));
    }

-- the elimination stops at this column, whose bits are all below its own index
pub record IsStuck (columns reduced inverse : List ℕ) (index column : ℕ) : Type 0 where
  pub reduction : IsReduction columns reduced inverse
  pub units : HasUnits reduced index
  pub inner : index < length columns
  pub is : get_or reduced index 0 ≡ column
  pub low : column < 2 ^ index
  pub within : (i : ℕ) → i < length columns → get_or columns i 0 < 2 ^ length columns

-- a column whose bits are all at indexes of unit columns, with its own bit, is mapped to 0
pub kernel_found : (columns reduced inverse : List ℕ) (index column : ℕ) → IsStuck columns reduced inverse index column
    → IsInKernel columns (bit_xor column (2 ^ index))
kernel_found columns reduced inverse index column stuck =
    let r : IsReduction columns reduced inverse = stuck.reduction in
    let inner : index < length columns = stuck.inner in
    let low : column < 2 ^ index = stuck.low in
    let within : (i : ℕ) → i < length columns → get_or columns i 0 < 2 ^ length columns = stuck.within in
    let wide : length reduced ≡ length columns = r.reduced_bits in
    let x : ℕ = bit_xor column (2 ^ index) in
    let whole : bit_xor column (2 ^ index) ≡ 2 ^ index + column =
    xor_comm column (2 ^ index) ∙ ap (λ z. bit_xor z column) (sym (one-mul (2 ^ index))) ∙ xor_shifted 1 index column low
    ∙ ap (λ z. z + column) (one-mul (2 ^ index)) in
    let positive : 0 < 2 ^ index = pow_pos index in
    let up : 2 ^ index < 2 ^ length columns = pow_below index (length columns) inner in
    let below : bit_xor column (2 ^ index) < 2 ^ length columns =
    xor_lt (length columns) column (2 ^ index) (omega arith) up in
    let none : product reduced (bit_xor column (2 ^ index)) ≡ 0 =
    product-xor reduced column (2 ^ index)
    ∙ ap₂ bit_xor (product-units reduced index column (omega arith) stuck.units low)
    (product-pow reduced index (omega arith) ∙ stuck.is)
    ∙ xor_self column in
    record {
      positive = omega arith;
      within = below;
      to_zero = r.lossless (product columns (bit_xor column (2 ^ index)))
          (product-below columns (length columns) (bit_xor column (2 ^ index)) within)
          (r.follows (bit_xor column (2 ^ index)) below ∙ none);
    }

pub identity_inverse : (bits : ℕ) → AreInverse (identity bits) (identity bits)
identity_inverse bits =
    let wide : length (identity bits) ≡ bits = length-identity bits in
    let same : (x : ℕ) → x < 2 ^ length (identity bits) → product (identity bits) x ≡ x = λ x h. product-identity bits x (rw (← wide) h) in
    let stays : (x : ℕ) → x < 2 ^ length (identity bits) → product (identity bits) x < 2 ^ length (identity bits) = λ x h. rw (same x h) h in
    let undoes : Undoes (identity bits) (identity bits) = λ x h. ap (product (identity bits)) (same x h) ∙ same x h in
    record { same_bits = refl; stays = stays; stays_back = stays; undoes = undoes; undone = undoes }

-- the columns of the inverse are its products with the numbers with one bit
pub hash_made : (matrix inverse : List ℕ) → AreInverse matrix inverse → IsHash matrix inverse
hash_made matrix inverse both =
    let same : length inverse ≡ length matrix = both.same_bits in
    let column : (i : ℕ) → i < length matrix → product inverse (2 ^ i) ≡ get_or inverse i 0 =
    λ i h. product-pow inverse i (omega arith) in
    let below : (i : ℕ) → i < length matrix → 2 ^ i < 2 ^ length matrix = λ i h. pow_below i (length matrix) h in
    record {
      are_inverse = both;
      columns_below = λ i h. rw (← column i h) (both.stays_back (2 ^ i) (below i h));
      columns_undone = λ i h. ap (product matrix) (sym (column i h)) ∙ both.undone (2 ^ i) (rw same (below i h));
    }

pub one_to_one : (matrix inverse : List ℕ) → AreInverse matrix inverse → IsOneToOne matrix
one_to_one matrix inverse both x y h k e = sym (both.undoes x h) ∙ ap (product inverse) e ∙ both.undoes y k

-- a matrix with an inverse maps 0 alone to 0
pub nonsingular : (columns other : List ℕ) → Undoes columns other → IsNonsingular columns
nonsingular columns other undoes x h e = sym (undoes x h) ∙ ap (product other) e ∙ product-zero other

pub kernel_alone : (columns other : List ℕ) (x : ℕ) → IsInKernel columns x → Undoes columns other → ⊥
kernel_alone columns other x k undoes =
    let none : x ≡ 0 = nonsingular columns other undoes x k.within k.to_zero in
    let some : 0 < x = k.positive in
    omega arith

-- ---- the columns after one row operation

-- columns with one bit below the row stay
pub units_kept : (reduced : List ℕ) (count row rows : ℕ) → HasUnits reduced count → count ≤ row → count ≤ length reduced
    → HasUnits (map (row_added row rows) reduced) count
units_kept reduced count row rows units above wide i h =
    get_or-map (row_added row rows) reduced i 0 0 (omega arith)
    ∙ ap (row_added row rows) (units i h)
    ∙ ap (λ b. bit_xor (2 ^ i) (b * rows)) (bit_at-pow_other i row (λ e. omega arith))
    ∙ ap (bit_xor (2 ^ i)) (zero-mul rows)
    ∙ xor_zero_r (2 ^ i)

-- the row of a set bit, added to the row of `index`, sets the bit there
pub bit_made : (column index row : ℕ) → bit_at column row ≡ 1 → bit_at column index ≡ 0 → bit_at (row_added row (2 ^ index) column) index ≡ 1
bit_made column index row set unset =
    ap (λ b. bit_at (bit_xor column (b * 2 ^ index)) index) set
    ∙ ap (λ z. bit_at (bit_xor column z) index) (one-mul (2 ^ index))
    ∙ bit_at_xor column (2 ^ index) index
    ∙ ap₂ (λ a b. (a + b) % 2) unset (bit_at-pow_same index)

-- a column with the bit of its index becomes that bit alone
pub column_cleared : (column index : ℕ) → bit_at column index ≡ 1 → row_added index (bit_xor column (2 ^ index)) column ≡ 2 ^ index
column_cleared column index set =
    ap (λ b. bit_xor column (b * bit_xor column (2 ^ index))) set
    ∙ ap (bit_xor column) (one-mul (bit_xor column (2 ^ index)))
    ∙ sym (xor_assoc column column (2 ^ index))
    ∙ ap (λ z. bit_xor z (2 ^ index)) (xor_self column)
    ∙ xor_zero_l (2 ^ index)

pub others_apart : (column index : ℕ) → bit_at column index ≡ 1 → bit_at (bit_xor column (2 ^ index)) index ≡ 0
others_apart column index set = bit_at_xor column (2 ^ index) index ∙ ap₂ (λ a b. (a + b) % 2) set (bit_at-pow_same index)

-- the row of a set bit, added to the row of the index
pub pivot_set : (reduced : List ℕ) (index row : ℕ) → index < length reduced
    → bit_at (get_or reduced index 0) row ≡ 1 → bit_at (get_or reduced index 0) index ≡ 0
    → bit_at (get_or (map (row_added row (2 ^ index)) reduced) index 0) index ≡ 1
pivot_set reduced index row inner at_row at_place =
    ap (λ n. bit_at n index) (get_or-map (row_added row (2 ^ index)) reduced index 0 0 inner)
    ∙ bit_made (get_or reduced index 0) index row at_row at_place

-- the row of the index, added to those of the column's other bits
pub cleared_units : (reduced : List ℕ) (index column : ℕ) → HasUnits reduced index
    → index < length reduced → column ≡ get_or reduced index 0 → bit_at column index ≡ 1
    → HasUnits (map (row_added index (bit_xor column (2 ^ index))) reduced) (index + 1)
cleared_units reduced index column units inner is set =
    below_more _ index
    (units_kept reduced index index (bit_xor column (2 ^ index)) units (omega arith) (omega arith))
    (get_or-map (row_added index (bit_xor column (2 ^ index))) reduced index 0 0 inner
    ∙ ap (row_added index (bit_xor column (2 ^ index))) (sym is)
    ∙ column_cleared column index set)

-- ---- the row of the lowest set bit from a index on

-- a set bit is below the width
pub row_inside : (column bits row : ℕ) → column < 2 ^ bits → bit_at column row ≡ 1 → row < bits
row_inside column bits row below set =
    ⊎_elim (λ (h : row < bits). h)
    (λ (h : bits ≤ row). let none : bit_at column row ≡ 0 = bit_at_above column bits row below h in absurd (omega arith))
    (cases_lt row bits)

pub bit_at-upper : (n j k : ℕ) → bit_at n (j + k) ≡ bit_at (n / 2 ^ j) k
bit_at-upper n j k = ap (λ m. m % 2) (sym (shr-shr n j k))

-- the lowest row from `index` on in which a column has a bit
abbrev pub pivot_row : ℕ → ℕ → ℕ
pivot_row column index = index + trailing_zeros w64 (column / 2 ^ index)

upper_fits : (column bits index : ℕ) → column < 2 ^ bits → bits ≤ 62 → column / 2 ^ index < 2 ^ 64
upper_fits column bits index below few =
    let most : 2 ^ bits ≤ 2 ^ 62 = pow_mono few in
    let shifted : column / 2 ^ index ≤ column = shr_le column index in
    omega arith

pub pivot_row-set : (column bits index : ℕ) → column < 2 ^ bits → bits ≤ 62 → 0 < column / 2 ^ index
    → bit_at column (pivot_row column index) ≡ 1
pivot_row-set column bits index below few some =
    bit_at-upper column index (trailing_zeros w64 (column / 2 ^ index))
    ∙ (bit_at-trailing_zeros w64 (column / 2 ^ index) some (upper_fits column bits index below few)).1

pub pivot_row-lowest : (column bits index : ℕ) → column < 2 ^ bits → bits ≤ 62 → 0 < column / 2 ^ index
    → (i : ℕ) → index ≤ i → i < pivot_row column index → bit_at column i ≡ 0
pivot_row-lowest column bits index below few some i from before =
    let split : i ≡ index + (i - index) = omega arith in
    ap (bit_at column) split
    ∙ bit_at-upper column index (i - index)
    ∙ (bit_at-trailing_zeros w64 (column / 2 ^ index) some (upper_fits column bits index below few)).2 (i - index) (omega arith)

-- a column without a bit from the index on
pub low_column : (column index : ℕ) → column / 2 ^ index ≡ 0 → column < 2 ^ index
low_column column index no_upper =
    let step : column < column / 2 ^ index * 2 ^ index + 2 ^ index = lt-div-mul-add (pow_pos index) in
    let none : column / 2 ^ index * 2 ^ index ≡ 0 = ap (λ q. q * 2 ^ index) no_upper ∙ zero-mul (2 ^ index) in
    let below : column < 0 + 2 ^ index = subst (λ n. column < n + 2 ^ index) none step in
    omega (arith, below)

-- the row in which a column has its lowest bit from the index on
pub record HasPivot (columns reduced inverse : List ℕ) (index column : ℕ) : Type 0 where
  pub so_far : Reduces columns reduced inverse index
  pub inner : index < length reduced
  pub is : column ≡ get_or reduced index 0
  pub below : column < 2 ^ length reduced
  pub few : length reduced ≤ 62
  pub some : 0 < column / 2 ^ index

-- the columns before the index are units, and the bit of the index is set in its column
pub record IsPivoted (columns reduced inverse : List ℕ) (index : ℕ) : Type 0 where
  pub so_far : Reduces columns reduced inverse index
  pub set : bit_at (get_or reduced index 0) index ≡ 1

pub pivot_inside : (columns reduced inverse : List ℕ) (index column : ℕ) → HasPivot columns reduced inverse index column
    → pivot_row column index < length reduced
pivot_inside columns reduced inverse index column h =
    row_inside column (length reduced) (pivot_row column index) h.below
    (pivot_row-set column (length reduced) index h.below h.few h.some)

pub pivoted_as_is : (columns reduced inverse : List ℕ) (index column : ℕ) → HasPivot columns reduced inverse index column
    → index + trailing_zeros w64 (column / 2 ^ index) ≡ index → IsPivoted columns reduced inverse index
pivoted_as_is columns reduced inverse index column h here = record {
  so_far = h.so_far;
  set = ap (λ n. bit_at n index) (sym h.is) ∙ ap (bit_at column) (sym here)
      ∙ pivot_row-set column (length reduced) index h.below h.few h.some;
}

pub pivoted_by_row : (columns reduced inverse : List ℕ) (index column rows : ℕ) → HasPivot columns reduced inverse index column
    → rows ≡ 2 ^ index → (index + trailing_zeros w64 (column / 2 ^ index) ≡ index → ⊥)
    → IsPivoted columns (map (row_added (pivot_row column index) rows) reduced) (map (row_added (pivot_row column index) rows) inverse) index
pivoted_by_row columns reduced inverse index column rows h one apart =
    let row = pivot_row column index in
    let above : index < index + trailing_zeros w64 (column / 2 ^ index) = omega arith in
    let from : index ≤ index + trailing_zeros w64 (column / 2 ^ index) = omega arith in
    let inner : index < length reduced = h.inner in
    rw one
    (record {
      so_far = record {
        reduction = reduction_more columns reduced inverse row (2 ^ index) (bit_at-pow_other index row (λ e. omega arith))
            (pow_below index (length reduced) h.inner) h.so_far.reduction;
        units = units_kept reduced index row (2 ^ index) h.so_far.units from (omega arith);
      };
      set = pivot_set reduced index row h.inner
          (ap (λ n. bit_at n row) (sym h.is) ∙ pivot_row-set column (length reduced) index h.below h.few h.some)
          (ap (λ n. bit_at n index) (sym h.is)
          ∙ pivot_row-lowest column (length reduced) index h.below h.few h.some index (omega arith) above);
    })

pub pivoted-same : (columns reduced inverse : List ℕ) (index : ℕ) (made_reduced made_inverse : List ℕ)
    → made_reduced ≡ reduced → made_inverse ≡ inverse → IsPivoted columns reduced inverse index
    → IsPivoted columns made_reduced made_inverse index
pivoted-same columns reduced inverse index made_reduced made_inverse same_reduced same_inverse h =
    subst (λ r. IsPivoted columns r made_inverse index) (sym same_reduced)
    (subst (λ i. IsPivoted columns reduced i index) (sym same_inverse) h)

-- the column's other bits are cleared by the row of the index
pub column_reduced : (columns reduced inverse : List ℕ) (index column rows : ℕ) → IsPivoted columns reduced inverse index
    → index < length reduced → column ≡ get_or reduced index 0 → column < 2 ^ length reduced → rows ≡ bit_xor column (2 ^ index)
    → Reduces columns (map (row_added index rows) reduced) (map (row_added index rows) inverse) (index + 1)
column_reduced columns reduced inverse index column rows h inner is below rows_are =
    let set : bit_at column index ≡ 1 = ap (λ n. bit_at n index) is ∙ h.set in
    rw rows_are
    (record {
      reduction = reduction_more columns reduced inverse index (bit_xor column (2 ^ index)) (others_apart column index set)
          (xor_lt (length reduced) column (2 ^ index) below (pow_below index (length reduced) inner)) h.so_far.reduction;
      units = cleared_units reduced index column h.so_far.units inner is set;
    })

-- ---- the array of columns in a loop that adds the row

pub row_taken : (row rows column : ℕ) → bit_and (column / 2 ^ row) 1 ≡ 1 → bit_xor column rows ≡ row_added row rows column
row_taken row rows column set =
    ap (bit_xor column) (sym (ap (λ b. b * rows) (sym (shr_and_one column row) ∙ set) ∙ one-mul rows))

pub row_passed : (row rows column : ℕ) → (bit_and (column / 2 ^ row) 1 ≡ 1 → ⊥) → column ≡ row_added row rows column
row_passed row rows column unset =
    let small : bit_at column row < 2 = bit_at-lt column row in
    let other : bit_at column row ≡ 1 → ⊥ = λ e. unset (shr_and_one column row ∙ e) in
    let none : bit_at column row ≡ 0 = omega arith in
    sym (ap (λ b. bit_xor column (b * rows)) none ∙ ap (bit_xor column) (zero-mul rows) ∙ xor_zero_r column)

-- the row is added in the first i columns
pub record IsAdded (row rows : ℕ) (before now : List ℕ) (i : ℕ) : Type 0 where
  pub inside : i < length before
  pub so_far : now ≡ map (row_added row rows) (take i before) ++ drop i before

pub added_more : (row rows : ℕ) (before now : List ℕ) (i entry : ℕ) → IsAdded row rows before now i → entry ≡ row_added row rows (get_or now i 0)
    → set now i entry ≡ map (row_added row rows) (take (i + 1) before) ++ drop (i + 1) before
added_more row rows before now i entry added is =
    let inside : i < length before = added.inside in
    let wide : length now ≡ length before =
    ap length added.so_far ∙ length-append (map (row_added row rows) (take i before)) (drop i before)
    ∙ omega (arith, length-map (take i before) (row_added row rows), length-take-le i before (omega arith), length-drop i before) in
    let here : get_or now i 0 ≡ get_or now i (get_or now i 0) = get_or_default now i 0 (get_or now i 0) (omega arith) in
    ap (set now i) is ∙ map_over_more (row_added row rows) before now i (get_or now i 0) inside added.so_far here

pub added_all : (row rows : ℕ) (before now : List ℕ) (i : ℕ) → length before ≤ i
    → now ≡ map (row_added row rows) (take i before) ++ drop i before → now ≡ map (row_added row rows) before
added_all row rows before now i end so_far =
    so_far
    ∙ ap₂ (λ front back. map (row_added row rows) front ++ back) (take_all i before end) (drop_all i before end)
    ∙ append-nil (map (row_added row rows) before)

pub matrix_added : (bits row rows : ℕ) (columns : List ℕ) → IsMatrix bits columns → rows < 2 ^ bits → IsMatrix bits (map (row_added row rows) columns)
matrix_added bits row rows columns m within =
    let full : length columns ≡ 62 = m.full in
    let fits : bits ≤ 62 = m.width.at_most in
    let zero_kept : row_added row rows 0 ≡ 0 = (row_added-linear row rows).zero_kept in
    record {
      width = m.width;
      full = length-map columns (row_added row rows) ∙ m.full;
      below = λ i h.
          rw (get_or-map (row_added row rows) columns i 0 0 (omega arith))
          (row_added_below row rows (get_or columns i 0) bits (m.below i h) within);
      rest = λ i h. ⊎_elim
          (λ (inner : i < 62).
          get_or-map (row_added row rows) columns i 0 0 (omega arith) ∙ ap (row_added row rows) (m.rest i h) ∙ zero_kept)
          (λ (outer : 62 ≤ i).
          let past : length (map (row_added row rows) columns) ≤ i = omega (arith, length-map columns (row_added row rows)) in
          get_or_past (map (row_added row rows) columns) i 0 past)
          (cases_lt i 62);
    }

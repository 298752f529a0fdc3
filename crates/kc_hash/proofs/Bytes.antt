-- Products with one byte of a number at a time.
use Rattle.std.proofs.Common.{◌-◌, ◌≡◌, ℕ, ◌+◌, ◌*◌, ◌/◌, ◌%◌, ◌^◌, ◌<◌, ◌≤◌, List, [], length, get_or, set, add-zero, add_comm, sym, ◌∙◌, ap, ap₂, ⊎_elim, inl, inr, min, replicate, subst, arith}
use Rattle.std.specs.Prelude.{bit_xor, bit_and}
use Rattle.std.specs.Int.Bits.{xor_self, xor_zero_r, xor_assoc, xor_shifted}
use Rattle.std.proofs.lemmas.Bool.{cases_lt, cases_eq}
use Rattle.std.proofs.lemmas.Nat.{xor_comm, xor_block, pow_pos, pow-add, mod-pow-add, mod_below, and_mask}
use Rattle.std.proofs.lemmas.List.{get_or_past, get_or-set_same, get_or-set_other, get_or-replicate, length-set, length-replicate}
use Rattle.std.proofs.Math.Nat.{zero-mul, one-mul}
use Rattle.kc_hash.specs.Product.{product}
use Rattle.kc_hash.proofs.Linear.{product-zero, product-xor, product-pow, product-pow_past}

-- a column, or 0 past the last
product-pow_any : (columns : List ℕ) (k : ℕ) → product columns (2 ^ k) ≡ get_or columns k 0
product-pow_any columns k =
    ⊎_elim (λ (h : k < length columns). product-pow columns k h)
    (λ (h : length columns ≤ k). product-pow_past columns k h ∙ sym (get_or_past columns k 0 h))
    (cases_lt k (length columns))

xor-times : (a b k : ℕ) → bit_xor (a * 2 ^ k) (b * 2 ^ k) ≡ bit_xor a b * 2 ^ k
xor-times a b k =
    ap₂ bit_xor (sym (add-zero (a * 2 ^ k))) (sym (add-zero (b * 2 ^ k)))
    ∙ xor_block k a b 0 0 (pow_pos k) (pow_pos k)
    ∙ add-zero (bit_xor a b * 2 ^ k)

-- a number without its highest bit
without_top : (k n : ℕ) → n < 2 ^ k → bit_xor (2 ^ k + n) (2 ^ k) ≡ n
without_top k n below =
    let whole : 2 ^ k + n ≡ bit_xor (2 ^ k) n =
    ap (λ m. m + n) (sym (one-mul (2 ^ k))) ∙ sym (xor_shifted 1 k n below) ∙ ap (λ m. bit_xor m n) (one-mul (2 ^ k)) in
    ap (λ m. bit_xor m (2 ^ k)) (whole ∙ xor_comm (2 ^ k) n)
    ∙ xor_assoc n (2 ^ k) (2 ^ k) ∙ ap (bit_xor n) (xor_self (2 ^ k)) ∙ xor_zero_r n

-- one more bit, at a position of the number
pub product_bit_more : (columns : List ℕ) (n k m : ℕ)
    → product columns (n * 2 ^ m) ≡ bit_xor (product columns (bit_xor n (2 ^ k) * 2 ^ m)) (get_or columns (m + k) 0)
product_bit_more columns n k m =
    ap (λ b. product columns (b * 2 ^ m)) (sym (xor_assoc n (2 ^ k) (2 ^ k) ∙ ap (bit_xor n) (xor_self (2 ^ k)) ∙ xor_zero_r n))
    ∙ ap (product columns) (sym (xor-times (bit_xor n (2 ^ k)) (2 ^ k) m))
    ∙ product-xor columns (bit_xor n (2 ^ k) * 2 ^ m) (2 ^ k * 2 ^ m)
    ∙ ap (bit_xor (product columns (bit_xor n (2 ^ k) * 2 ^ m)))
    (ap (product columns) (sym (pow-add 2 k m) ∙ ap (λ j. 2 ^ j) (add_comm k m)) ∙ product-pow_any columns (m + k))

-- the table of a position, filled below `byte`
pub record FillsTable (columns : List ℕ) (position : ℕ) (table : List ℕ) (byte : ℕ) : Type 0 where
  pub filled : (b : ℕ) → b < byte → get_or table b 0 ≡ product columns (b * 2 ^ (8 * position))

-- so many of the first entries were copied after the first `width`, with the column added
pub record AddsColumn (old new : List ℕ) (width column count : ℕ) : Type 0 where
  pub lower : (i : ℕ) → i < width → get_or new i 0 ≡ get_or old i 0
  pub upper : (i : ℕ) → i < count → get_or new (width + i) 0 ≡ bit_xor (get_or old i 0) column

-- the width is 2 ^ bit, as far as the old table is filled; after it the column is added, whose number is the byte's bit
pub record IsDoubling (columns : List ℕ) (position bit : ℕ) (old new : List ℕ) (width column : ℕ) : Type 0 where
  pub so_far : FillsTable columns position old (2 ^ bit)
  pub wide : width ≡ 2 ^ bit
  pub is : column ≡ get_or columns (8 * position + bit) 0
  pub added : AddsColumn old new width column width

-- the table of a position, filled below twice the width by one more column
pub table_doubled : (columns : List ℕ) (position bit : ℕ) (old new : List ℕ) (width column : ℕ) → IsDoubling columns position bit old new width column
    → FillsTable columns position new (2 ^ (bit + 1))
table_doubled columns position bit old new width column d = record {
  filled = λ b h.
      let wide : width ≡ 2 ^ bit = d.wide in
      ⊎_elim
      (λ (low : b < 2 ^ bit). d.added.lower b (omega arith) ∙ d.so_far.filled b low)
      (λ (high : 2 ^ bit ≤ b).
      let twice : 2 ^ (bit + 1) ≡ 2 ^ bit * 2 = pow-add 2 bit 1 in
      let below : b - 2 ^ bit < 2 ^ bit = omega arith in
      let split : b ≡ 2 ^ bit + (b - 2 ^ bit) = omega arith in
      let at : b ≡ width + (b - 2 ^ bit) = omega arith in
      ap (λ i. get_or new i 0) at
      ∙ d.added.upper (b - 2 ^ bit) (omega arith)
      ∙ ap₂ bit_xor
      (d.so_far.filled (b - 2 ^ bit) below
      ∙ ap (λ m. product columns (m * 2 ^ (8 * position))) (sym (without_top bit (b - 2 ^ bit) below) ∙ ap (λ m. bit_xor m (2 ^ bit)) (sym split)))
      d.is
      ∙ sym (product_bit_more columns b bit (8 * position)))
      (cases_lt b (2 ^ bit));
}

-- the tables, with the columns before the bit: those of earlier positions are whole, and those of later ones have the
-- entry of 0
pub record FillsTables (columns : List ℕ) (tables : List (List ℕ)) (bit : ℕ) : Type 0 where
  pub all : length tables ≡ 8
  pub each : (position : ℕ) → position < 8 → FillsTable columns position (get_or tables position []) (2 ^ min 8 (bit - 8 * position))

pub tables_first : (columns : List ℕ) (tables : List (List ℕ)) → tables ≡ replicate 8 (replicate 256 0) → FillsTables columns tables 0
tables_first columns tables zeros = record {
  all = ap length zeros ∙ length-replicate 8 (replicate {A = ℕ} 256 0);
  each = λ position h.
      let none : min 8 (0 - 8 * position) ≡ 0 = omega arith in
      let table : get_or tables position [] ≡ replicate 256 0 =
      ap (λ (ts : List (List ℕ)). get_or ts position []) zeros ∙ get_or-replicate 8 position (replicate {A = ℕ} 256 0) [] h in
      rw (none, table)
      (record {
        filled = λ b small.
            let first : b ≡ 0 = omega arith in
            rw first
            (get_or-replicate {A = ℕ} 256 0 0 0 (omega arith)
            ∙ sym (ap (product columns) (zero-mul (2 ^ (8 * position))) ∙ product-zero columns));
      });
}

-- the column of the bit is added to the table of its position
pub tables_more : (columns : List ℕ) (tables : List (List ℕ)) (bit place : ℕ) (new : List ℕ) (width column : ℕ) → FillsTables columns tables bit
    → bit < 64 → place ≡ bit / 8
    → IsDoubling columns (bit / 8) (bit % 8) (get_or tables (bit / 8) []) new width column
    → FillsTables columns (set tables place new) (bit + 1)
tables_more columns tables bit place new width column so_far small at doubling = record {
  all = length-set tables place new ∙ so_far.all;
  each = λ position h.
      let all : length tables ≡ 8 = so_far.all in
      elim (cases_eq position (bit / 8)) [
        | inl here ↦
            let next : min 8 (bit + 1 - 8 * (bit / 8)) ≡ bit % 8 + 1 = omega arith in
            rw (here, next, at)
            (subst (λ table. FillsTable columns (bit / 8) table (2 ^ (bit % 8 + 1)))
            (sym (get_or-set_same tables (bit / 8) new [] (omega arith)))
            (table_doubled columns (bit / 8) (bit % 8) (get_or tables (bit / 8) []) new width column doubling))
        | inr apart ↦
            let same : min 8 (bit + 1 - 8 * position) ≡ min 8 (bit - 8 * position) = omega arith in
            rw (same, at)
            (subst (λ table. FillsTable columns position table (2 ^ min 8 (bit - 8 * position)))
            (sym (get_or-set_other tables (bit / 8) position new [] apart)) (so_far.each position h))
      ];
}

-- one more byte of the number
pub product_byte_more : (columns : List ℕ) (x position : ℕ)
    → bit_xor (product columns (x % 2 ^ (8 * position))) (product columns (bit_and (x / 2 ^ (8 * position)) 255 * 2 ^ (8 * position)))
    ≡ product columns (x % 2 ^ (8 * (position + 1)))
product_byte_more columns x position =
    let at : ℕ = 8 * position in
    let byte : bit_and (x / 2 ^ (8 * position)) 255 ≡ x / 2 ^ (8 * position) % 2 ^ 8 = and_mask (x / 2 ^ (8 * position)) 8 in
    let next : 8 + 8 * position ≡ 8 * (position + 1) = omega arith in
    sym (product-xor columns (x % 2 ^ (8 * position)) (bit_and (x / 2 ^ (8 * position)) 255 * 2 ^ (8 * position)))
    ∙ ap (product columns)
    (xor_comm (x % 2 ^ (8 * position)) (bit_and (x / 2 ^ (8 * position)) 255 * 2 ^ (8 * position))
    ∙ xor_shifted (bit_and (x / 2 ^ (8 * position)) 255) (8 * position) (x % 2 ^ (8 * position)) (mod_below x (2 ^ (8 * position)) (pow_pos (8 * position)))
    ∙ ap (λ b. b * 2 ^ (8 * position) + x % 2 ^ (8 * position)) byte
    ∙ sym (mod-pow-add x 8 (8 * position))
    ∙ ap (λ k. x % 2 ^ k) next)

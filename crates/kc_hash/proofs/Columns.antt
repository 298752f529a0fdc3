-- The columns that are seen of a matrix.
use Rattle.std.proofs.Common.{◌≡◌, ℕ, ◌<◌, ◌≤◌, ◌^◌, List, length, take, get_or, sym, ◌∙◌, ap, ⊎_elim, arith}
use Rattle.std.proofs.lemmas.List.{get_or-take, get_or_past}
use Rattle.std.proofs.lemmas.Bool.{cases_lt}
use Rattle.kc_hash.specs.Inversion.{columns-length}
use Rattle.kc_hash.specs.Matrix.{IsMatrix}

-- each column of a matrix has as many bits as there are columns
pub columns_below : (bits : ℕ) (columns seen : List ℕ) → IsMatrix bits columns → take bits columns ≡ seen
    → (i : ℕ) → i < length seen → get_or seen i 0 < 2 ^ length seen
columns_below bits columns seen m e i h =
    let wide : length seen ≡ bits = ap length (sym e) ∙ columns-length bits columns m in
    let inner : i < bits = omega arith in
    let there : get_or seen i 0 ≡ get_or columns i 0 = ap (λ l. get_or l i 0) (sym e) ∙ get_or-take bits columns i 0 inner in
    rw (there, wide) (m.below i inner)

-- what is known of a column that is read of a matrix
pub record IsColumn (seen : List ℕ) (index column : ℕ) : Type 0 where
  pub inner : index < length seen
  pub is : column ≡ get_or seen index 0
  pub below : column < 2 ^ length seen
  pub few : length seen ≤ 62

pub seen_bits : (bits : ℕ) (columns seen : List ℕ) → IsMatrix bits columns → take bits columns ≡ seen → bits ≡ length seen
seen_bits bits columns seen m e = sym (ap length (sym e) ∙ columns-length bits columns m)

pub column_read : (bits : ℕ) (columns seen : List ℕ) (index : ℕ) → IsMatrix bits columns → take bits columns ≡ seen
    → index < length seen → IsColumn seen index (get_or columns index 0)
column_read bits columns seen index m e h =
    let wide : bits ≡ length seen = seen_bits bits columns seen m e in
    let few : bits ≤ 62 = m.width.at_most in
    let there : get_or columns index 0 ≡ get_or seen index 0 =
    sym (get_or-take bits columns index 0 (omega arith)) ∙ ap (λ l. get_or l index 0) e in
    record {
      inner = h;
      is = there;
      below = rw there (columns_below bits columns seen m e index h);
      few = omega arith;
    }

-- a column, and 0 after the last
pub column_any : (bits : ℕ) (columns seen : List ℕ) (index : ℕ) → IsMatrix bits columns → take bits columns ≡ seen
    → get_or columns index 0 ≡ get_or seen index 0
column_any bits columns seen index m e =
    let wide : bits ≡ length seen = seen_bits bits columns seen m e in
    ⊎_elim
    (λ (inner : index < bits). sym (get_or-take bits columns index 0 inner) ∙ ap (λ l. get_or l index 0) e)
    (λ (outer : bits ≤ index). m.rest index outer ∙ sym (get_or_past seen index 0 (omega arith)))
    (cases_lt index bits)

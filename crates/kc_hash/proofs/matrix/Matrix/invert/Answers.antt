use Rattle.std.proofs.Common.{◌≡◌, ◌∙◌, ◌+◌, ◌*◌, ◌/◌, ◌<◌, ◌^◌, ◌%◌, length, get_or, ap, sym, subst, List, ℕ, arith}
use Rattle.std.specs.Prelude.{bit_xor}
use Rattle.std.specs.Int.{w64, trailing_zeros}
use Rattle.std.proofs.lemmas.Nat.{one_shl, pow_below, xor_lt}
use Rattle.kc_hash.specs.Product.{identity}
use Rattle.kc_hash.proofs.Columns.{IsColumn, columns_below, column_read, seen_bits}
use Rattle.kc_hash.proofs.RowSteps.{IsReduction, reduction_starts, inverse_found, kernel_found, nonsingular, kernel_alone, HasPivot, IsPivoted}
use Rattle.kc_hash.proofs.RowSteps.{pivot_inside, pivoted_as_is, pivoted_by_row, pivoted-same, column_reduced, low_column}
use Rattle.kc_hash.proofs.matrix.Matrix.invert.Goals as goal
use Rattle.kc_hash.proofs.matrix.Matrix.invert.Goals.{then-row-index, else-row-index, After-reduced, After-reduced-in-loop-index}

pub loop-index-init : goal.loop-index-init
loop-index-init c =
    let same : c.self.inside.bits ≡ length c.args.self.now = seen_bits c.self.inside.bits c.self.inside.columns c.args.self.now c.self.invariant c.self.view_is in
    record {
      reduction =
          rw c.identity-inverse.ensures
          (subst (λ (started : List ℕ). IsReduction c.args.self.now started (identity c.self.inside.bits)) (sym c.self.view_is)
          (subst (λ bits. IsReduction c.args.self.now c.args.self.now (identity bits)) (sym same)
          (reduction_starts c.args.self.now (columns_below c.self.inside.bits c.self.inside.columns c.args.self.now c.self.invariant c.self.view_is))));
      units = λ i h. absurd (omega arith);
    }

-- the column that is read, and 1 at its index
column : (c : After-reduced) → IsColumn c.loop-index.reduced c.loop-index.index (get_or c.reduced.inside.columns c.loop-index.index 0)
column c =
    let same : c.self.inside.bits ≡ length c.args.self.now = seen_bits c.self.inside.bits c.self.inside.columns c.args.self.now c.self.invariant c.self.view_is in
    let bits : length c.loop-index.reduced ≡ length c.args.self.now = c.loop-index.invariant.reduction.reduced_bits in
    column_read c.reduced.inside.bits c.reduced.inside.columns c.loop-index.reduced c.loop-index.index c.reduced.invariant c.reduced.view_is (omega arith)

one : (c : After-reduced) → 1 * 2 ^ c.loop-index.index % 2 ^ 64 ≡ 2 ^ c.loop-index.index
one c = one_shl c.loop-index.index 64 (omega (arith, (column c).inner, (column c).few))

pivot : (c : After-reduced) → (get_or c.reduced.inside.columns c.loop-index.index 0 / 2 ^ c.loop-index.index ≡ 0 → ⊥)
    → HasPivot c.args.self.now c.loop-index.reduced c.loop-index.inverse c.loop-index.index (get_or c.reduced.inside.columns c.loop-index.index 0)
pivot c some =
    let read = column c in
    record { so_far = c.loop-index.invariant; inner = read.inner; is = read.is; below = read.below; few = read.few; some = omega (arith, some) }

-- the bit of the index is set in its column, and the column is read again
pivoted : (c : After-reduced-in-loop-index)
    → HasPivot c.args.self.now c.loop-index.reduced c.loop-index.inverse c.loop-index.index (get_or c.reduced.inside.columns c.loop-index.index 0)
    → 1 * 2 ^ c.loop-index.index % 2 ^ 64 ≡ 2 ^ c.loop-index.index
    → IsPivoted c.args.self.now c.if-row-index.reduced c.if-row-index.inverse c.loop-index.index
pivoted c has is_one =
    elim c.if-row-index.branch [
      | then-row-index w ↦ pivoted-same _ _ _ _ _ _ (w.reduced-is ∙ w.add_row.ensures) (w.inverse-is ∙ w.add_row-then-row-index.ensures)
          (pivoted_by_row c.args.self.now c.loop-index.reduced c.loop-index.inverse c.loop-index.index _ _ has is_one w.if-row-index.true)
      | else-row-index w ↦
          let here : c.loop-index.index + trailing_zeros w64 (get_or c.reduced.inside.columns c.loop-index.index 0 / 2 ^ c.loop-index.index) ≡ c.loop-index.index = omega arith in
          pivoted-same _ _ _ _ _ _ w.reduced-is w.inverse-is
          (pivoted_as_is c.args.self.now c.loop-index.reduced c.loop-index.inverse c.loop-index.index _ has here)
    ]

left : (c : After-reduced-in-loop-index) → c.loop-index.index < length c.loop-index.reduced
    → IsPivoted c.args.self.now c.if-row-index.reduced c.if-row-index.inverse c.loop-index.index
    → IsColumn c.if-row-index.reduced c.loop-index.index (get_or c.reduced-in-loop-index.inside.columns c.loop-index.index 0)
left c inner is =
    let bits : length c.loop-index.reduced ≡ length c.args.self.now = c.loop-index.invariant.reduction.reduced_bits in
    let wide : length c.if-row-index.reduced ≡ length c.args.self.now = is.so_far.reduction.reduced_bits in
    column_read c.reduced-in-loop-index.inside.bits c.reduced-in-loop-index.inside.columns c.if-row-index.reduced c.loop-index.index c.reduced-in-loop-index.invariant c.reduced-in-loop-index.view_is (omega arith)

pub add_row-requires-clause-row_within : goal.add_row-requires-clause-row_within
add_row-requires-clause-row_within c =
    let at = (goal.at.add_row-requires-clause-row_within c).After-reduced in
    pivot_inside c.args.self.now c.loop-index.reduced c.loop-index.inverse c.loop-index.index _ (pivot at c.if-upper-eq0.false)

pub add_row-requires-clause-rows_within : goal.add_row-requires-clause-rows_within
add_row-requires-clause-rows_within c =
    let at = (goal.at.add_row-requires-clause-rows_within c).After-reduced in
    rw (one at) (pow_below c.loop-index.index (length c.loop-index.reduced) (column at).inner)

pub add_row-requires-then-row-index-clause-row_within : goal.add_row-requires-then-row-index-clause-row_within
add_row-requires-then-row-index-clause-row_within c =
    let at = (goal.at.add_row-requires-then-row-index-clause-row_within c).After-reduced in
    let reduction = c.loop-index.invariant.reduction in
    rw (reduction.inverse_bits ∙ sym reduction.reduced_bits)
    (pivot_inside c.args.self.now c.loop-index.reduced c.loop-index.inverse c.loop-index.index _ (pivot at c.if-upper-eq0.false))

pub add_row-requires-in-loop-index-clause-rows_within : goal.add_row-requires-in-loop-index-clause-rows_within
add_row-requires-in-loop-index-clause-rows_within c =
    let places = goal.at.add_row-requires-in-loop-index-clause-rows_within c in
    let at = places.After-reduced in
    let now = left places.After-reduced-in-loop-index (column at).inner
    (pivoted places.After-reduced-in-loop-index (pivot at c.if-upper-eq0.false) (one at)) in
    rw (one at)
    (xor_lt (length c.if-row-index.reduced) _ (2 ^ c.loop-index.index) now.below (pow_below c.loop-index.index (length c.if-row-index.reduced) now.inner))

pub add_row-requires-in-loop-index-2-clause-rows_within : goal.add_row-requires-in-loop-index-2-clause-rows_within
add_row-requires-in-loop-index-2-clause-rows_within c =
    let places = goal.at.add_row-requires-in-loop-index-2-clause-rows_within c in
    let at = places.After-reduced in
    let is = pivoted places.After-reduced-in-loop-index (pivot at c.if-upper-eq0.false) (one at) in
    let now = left places.After-reduced-in-loop-index (column at).inner is in
    rw (one at, is.so_far.reduction.inverse_bits ∙ sym is.so_far.reduction.reduced_bits)
    (xor_lt (length c.if-row-index.reduced) _ (2 ^ c.loop-index.index) now.below (pow_below c.loop-index.index (length c.if-row-index.reduced) now.inner))

pub loop-index-preserved : goal.loop-index-preserved
loop-index-preserved c =
    let places = goal.at.loop-index-preserved c in
    let at = places.After-reduced in
    let is = pivoted places.After-reduced-in-loop-index (pivot at c.if-upper-eq0.false) (one at) in
    let now = left places.After-reduced-in-loop-index (column at).inner is in
    rw (c.add_row-in-loop-index.ensures, c.add_row-in-loop-index-2.ensures)
    (column_reduced c.args.self.now c.if-row-index.reduced c.if-row-index.inverse c.loop-index.index _ _ is now.inner now.is now.below
    (ap (bit_xor (get_or c.reduced-in-loop-index.inside.columns c.loop-index.index 0)) (one at)))

pub returns-then-upper-eq0-clause-kernel : goal.returns-then-upper-eq0-clause-kernel
returns-then-upper-eq0-clause-kernel c =
    let at = (goal.at.returns-then-upper-eq0-clause-kernel c).After-reduced in
    let bits : length c.loop-index.reduced ≡ length c.args.self.now = c.loop-index.invariant.reduction.reduced_bits in
    rw (one at)
    (kernel_found c.args.self.now c.loop-index.reduced c.loop-index.inverse c.loop-index.index _
    (record {
      reduction = c.loop-index.invariant.reduction;
      units = c.loop-index.invariant.units;
      inner = omega (arith, (column at).inner);
      is = sym (column at).is;
      low = low_column _ c.loop-index.index c.if-upper-eq0.true;
      within = columns_below c.self.inside.bits c.self.inside.columns c.args.self.now c.self.invariant c.self.view_is;
    }))

pub returns-then-upper-eq0-clause-kernel_alone : goal.returns-then-upper-eq0-clause-kernel_alone
returns-then-upper-eq0-clause-kernel_alone c other undoes =
    kernel_alone c.args.self.now other _ (returns-then-upper-eq0-clause-kernel c) undoes

pub returns-clause-found : goal.returns-clause-found
returns-clause-found c =
    let same : c.self.inside.bits ≡ length c.args.self.now = seen_bits c.self.inside.bits c.self.inside.columns c.args.self.now c.self.invariant c.self.view_is in
    inverse_found c.args.self.now c.loop-index.reduced c.loop-index.inverse c.loop-index.index
    c.loop-index.invariant.reduction c.loop-index.invariant.units (omega arith)
    (columns_below c.self.inside.bits c.self.inside.columns c.args.self.now c.self.invariant c.self.view_is)

pub returns-clause-found_alone : goal.returns-clause-found_alone
returns-clause-found_alone c = nonsingular c.args.self.now c.loop-index.inverse (returns-clause-found c).undoes

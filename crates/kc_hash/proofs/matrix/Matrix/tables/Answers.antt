use Rattle.std.proofs.Common.{ℕ, ◌≡◌, ◌∙◌, ◌+◌, ◌-◌, ◌*◌, ◌/◌, ◌%◌, ◌^◌, ◌<◌, ◌≤◌, get_or, [], unwrap_or, min, refl, ap, subst, arith}
use Rattle.std.proofs.lemmas.Nat.{one_shl}
use Rattle.kc_hash.proofs.Bytes.{FillsTable, tables_first, tables_more}
use Rattle.kc_hash.proofs.Columns.{column_any}
use Rattle.kc_hash.proofs.matrix.Matrix.tables.Goals as goal

pub loop-bit-init : goal.loop-bit-init
loop-bit-init c = tables_first c.args.self.now _ refl

pub loop-bit-preserved : goal.loop-bit-preserved
loop-bit-preserved c =
    let bit : ℕ = c.loop-bit.bit in
    let small : c.loop-bit.bit < 64 = omega arith in
    let position : c.loop-bit.bit / 8 < 8 = omega arith in
    let exponent : min 8 (c.loop-bit.bit - 8 * (c.loop-bit.bit / 8)) ≡ c.loop-bit.bit % 8 = omega arith in
    let split : c.loop-bit.bit ≡ 8 * (c.loop-bit.bit / 8) + c.loop-bit.bit % 8 = omega arith in
    let one : 1 * 2 ^ (c.loop-bit.bit % 8) % 2 ^ 64 ≡ 2 ^ (c.loop-bit.bit % 8) = one_shl (c.loop-bit.bit % 8) 64 (omega arith) in
    let here : c.loop-bit.bit ≤ c.loop-bit.bit = omega arith in
    let column_is : c.unwrap_or-column.result ≡ get_or c.args.self.now c.loop-bit.bit 0 =
    c.unwrap_or-column.ensures ∙ ap (λ o. unwrap_or o 0) c.copied.ensures ∙ c.get.ensures.lookup.4 here 0
    ∙ column_any c.self.inside.bits c.self.inside.columns c.args.self.now bit c.self.invariant c.self.view_is in
    tables_more c.args.self.now c.loop-bit.tables bit (bit / 8) c.add_column.new.table (1 * 2 ^ (c.loop-bit.bit % 8) % 2 ^ 64) c.unwrap_or-column.result
    c.loop-bit.invariant small refl
    (record {
      so_far = subst (λ k. FillsTable c.args.self.now (bit / 8) (get_or c.loop-bit.tables (bit / 8) []) (2 ^ k)) exponent
          (c.loop-bit.invariant.each (bit / 8) position);
      wide = one;
      is = column_is ∙ ap (λ i. get_or c.args.self.now i 0) split;
      added = record { lower = c.add_column.ensures.lower; upper = c.add_column.ensures.upper };
    })

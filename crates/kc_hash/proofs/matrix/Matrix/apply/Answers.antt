use Rattle.std.proofs.Common.{◌∙◌, ℕ, length, get_or, sym, ap, arith}
use Rattle.std.specs.Prelude.{bit_xor}
use Rattle.kc_hash.specs.Product.{product}
use Rattle.kc_hash.proofs.Columns.{columns_below}
use Rattle.kc_hash.proofs.Linear.{combine-taken, combine-passed, product-array, product-zero, product-xor, product-below}
use Rattle.kc_hash.proofs.matrix.Matrix.apply.Goals as goal
use Rattle.kc_hash.proofs.matrix.Matrix.apply.Goals.{then-x-index-eq1, else-x-index-eq1}

pub loop-index-preserved : goal.loop-index-preserved
loop-index-preserved c =
    let f : ℕ → ℕ = λ i. get_or c.self.inside.columns i 0 in
    elim c.if-x-index-eq1.branch [
      | then-x-index-eq1 w ↦ w.sum-is ∙ ap (λ s. bit_xor s (f c.loop-index.index)) c.loop-index.invariant
          ∙ sym (combine-taken f c.loop-index.index c.args.x w.if-x-index-eq1.true)
      | else-x-index-eq1 w ↦ w.sum-is ∙ c.loop-index.invariant
          ∙ sym (combine-passed f c.loop-index.index c.args.x w.if-x-index-eq1.false)
    ]

pub returns-clause-product : goal.returns-clause-product
returns-clause-product c =
    c.loop-index.invariant
    ∙ product-array c.self.inside.bits c.self.inside.columns c.args.self.now c.args.x c.loop-index.index c.self.invariant c.self.view_is (omega arith)

pub returns-clause-within : goal.returns-clause-within
returns-clause-within c =
    rw (returns-clause-product c)
    (product-below c.args.self.now (length c.args.self.now) c.args.x
    (columns_below c.self.inside.bits c.self.inside.columns c.args.self.now c.self.invariant c.self.view_is))

pub returns-clause-zero : goal.returns-clause-zero
returns-clause-zero c none = returns-clause-product c ∙ ap (product c.args.self.now) none ∙ product-zero c.args.self.now

pub returns-clause-linear : goal.returns-clause-linear
returns-clause-linear c y =
    product-xor c.args.self.now c.args.x y
    ∙ ap (λ z. bit_xor z (product c.args.self.now y)) (sym (returns-clause-product c))

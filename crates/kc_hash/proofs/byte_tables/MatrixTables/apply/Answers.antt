use Rattle.std.proofs.Common.{ℕ, ◌≡◌, ◌∙◌, ◌*◌, ◌/◌, ◌<◌, ◌^◌, ◌%◌, sym, ap, ap₂, arith, rules, length}
use Rattle.std.specs.Prelude.{bit_xor, bit_and}
use Rattle.std.proofs.lemmas.Nat.{and_le_r}
use Rattle.kc_hash.specs.Product.{product}
use Rattle.kc_hash.proofs.Linear.{product-zero, product-below}
use Rattle.kc_hash.proofs.Bytes.{product_byte_more}
use Rattle.kc_hash.proofs.byte_tables.MatrixTables.apply.Goals as goal

pub loop-position-init : goal.loop-position-init
loop-position-init c =
    let none : c.args.x % 1 ≡ 0 = omega arith in
    sym (ap (product c.self.inside.matrix) none ∙ product-zero c.self.inside.matrix)

pub loop-position-preserved : goal.loop-position-preserved
loop-position-preserved c =
    let byte : ℕ = bit_and (c.args.x / 2 ^ (8 * c.loop-position.position)) 255 in
    let small : bit_and (c.args.x / 2 ^ (8 * c.loop-position.position)) 255 < 256 = omega (arith, and_le_r (c.args.x / 2 ^ (8 * c.loop-position.position)) 255) in
    ap₂ bit_xor c.loop-position.invariant (c.self.invariant.0 c.loop-position.position c.loop-position-test.true byte small)
    ∙ product_byte_more c.self.inside.matrix c.args.x c.loop-position.position

pub returns-clause-product : goal.returns-clause-product
returns-clause-product c = search rules

pub returns-clause-within : goal.returns-clause-within
returns-clause-within c =
    rw (returns-clause-product c, ← c.self.view_is)
    (product-below c.self.inside.matrix (length c.self.inside.matrix) c.args.x c.self.invariant.1)

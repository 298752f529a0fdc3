use Rattle.std.proofs.Common.{◌≡◌, ◌∙◌, ◌^◌, ◌*◌, ◌%◌, ◌≤◌, refl, sym, arith}
use Rattle.std.proofs.lemmas.Nat.{one_shl, pow_below}
use Rattle.kc_hash.specs.Product.{identity}
use Rattle.kc_hash.proofs.Linear.{length-identity, get_or-identity}
use Rattle.kc_hash.proofs.Copies.{copies_none, copies_more, copies_whole}
use Rattle.kc_hash.proofs.matrix.Matrix.identity.Goals as goal

pub loop-index-init : goal.loop-index-init
loop-index-init c = copies_none _ _ _ refl

pub loop-index-preserved : goal.loop-index-preserved
loop-index-preserved c =
    let at_most : c.args.bits ≤ 62 = c.requires.at_most in
    let one : 1 * 2 ^ c.loop-index.index % 2 ^ 64 ≡ 2 ^ c.loop-index.index = one_shl c.loop-index.index 64 (omega arith) in
    copies_more c.args.bits (identity c.args.bits) c.loop-index.columns c.loop-index.index (1 * 2 ^ c.loop-index.index % 2 ^ 64)
    c.loop-index.invariant
    (record {
      within = omega arith;
      is = one ∙ sym (get_or-identity c.args.bits c.loop-index.index c.loop-index-test.true);
      fits = rw one (pow_below c.loop-index.index c.args.bits c.loop-index-test.true);
    })

pub returns : goal.returns
returns c = copies_whole _ _ _ c.loop-index.index (length-identity c.args.bits) c.requires.at_most (omega arith) c.loop-index.invariant

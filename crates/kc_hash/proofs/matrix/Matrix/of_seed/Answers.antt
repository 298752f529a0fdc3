use Rattle.std.proofs.Common.{ℕ, ◌≡◌, ◌∙◌, ◌*◌, ◌+◌, ◌-◌, ◌≤◌, ◌^◌, ◌%◌, refl, sym, ap, arith}
use Rattle.std.specs.Prelude.{bit_and}
use Rattle.std.proofs.lemmas.Nat.{one_shl, and_mask, mod_below, pow_pos}
use Rattle.rand_xoshiro.specs.SplitMix64.{mix_u64}
use Rattle.kc_hash.specs.Seeds.{seed_columns}
use Rattle.kc_hash.proofs.Copies.{copies_none, copies_more, copies_whole}
use Rattle.kc_hash.proofs.Generator.{state_after, state_starts, state_more, length-seed_columns, get_or-seed_columns}
use Rattle.kc_hash.proofs.matrix.Matrix.of_seed.Goals as goal

pub loop-index-init : goal.loop-index-init
loop-index-init c = (copies_none _ _ _ refl, c.seed_from_u64-generator.ensures.same ∙ sym (state_starts mix_u64 c.args.seed))

-- the number that was drawn, low bits kept, and the state after it
drawn : (number state next seed index bits : ℕ) → (number, next) ≡ mix_u64 state → state ≡ state_after mix_u64 index seed
    → (number % 2 ^ bits ≡ (mix_u64 (state_after mix_u64 index seed)).0 % 2 ^ bits) × (next ≡ state_after mix_u64 (index + 1) seed)
drawn number state next seed index bits is at =
    let both : (number, next) ≡ mix_u64 (state_after mix_u64 index seed) = is ∙ ap mix_u64 at in
    (ap (λ p. p.0 % 2 ^ bits) both, ap (λ p. p.1) both ∙ sym (state_more mix_u64 index seed))

pub loop-index-preserved : goal.loop-index-preserved
loop-index-preserved c =
    let at_most : c.args.bits ≤ 62 = c.requires.at_most in
    let one : 1 * 2 ^ c.args.bits % 2 ^ 64 ≡ 2 ^ c.args.bits = one_shl c.args.bits 64 (omega arith) in
    let low : bit_and c.next_word.result (1 * 2 ^ c.args.bits % 2 ^ 64 - 1) ≡ c.next_word.result % 2 ^ c.args.bits =
    ap (λ k. bit_and c.next_word.result (k - 1)) one ∙ and_mask c.next_word.result c.args.bits in
    let here = drawn c.next_word.result c.loop-index.generator c.next_word.new.self c.args.seed c.loop-index.index c.args.bits
    c.next_word.ensures c.loop-index.invariant.1 in (
      copies_more c.args.bits (seed_columns c.args.bits c.args.seed) c.loop-index.columns c.loop-index.index _
          c.loop-index.invariant.0
          (record {
            within = omega arith;
            is = low ∙ here.0 ∙ sym (get_or-seed_columns c.args.bits c.args.seed c.loop-index.index c.loop-index-test.true);
            fits = rw low (mod_below c.next_word.result (2 ^ c.args.bits) (pow_pos c.args.bits));
          }),
      here.1,
    )

pub returns : goal.returns
returns c = copies_whole _ _ _ c.loop-index.index (length-seed_columns c.args.bits c.args.seed) c.requires.at_most (omega arith) c.loop-index.invariant.0

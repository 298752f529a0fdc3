use Rattle.std.proofs.Common.{vec_len, ◌≡◌, ◌+◌, ◌-◌, ◌*◌, ◌/◌, ◌%◌, ◌^◌, ◌<◌, ◌⊎◌, inl, inr, length, get_or, bit_or}
use Rattle.std.proofs.Common.{ap, sym, ◌∙◌, arith, rules}
use Rattle.std.proofs.lemmas.List.{get_or_read_under}
use Rattle.kc_word.specs.Packed.{code_in}
use Rattle.kc_word.proofs.PackedLemmas.{length-codes_of, get_or-codes_of}
use Rattle.kc_word.proofs.Shifting.{window-of-one, window-of-two}
use Rattle.kc_word.proofs.packed_codes.Packed.window.Goals as goal
use Rattle.kc_word.proofs.packed_codes.Packed.window.Goals.{then-shift-eq0-via-then-shift-eq0}
use Rattle.kc_word.proofs.packed_codes.Packed.window.Goals.{then-shift-eq0-via-else-shift-eq0+then-next-len}

pub index-requires : goal.index-requires
index-requires c =
    let long = ap length c.self.view_is in
    let count = length-codes_of c.self.inside.numbers.items c.self.inside.len in
    let exact = c.self.invariant.exact in
    let numbers = c.self.inside.numbers.ok.0 in
    let below = c.requires in
    omega (arith, long, count, exact, numbers, below)

pub returns-then-shift-eq0 : goal.returns-then-shift-eq0
returns-then-shift-eq0 c = λ i h l.
    let long = ap length c.self.view_is in
    let count = length-codes_of c.self.inside.numbers.items c.self.inside.len in
    let exact = c.self.invariant.exact in
    let numbers = c.self.inside.numbers.ok.0 in
    let below = c.requires in
    let within : c.args.at / 32 < vec_len c.self.inside.numbers = omega (arith, long, count, exact, numbers, below) in
    let inside : c.args.at + i < c.self.inside.len = omega (arith, long, count, l) in
    let alone : (c.args.at % 32 ≡ 0) ⊎ (c.args.at / 32 + 1 ≡ length c.self.inside.numbers.items) =
    elim c.then-shift-eq0.branch [
      | then-shift-eq0-via-then-shift-eq0 w ↦ inl (let zero = w.if-shift-eq0.true in omega (arith, zero))
      | then-shift-eq0-via-else-shift-eq0+then-next-len w ↦ inr (let end = w.if-next-len.true in
          let size = w.len.ensures in
          omega (arith, end, size, numbers))
    ] in
    (window-of-one c.self.inside.numbers.items c.self.inside.len c.args.at c.index.result.now
    (get_or_read_under c.self.inside.numbers.items (c.args.at / 32) _ _ 0 c.index.ensures within c.self.inside.numbers.ok.0)
    c.self.invariant alone).codes i h inside
    ∙ sym (get_or-codes_of c.self.inside.numbers.items c.self.inside.len (c.args.at + i) 0 inside)
    ∙ ap (λ cs. get_or cs (c.args.at + i) 0) c.self.view_is

pub index-requires-2 : goal.index-requires-2
index-requires-2 c =
    let long = ap length c.self.view_is in
    let count = length-codes_of c.self.inside.numbers.items c.self.inside.len in
    let exact = c.self.invariant.exact in
    let numbers = c.self.inside.numbers.ok.0 in
    let below = c.requires in
    let more = c.if-next-len.false in
    let size = c.len.ensures in
    omega (arith, long, count, exact, numbers, below, more, size)

pub returns : goal.returns
returns c = λ i h l.
    let long = ap length c.self.view_is in
    let count = length-codes_of c.self.inside.numbers.items c.self.inside.len in
    let exact = c.self.invariant.exact in
    let numbers = c.self.inside.numbers.ok.0 in
    let below = c.requires in
    let more = c.if-next-len.false in
    let size = c.len.ensures in
    let within : c.args.at / 32 < vec_len c.self.inside.numbers = omega (arith, long, count, exact, numbers, below) in
    let next : c.args.at / 32 + 1 < vec_len c.self.inside.numbers = omega (arith, long, count, exact, numbers, below, more, size) in
    let inside : c.args.at + i < c.self.inside.len = omega (arith, long, count, l) in
    let small : c.index-2.result.now < 2 ^ 64 = first_of (omega arith, search rules) in
    let place : 64 - 2 * (c.args.at % 32) ≡ 2 * (32 - c.args.at % 32) = omega arith in
    ap (λ n. code_in (bit_or (c.index.result.now * 2 ^ (2 * (c.args.at % 32)) % 2 ^ 64) (c.index-2.result.now / 2 ^ n)) i) place
    ∙ (window-of-two c.self.inside.numbers.items c.self.inside.len c.args.at c.index.result.now c.index-2.result.now
    (get_or_read_under c.self.inside.numbers.items (c.args.at / 32) _ _ 0 c.index.ensures within c.self.inside.numbers.ok.0)
    (get_or_read_under c.self.inside.numbers.items (c.args.at / 32 + 1) _ _ 0 c.index-2.ensures next c.self.inside.numbers.ok.0)
    small).codes i h inside
    ∙ sym (get_or-codes_of c.self.inside.numbers.items c.self.inside.len (c.args.at + i) 0 inside)
    ∙ ap (λ cs. get_or cs (c.args.at + i) 0) c.self.view_is

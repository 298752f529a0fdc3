use Rattle.std.proofs.Common.{◌++◌, length, ap, ◌∙◌, arith}
use Rattle.kc_word.specs.Packed.{codes_in}
use Rattle.kc_word.proofs.PackedLemmas.{length-codes_of}
use Rattle.kc_word.proofs.Shifting.{filled}
use Rattle.kc_word.proofs.packed_codes.Packed.push_number.Goals as goal

pub overflow_add-self : goal.overflow_add-self
overflow_add-self c =
    let count = length-codes_of c.self.inside.numbers.items c.self.inside.len in
    let long = ap length c.self.view_is in
    let fits = c.requires.fits in
    omega (arith, count, long, fits)

pub invariant_of-self-2 : goal.invariant_of-self-2
invariant_of-self-2 c =
    let count = length-codes_of c.self.inside.numbers.items c.self.inside.len in
    let long = ap length c.self.view_is in
    let whole = c.requires.whole in
    (filled c.self.inside.numbers.items c.push.new.self.items c.self.inside.len c.args.count c.args.number c.self.invariant
    (omega (arith, count, long, whole), c.requires.some, c.requires.most) c.in_ok-push.ensures.items).packed

pub returns : goal.returns
returns c =
    let count = length-codes_of c.self.inside.numbers.items c.self.inside.len in
    let long = ap length c.self.view_is in
    let whole = c.requires.whole in
    (filled c.self.inside.numbers.items c.push.new.self.items c.self.inside.len c.args.count c.args.number c.self.invariant
    (omega (arith, count, long, whole), c.requires.some, c.requires.most) c.in_ok-push.ensures.items).codes
    ∙ ap (λ codes. codes ++ codes_in c.args.number c.args.count) c.self.view_is

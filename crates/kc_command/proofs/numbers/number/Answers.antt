use Rattle.std.proofs.Common.{◌≡◌, ◌≤◌, ◌+◌, ◌-◌, ◌*◌, ◌^◌, suc, drop, length, rules, ◌∙◌, ap, arith, sym, get_or, drop-cons, subst}
use Rattle.std.proofs.lemmas.List.{drop_all}
use Rattle.kc_command.specs.Numbers.{between, digit}
use Rattle.kc_command.proofs.NumbersLemmas.{Reads, digit_is, too_great, ended, fits}
use Rattle.kc_command.proofs.numbers.number.Goals as goal

pub returns : goal.returns
returns c =
    let read = subst (λ v. Reads c.args.text.now c.loop-byte.number v) (drop_all _ _ c.loop-byte-test.false) c.loop-byte.invariant in
    let value = ended c.args.text.now c.loop-byte.number (λ e. let z : length c.args.text.now ≡ 0 = ap length e in search (rules, z)) read in
    sym (ap (between 0 (2 ^ 64 - 1)) value ∙ fits 0 (2 ^ 64 - 1) c.loop-byte.number (omega arith) (omega (arith, read.fits)))

pub returns-in_err-number : goal.returns-in_err-number
returns-in_err-number c =
    let i = c.loop-byte.byte-index in
    let text = c.args.text.now in
    let digit : c.in_ok-digit_of.field-0 ≡ digit (get_or text i 0) = digit_is _ _ c.in_ok-digit_of.ensures in
    let above : 2 ^ 64 ≤ c.loop-byte.number * 10 + c.in_ok-digit_of.field-0 = omega (arith, c.in_err-number.ensures) in
    c.from_residual-in_err-number.ensures ∙ sym (too_great text c.loop-byte.number (get_or text i 0) (drop (suc i) text)
    (subst (λ v. 2 ^ 64 ≤ c.loop-byte.number * 10 + v) digit above)
    (subst (λ v. Reads text c.loop-byte.number v) (drop-cons text i 0 c.loop-byte-test.true) c.loop-byte.invariant))

use Rattle.std.proofs.Common.{◌≡◌, ◌+◌, ◌-◌, ◌*◌, ◌/◌, ◌^◌, ◌<◌, ◌≤◌, min, max, sym, subst, arith}
use Rattle.kc_word.proofs.StartLemmas.{enough_prefixes}
use Rattle.kc_word.proofs.list_starts.shift_for.Goals as goal

pub returns-clause-enough : goal.returns-clause-enough
returns-clause-enough c = λ fits.
    let top = c.ilog2-top.result in
    let high = c.ilog2-high.result in
    let below : c.args.count < 2 * 2 ^ high = omega arith in
    let least : 2 ^ top ≤ max c.args.last 1 = omega arith in
    let shift : c.min.result ≡ min (top - high + 1) 63 = omega arith in
    subst (λ n. c.args.count ≤ 4 * (c.args.last / 2 ^ n + 1)) (sym shift)
    (enough_prefixes c.args.count c.args.last top high below least (omega arith) (omega arith) fits)

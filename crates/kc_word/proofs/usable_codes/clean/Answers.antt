use Rattle.std.proofs.Common.{◌≡◌, ◌+◌, ◌*◌, ◌^◌, ◌<◌, min, length, List, ap, sym, ◌∙◌, subst, arith, rules}
use Rattle.kc_word.specs.declared.runs.Run.{Run}
use Rattle.kc_word.specs.UsableCodes.{AreGaps}
use Rattle.kc_word.specs.Packed.{codes_of}
use Rattle.kc_word.proofs.PackedLemmas.{codes_of-none}
use Rattle.kc_word.proofs.Cleaning.{length-cleaned}
use Rattle.kc_word.proofs.UsableLemmas.{AreUsableCodes, usable-none, length-usable, codes-block, gaps-block, usable-all}
use Rattle.kc_word.proofs.usable_codes.clean.Goals as goal
use Rattle.kc_word.proofs.usable_codes.clean.Goals.{then-block+in_ok-mark_gaps, else-block}

pub loop-j-init : goal.loop-j-init
loop-j-init c =
    let none : 0 ≡ min 0 (length c.bases-count.result.now) = omega arith in
    subst (λ n. AreUsableCodes c.args.rule.now c.args.read.now n (codes_of c.in_ok-numbers.numbers.items 0) c.new-runs.result.items) none
    (usable-none c.args.rule.now c.args.read.now (codes_of c.in_ok-numbers.numbers.items 0) c.new-runs.result.items (codes_of-none c.in_ok-numbers.numbers.items) c.new-runs.ensures.items)

pub push_number-requires-clause-whole : goal.push_number-requires-clause-whole
push_number-requires-clause-whole c =
    let long = length-usable c.args.rule.now c.args.read.now (min (c.loop-j.j * 32) (length c.bases-count.result.now))
    c.loop-j.bases c.loop-j.runs.items c.loop-j.invariant in
    let test = c.loop-j-test.true in
    let end = c.div_ceil-j-end.ensures in
    omega (arith, long, test, end)

pub push_number-requires-clause-fits : goal.push_number-requires-clause-fits
push_number-requires-clause-fits c =
    let long = length-usable c.args.rule.now c.args.read.now (min (c.loop-j.j * 32) (length c.bases-count.result.now))
    c.loop-j.bases c.loop-j.runs.items c.loop-j.invariant in
    let test = c.loop-j-test.true in
    let end = c.div_ceil-j-end.ensures in
    let taken = c.min-taken.ensures in
    let small : length c.bases-count.result.now < 2 ^ 64 = first_of (omega arith, search rules) in
    omega (arith, long, test, end, taken, small)

pub mark_gaps-requires-clause-before : goal.mark_gaps-requires-clause-before
mark_gaps-requires-clause-before c =
    let test = c.loop-j-test.true in
    let end = c.div_ceil-j-end.ensures in
    let from : min (c.loop-j.j * 32) (length c.bases-count.result.now) ≡ c.loop-j.j * 32 = omega (arith, test, end) in
    subst (λ n. AreGaps c.args.rule.now c.args.read.now n c.loop-j.runs.items) from c.loop-j.invariant.gaps

pub loop-j-preserved : goal.loop-j-preserved
loop-j-preserved c =
    let test = c.loop-j-test.true in
    let end = c.div_ceil-j-end.ensures in
    let taken = c.min-taken.ensures in
    let from : min (c.loop-j.j * 32) (length c.bases-count.result.now) ≡ c.loop-j.j * 32 = omega (arith, test, end) in
    let next : c.loop-j.j * 32 + c.min-taken.result ≡ min ((c.loop-j.j + 1) * 32) (length c.bases-count.result.now) = omega (arith, test, end, taken) in
    let before = subst (λ n. AreUsableCodes c.args.rule.now c.args.read.now n c.loop-j.bases c.loop-j.runs.items) from c.loop-j.invariant in
    subst (λ n. AreUsableCodes c.args.rule.now c.args.read.now n c.push_number.new.self c.if-block.runs.items) next (record {
      codes_are = codes-block c.block_of-block.ensures c.loop-j.bases c.push_number.new.self before.codes_are
          c.in_ok-push_number.ensures;
      gaps = elim c.if-block.branch [
        | then-block+in_ok-mark_gaps w ↦
            subst (λ (rs : List Run). AreGaps c.args.rule.now c.args.read.now (c.loop-j.j * 32 + c.min-taken.result) rs) (sym (ap (λ v. v.items) w.runs-is))
            w.in_ok-mark_gaps.ensures
        | else-block w ↦
            subst (λ (rs : List Run). AreGaps c.args.rule.now c.args.read.now (c.loop-j.j * 32 + c.min-taken.result) rs) (sym (ap (λ v. v.items) w.runs-is))
            (gaps-block c.args.rule.now c.args.read.now (c.loop-j.j * 32) c.min-taken.result c.loop-j.runs.items before.gaps
            (c.block_of-block.ensures.usable w.if-block.false))
      ];
    })

pub invariant_of-result : goal.invariant_of-result
invariant_of-result c =
    let test = c.loop-j-test.false in
    let end = c.div_ceil-j-end.ensures in
    let all : min (c.loop-j.j * 32) (length c.bases-count.result.now) ≡ length c.bases-count.result.now = omega (arith, test, end) in
    (usable-all c.args.rule.now c.args.read.now (min (c.loop-j.j * 32) (length c.bases-count.result.now)) c.loop-j.bases c.loop-j.runs.items
    (all ∙ ap length c.bases-count.ensures.value) c.loop-j.invariant.codes_are c.loop-j.invariant.gaps).piece

pub returns-clause-cleaned : goal.returns-clause-cleaned
returns-clause-cleaned c =
    let test = c.loop-j-test.false in
    let end = c.div_ceil-j-end.ensures in
    let all : min (c.loop-j.j * 32) (length c.bases-count.result.now) ≡ length c.bases-count.result.now = omega (arith, test, end) in
    (usable-all c.args.rule.now c.args.read.now (min (c.loop-j.j * 32) (length c.bases-count.result.now)) c.loop-j.bases c.loop-j.runs.items
    (all ∙ ap length c.bases-count.ensures.value) c.loop-j.invariant.codes_are c.loop-j.invariant.gaps).bytes

pub returns-clause-long : goal.returns-clause-long
returns-clause-long c =
    let test = c.loop-j-test.false in
    let end = c.div_ceil-j-end.ensures in
    let all : min (c.loop-j.j * 32) (length c.bases-count.result.now) ≡ length c.bases-count.result.now = omega (arith, test, end) in
    ap length (usable-all c.args.rule.now c.args.read.now (min (c.loop-j.j * 32) (length c.bases-count.result.now)) c.loop-j.bases c.loop-j.runs.items
    (all ∙ ap length c.bases-count.ensures.value) c.loop-j.invariant.codes_are c.loop-j.invariant.gaps).bytes
    ∙ length-cleaned c.args.rule.now c.args.read.now

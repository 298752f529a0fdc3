use Rattle.std.proofs.Common.{◌≡◌, ◌+◌, ◌-◌, ◌≤◌, length, get_or, take, ap, sym, ◌∙◌, subst, arith}
use Rattle.kc_kmer.specs.Occurrences.{position_count}
use Rattle.kc_word.specs.Cutting.{position_total}
use Rattle.kc_word.specs.PackedBatch.{start_of, pieces_in}
use Rattle.kc_word.proofs.Splitting.{IsCounted, IsCounted-more, IsCounted-all, start-next}
use Rattle.kc_word.proofs.batch.Batch.position_count.Goals as goal

pub overflow_sub-end : goal.overflow_sub-end
overflow_sub-end c =
    let same = c.deref-end-items.ensures.value in
    let count = ap length same in
    let begins = c.loop-end.invariant.begins ∙ ap (λ es. start_of es c.loop-end.end-index) same in
    let end = ap (λ es. get_or es c.loop-end.end-index 0) same in
    let within = c.loop-end-test.true in
    let rising = c.pieces.invariant.rising c.loop-end.end-index (omega (arith, count, within)) in
    omega (arith, begins, end, rising)

pub overflow_add-count : goal.overflow_add-count
overflow_add-count c =
    let same = c.deref-end-items.ensures.value in
    let count = ap length same in
    let begins = c.loop-end.invariant.begins ∙ ap (λ es. start_of es c.loop-end.end-index) same in
    let end = ap (λ es. get_or es c.loop-end.end-index 0) same in
    let within = c.loop-end-test.true in
    let rising = c.pieces.invariant.rising c.loop-end.end-index (omega (arith, count, within)) in
    let before = c.loop-end.invariant.most in
    let most = c.positions-count.ensures.most in
    let fits = c.type_inv.end-items c.loop-end.end-index in
    omega (arith, begins, end, rising, before, most, fits)

pub loop-end-preserved : goal.loop-end-preserved
loop-end-preserved c =
    let view : pieces_in c.pieces.inside.bytes c.pieces.inside.ends.items ≡ c.args.self.now.pieces =
    c.pieces.view_is ∙ ap (λ b. b.pieces) c.self.view_is in
    let same = c.deref-end-items.ensures.value in
    let count = ap length same in
    let begins = c.loop-end.invariant.begins ∙ ap (λ es. start_of es c.loop-end.end-index) same in
    let end = ap (λ es. get_or es c.loop-end.end-index 0) same in
    let within = c.loop-end-test.true in
    let most = c.loop-end.invariant.most in
    let before : IsCounted c.args.k c.pieces.inside.bytes c.pieces.inside.ends.items c.loop-end.end-index c.loop-end.count = record {
      value = c.loop-end.invariant.value ∙ ap (λ ps. position_total c.args.k (take c.loop-end.end-index ps)) (sym view);
      most = omega (arith, most, begins);
    } in
    let long : get_or c.deref-end-items.result.now c.loop-end.end-index 0 - c.loop-end.start
    ≡ get_or c.pieces.inside.ends.items c.loop-end.end-index 0 - start_of c.pieces.inside.ends.items c.loop-end.end-index = omega (arith, begins, end) in
    let next = start-next c.pieces.inside.ends.items c.loop-end.end-index in
    let more = IsCounted-more c.positions-count.result before c.pieces.invariant (omega (arith, count, within))
    (c.positions-count.ensures.value ∙ ap (position_count c.args.k) long)
    (subst (λ n. c.positions-count.result ≤ n) long c.positions-count.ensures.most) in
    let fewer = more.most in
    record {
      value = more.value ∙ ap (λ ps. position_total c.args.k (take (c.loop-end.end-index + 1) ps)) view;
      most = omega (arith, fewer, next, end);
      begins = end ∙ sym (ap (λ es. start_of es (c.loop-end.end-index + 1)) same ∙ next);
    }

pub returns : goal.returns
returns c =
    let view : pieces_in c.pieces.inside.bytes c.pieces.inside.ends.items ≡ c.args.self.now.pieces =
    c.pieces.view_is ∙ ap (λ b. b.pieces) c.self.view_is in
    let same = c.deref-end-items.ensures.value in
    let count = ap length same in
    let begins = c.loop-end.invariant.begins ∙ ap (λ es. start_of es c.loop-end.end-index) same in
    let past = c.loop-end-test.false in
    let most = c.loop-end.invariant.most in
    IsCounted-all c.args.k c.pieces.inside.bytes c.pieces.inside.ends.items c.loop-end.end-index c.loop-end.count (omega (arith, count, past))
    (record {
      value = c.loop-end.invariant.value ∙ ap (λ ps. position_total c.args.k (take c.loop-end.end-index ps)) (sym view);
      most = omega (arith, most, begins);
    })
    ∙ ap (position_total c.args.k) view

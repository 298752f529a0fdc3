use Rattle.std.proofs.Common.{◌≡◌, length, vec_len, arith, rules}
use Rattle.std.proofs.lemmas.Result.{err_from_is_err_and}
use Rattle.kc_word.specs.Shared.{values}
use Rattle.kc_gather.proofs.Stripes.{whole-told, refused-told}
use Rattle.kc_gather.proofs.Taken.{all-parts}
use Rattle.kc_gather.proofs.summary.Summary.gather.Goals as goal

pub returns-in_err-check_in_parallel-clause-refused : goal.returns-in_err-check_in_parallel-clause-refused
returns-in_err-check_in_parallel-clause-refused g c =
    let p = err_from_is_err_and c.from_residual.result c.from_residual.ensures.1 in
    rw (p.1, p.2) (refused-told c.deref.result.now c.args.stripes.items c.len.result c.deref.ensures.value c.in_err-check_in_parallel.field-0.0 c.in_err-check_in_parallel.ensures.refused)

pub returns-in_err-parts-clause-refused : goal.returns-in_err-parts-clause-refused
returns-in_err-parts-clause-refused g c =
    let many : vec_len c.args.stripes ≡ length c.args.stripes.items = search rules in
    let p = err_from_is_err_and c.from_residual-in_err-parts.result c.from_residual-in_err-parts.ensures.1 in
    rw (p.1, p.2) (whole-told c.deref.result.now c.args.stripes.items c.len.result c.deref.ensures.value (omega (arith, c.len.ensures, many)) c.in_ok-check_in_parallel.ensures.whole)

pub of_parts-requires-clause-parts : goal.of_parts-requires-clause-parts
of_parts-requires-clause-parts g c =
    let many : vec_len c.args.stripes ≡ length c.args.stripes.items = search rules in (
      values c.args.batches.now,
      all-parts _ c.args.stripes.items c.in_ok-parts.parts.items c.requires.one_each c.requires.few
          (whole-told c.deref.result.now c.args.stripes.items c.len.result c.deref.ensures.value (omega (arith, c.len.ensures, many)) c.in_ok-check_in_parallel.ensures.whole) c.in_ok-parts.ensures,
    )

pub returns-in_err-summary-clause-refused : goal.returns-in_err-summary-clause-refused
returns-in_err-summary-clause-refused g c =
    let many : vec_len c.args.stripes ≡ length c.args.stripes.items = search rules in
    let p = err_from_is_err_and c.from_residual-in_err-summary.result c.from_residual-in_err-summary.ensures.1 in
    rw (p.1, p.2) (whole-told c.deref.result.now c.args.stripes.items c.len.result c.deref.ensures.value (omega (arith, c.len.ensures, many)) c.in_ok-check_in_parallel.ensures.whole)

pub returns-clause-whole : goal.returns-clause-whole
returns-clause-whole g c =
    let many : vec_len c.args.stripes ≡ length c.args.stripes.items = search rules in
    whole-told c.deref.result.now c.args.stripes.items c.len.result c.deref.ensures.value (omega (arith, c.len.ensures, many)) c.in_ok-check_in_parallel.ensures.whole

pub returns-clause-summary : goal.returns-clause-summary
returns-clause-summary g c =
    let many : vec_len c.args.stripes ≡ length c.args.stripes.items = search rules in
    c.in_ok-summary.ensures (values c.args.batches.now) (all-parts _ c.args.stripes.items c.in_ok-parts.parts.items c.requires.one_each c.requires.few
    (whole-told c.deref.result.now c.args.stripes.items c.len.result c.deref.ensures.value (omega (arith, c.len.ensures, many)) c.in_ok-check_in_parallel.ensures.whole) c.in_ok-parts.ensures)

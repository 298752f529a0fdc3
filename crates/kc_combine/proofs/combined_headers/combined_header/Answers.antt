use Rattle.std.proofs.Common.{All, arith, refl, subst, sym}
use Rattle.std.proofs.lemmas.List.{take_all}
use Rattle.std.proofs.lemmas.Result.{err_from_is_err_and}
use Rattle.kc_combine.specs.CombinedHeaders.{AllMatch, Match}
use Rattle.kc_combine.proofs.CombinedHeaderLemmas.{no_header, words_of_first}
use Rattle.kc_combine.proofs.combined_headers.combined_header.Goals as goal

pub returns-in_err-combined_origin : goal.returns-in_err-combined_origin
returns-in_err-combined_origin c =
    let p = err_from_is_err_and c.from_residual.result c.from_residual.ensures.1 in
    let all : AllMatch c.args.combining c.args.headers.now =
    subst (λ headers. All (λ header. All (λ other. Match c.args.combining header other) c.args.headers.now) headers)
    (take_all c.headers.header-index c.args.headers.now (omega (arith, c.headers-test.false))) c.headers.invariant in
    rw (p.1, p.2) (no_header c.args.combining c.args.headers.now c.in_err-combined_origin.field-0.0 all c.in_err-combined_origin.ensures)

pub returns : goal.returns
returns c =
    let all : AllMatch c.args.combining c.args.headers.now =
    subst (λ headers. All (λ header. All (λ other. Match c.args.combining header other) c.args.headers.now) headers)
    (take_all c.headers.header-index c.args.headers.now (omega (arith, c.headers-test.false))) c.headers.invariant in
    let first = c.index-headers-0.result in (
      all,
      words_of_first c.args.combining c.args.headers.now first _ c.requires.some (sym c.index-headers-0.is) refl refl all,
      c.in_ok-combined_origin.ensures.0,
      c.in_ok-combined_origin.ensures.1,
    )

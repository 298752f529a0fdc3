use Rattle.std.proofs.Common.{◌≡◌, All, Err, arith, map, subst, sym, ap, ◌∙◌}
use Rattle.std.proofs.lemmas.List.{take_all}
use Rattle.kc_report.specs.Table.{MaySay}
use Rattle.kc_combine.specs.CombinedHeaders.{CombinesHeaders}
use Rattle.kc_combine.specs.CombinedTexts.{HasNoHeaderOf, header_of}
use Rattle.kc_combine.proofs.CombinedTextLemmas.{no_header_of, said_headers}
use Rattle.kc_combine.proofs.combined_texts.header_of_all.Goals as goal

pub combined_header-requires-clause-said : goal.combined_header-requires-clause-said
combined_header-requires-clause-said c =
    let all = take_all c.openings.opening-index c.args.openings.now (omega (arith, c.openings-test.false)) in
    subst (All (λ header. MaySay header.origin)) (sym (c.deref.ensures.value ∙ c.openings.invariant.headers ∙ ap (map header_of) all))
    (said_headers c.args.openings.now c.requires.said)

pub returns-clause-fault : goal.returns-clause-fault
returns-clause-fault c =
    let all = take_all c.openings.opening-index c.args.openings.now (omega (arith, c.openings-test.false)) in
    let headers = c.deref.ensures.value ∙ c.openings.invariant.headers ∙ ap (map header_of) all in
    rw c.header_fault.ensures (no_header_of c.args.combining (map header_of c.args.openings.now) c.in-Err.fault
    (subst (λ headers. CombinesHeaders c.args.combining headers (Err c.in-Err.fault)) headers c.in-Err.ensures))

use Rattle.std.proofs.Common.{◌≡◌, ◌+◌, ◌++◌, ◌∷◌, [], suc, All, Ok, Err, arith, sym, subst, refl, ◌∙◌}
use Rattle.std.proofs.lemmas.List.{length-set, map-append}
use Rattle.kc_report.specs.Table.{MaySay}
use Rattle.kc_combine.specs.CombinedHeaders.{CombinesHeaders}
use Rattle.kc_combine.specs.CombinedTexts.{header_seen}
use Rattle.kc_combine.proofs.JudgedTextLemmas.{can_combine, can_not, give_all, give_more, no_header, said_tables, total_more}
use Rattle.kc_combine.proofs.judged_texts.judge_texts.Goals as goal

pub sources-preserved : goal.sources-preserved
sources-preserved g c =
    let s = c.sources.invariant in
    let (tables, to, headers, total) = s.given in
    let (table, gives, header, more) = c.in-Ok.ensures.judged in
    let next : c.sources.i + 1 ≡ suc c.sources.i = omega arith in
    record {
      given = (
        tables ++ table ∷ [],
        rw next (give_more g.S.Source.seen c.args.limit c.sources.i c.args.sources.now c.sources.sources tables c.judge_text.new.source
            c.index-sources-i.result table to c.sources-test.true gives),
        c.push_reserved.ensures.items ∙ (λ i. headers i ++ header i ∷ []) ∙ sym (map-append header_seen tables (table ∷ [])),
        total_more tables table c.sources.total c.in-Ok.judged.total c.saturating_add-total.result total more c.saturating_add-total.ensures,
      );
      room = omega (arith, s.room, c.push_reserved.ensures.capacity);
      counted = omega (arith, s.counted, c.push_reserved.ensures.len);
      long = length-set c.sources.sources c.sources.i c.judge_text.new.source ∙ s.long;
    }

pub combined_header-requires-clause-said : goal.combined_header-requires-clause-said
combined_header-requires-clause-said g c =
    let s = c.sources.invariant in
    let (tables, to, headers, total) = s.given in
    subst (All (λ header. MaySay header.origin)) (sym (c.deref.ensures.value ∙ headers))
    (said_tables g.S.Source.seen c.args.limit c.sources.i c.args.sources.now c.sources.sources tables to)

pub returns-in-Ok-combined_header-clause-judged : goal.returns-in-Ok-combined_header-clause-judged
returns-in-Ok-combined_header-clause-judged g c =
    let s = c.sources.invariant in
    let (tables, to, headers, total) = s.given in
    let seen = g.S.Source.seen in
    let given = give_all seen c.args.limit c.sources.i c.args.sources.now c.sources.sources tables to c.sources-test.false s.long in
    let headed = subst (λ headers. CombinesHeaders c.args.combining headers (Ok c.in-Ok-combined_header.header)) (c.deref.ensures.value ∙ headers)
    c.in-Ok-combined_header.ensures in
    can_combine seen c.args.limit c.args.combining c.args.sources.now c.sources.sources tables c.in-Ok-combined_header.header c.sources.total
    given headed total c.with_total.result c.with_total.ensures.header c.with_total.ensures.few

pub returns-in-Ok-combined_header-clause-fault : goal.returns-in-Ok-combined_header-clause-fault
returns-in-Ok-combined_header-clause-fault g c =
    let s = c.sources.invariant in
    let (tables, to, headers, total) = s.given in
    let seen = g.S.Source.seen in
    let given = give_all seen c.args.limit c.sources.i c.args.sources.now c.sources.sources tables to c.sources-test.false s.long in
    let headed = subst (λ headers. CombinesHeaders c.args.combining headers (Ok c.in-Ok-combined_header.header)) (c.deref.ensures.value ∙ headers)
    c.in-Ok-combined_header.ensures in
    can_not seen c.args.limit c.args.combining c.args.sources.now c.sources.sources tables c.in-Ok-combined_header.header c.sources.total
    given headed total c.with_total.result c.with_total.ensures.fault

pub returns-clause-fault : goal.returns-clause-fault
returns-clause-fault g c =
    let s = c.sources.invariant in
    let (tables, to, headers, total) = s.given in
    let seen = g.S.Source.seen in
    let given = give_all seen c.args.limit c.sources.i c.args.sources.now c.sources.sources tables to c.sources-test.false s.long in
    rw c.header_fault.ensures (no_header seen c.args.limit c.args.combining c.args.sources.now c.sources.sources tables
    c.in-Err-combined_header.fault given
    (subst (λ headers. CombinesHeaders c.args.combining headers (Err c.in-Err-combined_header.fault)) (c.deref.ensures.value ∙ headers)
    c.in-Err-combined_header.ensures))

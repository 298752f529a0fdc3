use Rattle.std.proofs.Common.{◌∙◌, ap, arith, inl, inr, length, map, refl, subst}
use Rattle.kc_io.specs.Sources.{Seen}
use Rattle.kc_combine.specs.Derivations.{combining_of}
use Rattle.kc_combine.specs.JudgedTexts.{CanCombine, JudgesNot}
use Rattle.kc_combine.proofs.CombinedTextLemmas.{vec_after}
use Rattle.kc_combine.proofs.ViewLemmas.{can_combine, judges_not}
use Rattle.kc_tool.specs.Commands.{most_table_bytes}
use Rattle.kc_tool.proofs.two_passes.Passes.derive.Goals as goal

pub returns-in-Err-clause-done : goal.returns-in-Err-clause-done
returns-in-Err-clause-done g c =
    let seen = g.F.Source.seen in
    let first = c.args.self.now.first in
    let was = c.deref_mut.ensures.value in
    let later = c.judge_texts-judged.new.sources in
    let after = vec_after first.len later first.items (omega (arith, first.ok)) (c.judge_texts-judged.ensures.long ∙ ap length was) in
    let judged = subst (λ combining. JudgesNot seen combining most_table_bytes c.deref_mut.result.now later c.in-Err.fault) c.combining.ensures c.in-Err.ensures.fault in
    let why = subst (λ olds. JudgesNot (λ (v : Seen). v) (combining_of c.args.derived) most_table_bytes (map seen olds) (map seen later) c.in-Err.fault) was
    (judges_not seen most_table_bytes (combining_of c.args.derived) c.deref_mut.result.now later c.in-Err.fault judged) in
    rw after (inl (c.in-Err.fault, why, refl, refl, c.combine_fault.ensures))

pub returns-in-Err-derive_from_texts-clause-done : goal.returns-in-Err-derive_from_texts-clause-done
returns-in-Err-derive_from_texts-clause-done g c =
    let seen = g.F.Source.seen in
    let first = c.args.self.now.first in
    let was = c.deref_mut.ensures.value in
    let later = c.judge_texts-judged.new.sources in
    let after = vec_after first.len later first.items (omega (arith, first.ok)) (c.judge_texts-judged.ensures.long ∙ ap length was) in
    let header = c.in_default.field-0 in
    let judged = subst (λ combining. CanCombine seen combining most_table_bytes c.deref_mut.result.now later header) c.combining.ensures c.in_default.ensures.judged in
    let can = can_combine seen most_table_bytes first.items was judged in
    let fault = c.in-Err-derive_from_texts.fault in
    rw after (inr (header, can, (fault, c.in-Err-derive_from_texts.ensures.fault, c.combine_fault-in-Err-derive_from_texts.ensures)))

pub returns-in-Ok-clause-done : goal.returns-in-Ok-clause-done
returns-in-Ok-clause-done g c =
    let seen = g.F.Source.seen in
    let first = c.args.self.now.first in
    let was = c.deref_mut.ensures.value in
    let later = c.judge_texts-judged.new.sources in
    let after = vec_after first.len later first.items (omega (arith, first.ok)) (c.judge_texts-judged.ensures.long ∙ ap length was) in
    let header = c.in_default.field-0 in
    let judged = subst (λ combining. CanCombine seen combining most_table_bytes c.deref_mut.result.now later header) c.combining.ensures c.in_default.ensures.judged in
    let can = can_combine seen most_table_bytes first.items was judged in
    rw after ((header, can), (c.in-Ok.totals, c.in-Ok.ensures.derived, c.told_of_totals.ensures))

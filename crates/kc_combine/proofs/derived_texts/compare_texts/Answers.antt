use Rattle.std.proofs.Common.{◌≡◌, ◌∙◌, arith, length, map, refl, subst}
use Rattle.std.proofs.lemmas.List.{length-map}
use Rattle.kc_io.specs.Sinks.{Writes}
use Rattle.kc_combine.specs.Compared.{comparison_text}
use Rattle.kc_combine.specs.Derivations.{DerivesNoTexts, DerivesTexts}
use Rattle.kc_combine.specs.declared.derived.Derived.TheVariants.{Comparison}
use Rattle.kc_combine.proofs.DerivedLemmas.{compared_texts, no_comparison, written_err, written_ok}
use Rattle.kc_combine.proofs.derived_texts.compare_texts.Goals as goal

pub returns-in-Ok-clause-derived : goal.returns-in-Ok-clause-derived
returns-in-Ok-clause-derived g c =
    let seen = g.S.Source.seen in
    let olds = map seen c.args.sources.now.items in
    let news = map seen c.visit_texts.new.sources.items in
    let old = g.W.Sink.seen c.args.writer.now in
    let new = g.W.Sink.seen c.write_comparison.new.writer in
    let comparing = c.visit_texts.new.visitor in
    let set = c.visit_texts.ensures.setting ∙ c.new-comparing.ensures.solid in
    let mapped = length-map c.args.sources.now.items seen in
    let two : length olds ≡ 2 = omega (arith, mapped, c.requires) in
    let visits = c.in-Ok.ensures.visited c.new-comparing.ensures.none in
    let is_text = compared_texts c.args.solid c.args.limit olds news comparing set two visits in
    let writes = subst (λ numbers. Writes old new c.write_comparison.result (comparison_text numbers)) c.comparison.ensures c.write_comparison.ensures in
    written_ok c.written.result c.write_comparison.result old new (comparison_text comparing.numbers)
    (DerivesTexts (Comparison c.args.solid) c.args.limit olds news old new) c.written.ensures writes
    (λ done. (visits.tables, visits.given, (refl, (comparison_text comparing.numbers, is_text, done))))

pub returns-in-Ok-clause-fault : goal.returns-in-Ok-clause-fault
returns-in-Ok-clause-fault g c =
    let seen = g.S.Source.seen in
    let olds = map seen c.args.sources.now.items in
    let news = map seen c.visit_texts.new.sources.items in
    let old = g.W.Sink.seen c.args.writer.now in
    let new = g.W.Sink.seen c.write_comparison.new.writer in
    let comparing = c.visit_texts.new.visitor in
    let set = c.visit_texts.ensures.setting ∙ c.new-comparing.ensures.solid in
    let mapped = length-map c.args.sources.now.items seen in
    let two : length olds ≡ 2 = omega (arith, mapped, c.requires) in
    let visits = c.in-Ok.ensures.visited c.new-comparing.ensures.none in
    let is_text = compared_texts c.args.solid c.args.limit olds news comparing set two visits in
    let writes = subst (λ numbers. Writes old new c.write_comparison.result (comparison_text numbers)) c.comparison.ensures c.write_comparison.ensures in
    written_err c.written.result c.write_comparison.result old new (comparison_text comparing.numbers)
    (DerivesNoTexts (Comparison c.args.solid) c.args.limit olds news old new) c.written.ensures writes
    (λ begun. (visits.tables, visits.given, (comparison_text comparing.numbers, is_text, begun)))

pub returns-in-Err-clause-fault : goal.returns-in-Err-clause-fault
returns-in-Err-clause-fault g c =
    no_comparison g.S.Source.seen c.args.limit c.args.sources.now.items c.visit_texts.new.sources.items _ _
    (g.W.Sink.seen c.args.writer.now) c.args.solid c.in-Err.fault c.in-Err.ensures.fault

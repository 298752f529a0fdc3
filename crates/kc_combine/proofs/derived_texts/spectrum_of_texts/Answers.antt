use Rattle.std.proofs.Common.{◌≡◌, ◌∙◌, arith, length, map, refl}
use Rattle.std.proofs.lemmas.List.{length-map}
use Rattle.kc_combine.specs.CombinedTexts.{rows_of_each}
use Rattle.kc_combine.specs.Compared.{counts_of_words, spectrum_text}
use Rattle.kc_combine.specs.CopySpectra.{HasSpectrum}
use Rattle.kc_combine.specs.Derivations.{DerivesNoTexts, DerivesTexts}
use Rattle.kc_combine.specs.declared.derived.Derived.TheVariants.{Spectrum}
use Rattle.kc_combine.proofs.DerivedLemmas.{few_given, no_spectrum, spectrum_of, written_err, written_ok}
use Rattle.kc_combine.proofs.derived_texts.spectrum_of_texts.Goals as goal

pub returns-in-Ok-visit_texts-clause-derived : goal.returns-in-Ok-visit_texts-clause-derived
returns-in-Ok-visit_texts-clause-derived g c =
    let seen = g.S.Source.seen in
    let olds = map seen c.args.sources.now.items in
    let news = map seen c.visit_texts.new.sources.items in
    let old = g.W.Sink.seen c.args.writer.now in
    let new = g.W.Sink.seen c.write_spectrum.new.writer in
    let spectrum = c.visit_texts.new.visitor in
    let set = c.visit_texts.ensures.setting ∙ c.in-Ok.ensures.high in
    let mapped = length-map c.args.sources.now.items seen in
    let two : length olds ≡ 2 = omega (arith, mapped, c.requires.two) in
    let visits = c.in-Ok-visit_texts.ensures.visited c.in-Ok.ensures.none in
    let words = counts_of_words visits.visits.header.k (rows_of_each visits.tables) in
    let few = few_given c.args.limit olds news (HasSpectrum spectrum) two visits in
    written_ok c.written.result c.write_spectrum.result old new (spectrum_text spectrum.high words)
    (DerivesTexts (Spectrum c.args.high) c.args.limit olds news old new) c.written.ensures
    (c.write_spectrum.ensures words visits.visits.visited few)
    (λ done. (visits.tables, visits.given, (refl, (spectrum_text spectrum.high words, spectrum_of c.args.high spectrum visits.tables set visits.visits, done))))

pub returns-in-Ok-visit_texts-clause-fault : goal.returns-in-Ok-visit_texts-clause-fault
returns-in-Ok-visit_texts-clause-fault g c =
    let seen = g.S.Source.seen in
    let olds = map seen c.args.sources.now.items in
    let news = map seen c.visit_texts.new.sources.items in
    let old = g.W.Sink.seen c.args.writer.now in
    let new = g.W.Sink.seen c.write_spectrum.new.writer in
    let spectrum = c.visit_texts.new.visitor in
    let set = c.visit_texts.ensures.setting ∙ c.in-Ok.ensures.high in
    let mapped = length-map c.args.sources.now.items seen in
    let two : length olds ≡ 2 = omega (arith, mapped, c.requires.two) in
    let visits = c.in-Ok-visit_texts.ensures.visited c.in-Ok.ensures.none in
    let words = counts_of_words visits.visits.header.k (rows_of_each visits.tables) in
    let few = few_given c.args.limit olds news (HasSpectrum spectrum) two visits in
    written_err c.written.result c.write_spectrum.result old new (spectrum_text spectrum.high words)
    (DerivesNoTexts (Spectrum c.args.high) c.args.limit olds news old new) c.written.ensures
    (c.write_spectrum.ensures words visits.visits.visited few)
    (λ begun. (visits.tables, visits.given, (spectrum_text spectrum.high words, spectrum_of c.args.high spectrum visits.tables set visits.visits, begun)))

pub returns-clause-fault : goal.returns-clause-fault
returns-clause-fault g c =
    no_spectrum g.S.Source.seen c.args.limit c.args.sources.now.items c.visit_texts.new.sources.items _ _
    (g.W.Sink.seen c.args.writer.now) c.args.high c.in-Err.fault c.in-Err.ensures.fault

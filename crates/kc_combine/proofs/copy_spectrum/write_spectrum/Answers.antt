use Rattle.std.proofs.Common.{◌+◌, ap, sym, ◌∙◌, subst}
use Rattle.kc_io.specs.Sinks.{Writes}
use Rattle.kc_combine.specs.Compared.{spectrum_text}
use Rattle.kc_combine.specs.CopySpectra.{HasSpectrum, SpectrumSeen, rows_text}
use Rattle.kc_combine.proofs.SpectrumLemmas.{text_of_cells}
use Rattle.kc_combine.proofs.copy_spectrum.write_spectrum.Goals as goal

pub returns : goal.returns
returns g c = λ words has few.
    let seen = g.W.Sink.seen in
    let high = c.spectrum.inside.high in
    let cells = c.spectrum.inside.cells.items in
    let (small, long) = c.spectrum.invariant in
    let is = subst (λ (s : SpectrumSeen). HasSpectrum s words) (sym c.spectrum.view_is) has in
    let text = ap (rows_text (high + 2)) c.deref.ensures.value ∙ text_of_cells high cells words long is few
    ∙ ap (λ (s : SpectrumSeen). spectrum_text s.high words) c.spectrum.view_is in
    subst (Writes (seen c.args.writer.now) (seen c.write_rows.new.writer) c.write_rows.result) text c.write_rows.ensures

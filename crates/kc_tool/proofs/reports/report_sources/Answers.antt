use Rattle.std.proofs.Common.{◌≡◌, ◌∙◌, Err, ap, false, inr, sym, refl}
use Rattle.kc_io.specs.Sources.{Seen}
use Rattle.kc_tool.specs.Tallies.{reader_lacks_memory, words_of}
use Rattle.kc_tool.specs.declared.tool_faults.ToolFault.TheVariants.{Memory}
use Rattle.kc_tool.proofs.CommandsLemmas.{nothing_named, something_named}
use Rattle.kc_tool.proofs.ReportsLemmas.{put_otherwise, reader_lacked}
use Rattle.kc_tool.proofs.SourcesLemmas.{refused_alone, refused_without, tallied_alone}
use Rattle.kc_tool.proofs.reports.report_sources.Goals as goal

pub returns-then-not-is_empty : goal.returns-then-not-is_empty
returns-then-not-is_empty g c =
    let seen = g.R.Source.seen in
    let empty = ap (λ (s : Seen). s.left) c.new-nothing.ensures in
    let after = c.report_files-reported.new in
    let named = c.report_files-reported.ensures.names in
    let some = something_named c.args.sources.now _ (sym c.is_empty-is_empty.ensures ∙ c.if-not-is_empty.true) refl in
    put_otherwise c.args.options.now c.report_files-reported.result
    (tallied_alone seen c.new-nothing.result after.input empty c.args.sources.now after.files named c.args.options.now (words_of c.args.list))
    (λ fault is. refused_alone seen c.new-nothing.result after.input empty c.args.sources.now after.files some named c.args.options.now fault)
    c.report_files-reported.ensures.done

pub returns-in-Ok : goal.returns-in-Ok
returns-in-Ok g c =
    let seen = g.R.Source.seen in
    let empty = ap (λ (s : Seen). s.left) c.new-nothing.ensures in
    let after = c.report_files-reported.new in
    put_otherwise c.args.options.now _
    (tallied_alone seen c.new-nothing.result after.input empty c.args.sources.now after.files c.report_files-reported.ensures.names
    c.args.options.now (words_of c.args.list))
    (λ fault is h. let no : ⊥ = cc in absurd no) c.in-Ok.ensures.done

pub returns-then-reader_lacks_memory : goal.returns-then-reader_lacks_memory
returns-then-reader_lacks_memory g c =
    inr (
      Memory,
      refl,
      tt,
      reader_lacked c.args.options.now _ _ c.in-Err.fault
          (sym c.reader_lacks_memory.ensures ∙ c.if-reader_lacks_memory.true) c.in-Err.ensures.done,
    )

pub returns : goal.returns
returns g c =
    let seen = g.R.Source.seen in
    let empty = ap (λ (s : Seen). s.left) c.new-nothing.ensures in
    let unfailed = ap (λ (s : Seen). s.history.failures) c.new-nothing.ensures in
    let after = c.report_files-reported.new in
    let named = c.report_files-reported.ensures.names in
    let none = nothing_named c.args.sources.now _ (sym c.is_empty-is_empty.ensures ∙ c.if-not-is_empty.false) refl in
    let other = sym c.reader_lacks_memory.ensures ∙ c.if-reader_lacks_memory.false in
    put_otherwise c.args.options.now (Err c.in-Err.fault)
    (tallied_alone seen c.new-nothing.result after.input empty c.args.sources.now after.files named c.args.options.now (words_of c.args.list))
    (λ fault is h.
    let same : fault ≡ c.in-Err.fault = cc in
    let lacks : reader_lacks_memory fault ≡ false = rw same other in
    refused_without seen c.new-nothing.result after.input empty c.args.sources.now after.files none named unfailed
    c.as_slice-rest.ensures.unfailed c.args.options.now fault lacks h)
    c.in-Err.ensures.done

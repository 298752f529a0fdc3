use Rattle.kc_tool.proofs.standard_streams.program.Goals as goal

pub returns-clause-ends : goal.returns-clause-ends
returns-clause-ends g c = record {
  new = _;
  errors_after = _;
  ends = rw (c.source_over-input.ensures, c.sink_over-output.ensures, c.new-errors.ensures, c.with_notes-files.ensures, c.new.ensures)
      at c.run.ensures.texts;
}

use Rattle.kc_fastx.specs.Titles.{reads_in}
use Rattle.kc_fastx.proofs.record_reader.Reading.next_titled.Goals as goal

pub returns-clause-behind : goal.returns-clause-behind
returns-clause-behind g c = λ start limit records h. c.next_of.ensures.behind start limit (reads_in records) h.given

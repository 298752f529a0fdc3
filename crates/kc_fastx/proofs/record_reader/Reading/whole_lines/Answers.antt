use Rattle.kc_fastx.proofs.ClosedLemmas.{whole_found}
use Rattle.kc_fastx.proofs.TakingLemmas.{longest_found}
use Rattle.kc_fastx.proofs.record_reader.Reading.whole_lines.Goals as goal

pub returns-in-Some-clause-whole : goal.returns-in-Some-clause-whole
returns-in-Some-clause-whole c =
    rw (← c.self.view_is, c.as_slice-bytes.ensures)
    (whole_found c.self.inside.ended c.self.inside.intake.bytes c.in-Some.end c.if-self.false
    (rw c.as_slice-bytes.ensures at c.in-Some.ensures.0.high) (rw c.as_slice-bytes.ensures at c.in-Some.ensures.1))

pub returns-in-Some-clause-longest : goal.returns-in-Some-clause-longest
returns-in-Some-clause-longest c = λ more.
    rw (← c.self.view_is, c.as_slice-bytes.ensures)
    (longest_found c.self.inside.intake.bytes c.in-Some.end
    (rw c.as_slice-bytes.ensures at c.in-Some.ensures.0.high) (rw c.as_slice-bytes.ensures at c.in-Some.ensures.1)
    (rw c.as_slice-bytes.ensures at c.in-Some.ensures.0.after))

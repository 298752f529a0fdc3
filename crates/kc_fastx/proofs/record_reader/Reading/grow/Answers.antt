use Rattle.std.proofs.Common.{◌≡◌, true, false, arith, ◌∙◌, ◌+◌, ap, sym, length, Some}
use Rattle.std.proofs.lemmas.Grind.{common_steps}
use Rattle.kc_gzip.proofs.IntakesLemmas.{filled_both, filled_fails}
use Rattle.kc_fastx.proofs.ReadingLemmas.{filling_none, some_came}
use Rattle.kc_fastx.proofs.record_reader.Reading.grow.Goals as goal

pub filling-init : goal.filling-init
filling-init g c =
    let failed = rw (← c.self.view_is) at c.requires.failed in
    rw (← c.self.view_is)
    (record {
      filling = filling_none (g.S.Source.seen c.args.source.now) _ (rw (← c.self.view_is) at c.requires.ended) failed;
      few = c.self.invariant.0;
      fits = c.self.invariant.1 failed;
      wanted = first_of (omega arith, grind (arith, common_steps));
      short = omega arith;
    })

pub returns-in-Err-clause-grows : goal.returns-in-Err-clause-grows
returns-in-Err-clause-grows g c = (
  filled_fails (g.S.Source.seen c.fill.new.source) c.in-Err.why c.filling.invariant.filling.filled
      c.in-Err.ensures.filled,
  ap Some c.from.ensures,
)

pub returns-in-Ok-false-clause-grows : goal.returns-in-Ok-false-clause-grows
returns-in-Ok-false-clause-grows g c =
    let filling = c.filling.invariant.filling in
    let told = rw c.in-Ok-false.field-0-test at c.in-Ok-false.ensures.filled in
    record {
      filled = filled_both filling.filled told.0;
      whole = λ ended. told.2;
      some = tt;
      used = filling.used;
      lines_used = filling.lines_used;
      is_fastq = filling.is_fastq;
      unfailed = filling.unfailed;
    }

pub returns-then-as_slice-wanted-clause-grows : goal.returns-then-as_slice-wanted-clause-grows
returns-then-as_slice-wanted-clause-grows g c =
    let filling = c.filling.invariant.filling in
    let told = rw c.in-Ok-true.field-0-test at c.in-Ok-true.ensures.filled in
    let both = filled_both filling.filled told.0 in
    record {
      filled = both;
      whole = λ ended. absurd (let no : true ≡ false = sym ended ∙ filling.unended in cc);
      some = rw filling.unended (some_came both filling.filled told.0 told.1);
      used = filling.used;
      lines_used = filling.lines_used;
      is_fastq = filling.is_fastq;
      unfailed = filling.unfailed;
    }

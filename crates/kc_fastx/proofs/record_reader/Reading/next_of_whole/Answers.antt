use Rattle.std.proofs.Common.{rules, arith, refl, ◌≡◌, ◌∙◌, ap, sym, subst, true, true≢false, ◌-◌}
use Rattle.std.proofs.Common.{inl, inr, ◌⊎◌, Ok, Err, [], ◌∷◌, ◌++◌, length}
use Rattle.std.proofs.lemmas.Result.{err_from_is_err_and}
use Rattle.kc_fastx.specs.Lines.{Cursor, lines, skip_blanks}
use Rattle.kc_fastx.specs.Reading.{Stand, HasGiven, IsSure}
use Rattle.kc_fastx.specs.declared.record_reader.Next.TheVariants.{Given}
use Rattle.kc_fastx.specs.Titles.{TellsRecord, title_at}
use Rattle.kc_fastx.proofs.TailLemmas.{skip_blanks-again}
use Rattle.kc_fastx.proofs.TitlesLemmas.{record_read}
use Rattle.kc_fastx.proofs.ReadingLemmas.{ArePassed, IsRead, behind_is, given_fault, fault_comes, given_more}
use Rattle.kc_fastx.proofs.ReadingLemmas.{reaches, uses_some}
use Rattle.kc_fastx.proofs.ReadingLemmas.{uses_front}
use Rattle.kc_fastx.proofs.TakingLemmas.{err_is, next_title}
use Rattle.kc_fastx.specs.declared.read_faults.FastxFault.TheVariants.{Memory}
use Rattle.kc_fastx.specs.Reading.{UsesFront}
use Rattle.kc_fastx.proofs.record_reader.Reading.next_of_whole.Goals as goal
use Rattle.kc_fastx.proofs.record_reader.Reading.next_of_whole.Goals.{After-use_up, Joined-else-not-self}
use Rattle.kc_fastx.proofs.record_reader.Reading.next_of_whole.Goals.{else-not-self-via-then-not-self+else-not-is_sure}
use Rattle.kc_fastx.proofs.record_reader.Reading.next_of_whole.Goals.{else-not-self-via-else-not-self}
use Rattle.kc_fastx.proofs.record_reader.Reading.next_of_whole.Goals.{then-is_titled+in_ok-extend_from_slice, else-is_titled}

pub next_record-next-requires : goal.next_record-next-requires
next_record-next-requires c =
    let left = c.pass_blanks.ensures.left in
    ap skip_blanks left ∙ skip_blanks-again (lines c.whole_lines-whole.result.now) ∙ sym left

-- the result stays right, whatever the source still gives
is_sure : (c : Joined-else-not-self)
    → (c.args.self.now.ended ≡ true) ⊎ IsSure c.next_record-next.result c.next_record-next.new.lines.left
is_sure c = elim c.else-not-self.branch [
  | else-not-self-via-then-not-self+else-not-is_sure w ↦ inr (w.is_sure.ensures.sure (search rules))
  | else-not-self-via-else-not-self w ↦ inl (search rules)
]

pub returns-in_err-read-clause-tells : goal.returns-in_err-read-clause-tells
returns-in_err-read-clause-tells c = λ start now limit reads h.
    let taken = ap (λ (s : Stand). s.lines_used) c.self.view_is in
    let is_fastq = ap (λ (s : Stand). s.is_fastq) c.self.view_is in
    let fails = rw (c.pass_blanks.ensures.counted, c.pass_blanks.ensures.left, taken, is_fastq)
    at c.in_err-read.ensures.err in
    let sure = rw c.in_err-read.was at (is_sure (goal.at.returns-in_err-read-clause-tells c).Joined-else-not-self) in
    let p = err_from_is_err_and c.from_residual.result c.from_residual.ensures.1 in
    rw (p.1, p.2) (given_fault h c.whole_lines-whole.result.now c.next_record-next.new.lines.left
    c.in_err-read.field-0.0 c.whole_lines-whole.ensures.whole fails sure)

pub returns-in_err-read-clause-behind : goal.returns-in_err-read-clause-behind
returns-in_err-read-clause-behind c = λ start now limit reads h.
    let taken = ap (λ (s : Stand). s.lines_used) c.self.view_is in
    let is_fastq = ap (λ (s : Stand). s.is_fastq) c.self.view_is in
    let fails = rw (c.pass_blanks.ensures.counted, c.pass_blanks.ensures.left, taken, is_fastq)
    at c.in_err-read.ensures.err in
    let sure = rw c.in_err-read.was at (is_sure (goal.at.returns-in_err-read-clause-behind c).Joined-else-not-self) in
    let p = err_from_is_err_and c.from_residual.result c.from_residual.ensures.1 in
    rw (p.1, p.2) (fault_comes h c.whole_lines-whole.result.now c.next_record-next.new.lines.left
    c.in_err-read.field-0.0 c.whole_lines-whole.ensures.whole fails sure)

-- the blank lines and the record that were passed
passed : (c : After-use_up) → ArePassed c.args.self.now (record {
  taken = c.self.inside.lines_used;
  left = lines c.whole_lines-whole.result.now;
  bytes = c.whole_lines-whole.result.now;
}) c.pass_blanks.new.self c.next_record-next.new.lines
passed c = record {
  taken = ap (λ (s : Stand). s.lines_used) c.self.view_is;
  counted_blank = c.pass_blanks.ensures.counted;
  passes_blank = c.pass_blanks.ensures.passes;
  counted = c.in_ok-read.ensures.counted;
  passes = c.in_ok-read.ensures.passes;
}

-- the record that was read
one : (c : After-use_up) → IsRead c.args.self.now c.whole_lines-whole.result.now c.next_record-next.new.lines
    (c.in-Some.read, c.in-Some.is_fastq) (length c.whole_lines-whole.result.now - length c.lines-2.inside.left.now)
one c =
    let whole = c.whole_lines-whole.result.now in
    let after = c.next_record-next.new.lines in
    let rest = ap (λ (s : Cursor). s.bytes) c.lines-2.view_is in
    let left : after.left ≡ lines after.bytes = sym (ap (λ (s : Cursor). s.left) c.lines-2.view_is) ∙ ap lines rest in
    let is_fastq = ap (λ (s : Stand). s.is_fastq) c.self.view_is in
    record {
      has_whole = c.whole_lines-whole.ensures.whole;
      reaches = reaches (passed c) whole refl refl left;
      one = rw (is_fastq, c.pass_blanks.ensures.left, c.in-Some.is) at c.in_ok-read.ensures.ok;
      sure = rw (c.in_ok-read.was, c.in-Some.is) at (is_sure (goal.at.After-use_up c).Joined-else-not-self);
      used = ap (λ v. length whole - length v) rest;
    }

pub returns-clause-tells : goal.returns-clause-tells
returns-clause-tells c = λ start now limit reads h.
    let behind = behind_is (length c.whole_lines-whole.result.now - length c.lines-2.inside.left.now)
    c.in-Some.is_fastq c.self.view_is c.use_up.ensures (ap (λ (s : Cursor). s.taken) c.lines-2.view_is) in
    subst (λ v. HasGiven start now limit (reads ++ c.in-Some.read ∷ []) v) (sym behind)
    (given_more (one c) start now limit reads h)

pub returns-clause-titled : goal.returns-clause-titled
returns-clause-titled c = λ wanted.
    let stand = c.args.self.now in
    let whole = c.whole_lines-whole.result.now in
    let is : c.if-is_titled.title.items ≡ title_at (skip_blanks (lines whole)) = elim c.if-is_titled.branch [
      | then-is_titled+in_ok-extend_from_slice w ↦ ap (λ v. v.items) w.title-is ∙ w.in_ok-extend_from_slice.ensures.items
          ∙ ap (λ v. v ++ w.title.result.now) w.clear.ensures.items ∙ w.title.ensures
          ∙ ap (λ (s : Cursor). title_at s.left) c.lines.view_is ∙ ap title_at c.pass_blanks.ensures.left
      | else-is_titled w ↦ absurd (true≢false (sym wanted ∙ w.if-is_titled.false))
    ] in
    let behind = behind_is (length whole - length c.lines-2.inside.left.now) c.in-Some.is_fastq c.self.view_is
    c.use_up.ensures (ap (λ (s : Cursor). s.taken) c.lines-2.view_is) in
    subst (λ v. TellsRecord stand v c.if-is_titled.title.items (Ok (Given c.in-Some.read))) (sym behind)
    (refl, refl, λ more none. record_read (one c) _ is more none)

pub returns-clause-moves : goal.returns-clause-moves
returns-clause-moves c =
    let next = rw c.in-Some.is at c.in_ok-read.ensures.ok in
    let some = uses_some (passed c) c.self.inside.is_fastq (c.in-Some.read, c.in-Some.is_fastq)
    c.pass_blanks.ensures.left next in
    let rest = ap (λ (s : Cursor). length s.bytes) c.lines-2.view_is in
    let used = ap (λ (s : Stand). s.used) c.self.view_is in
    omega (arith, some, rest, used)

pub returns-clause-uses : goal.returns-clause-uses
returns-clause-uses c =
    let behind = behind_is (length c.whole_lines-whole.result.now - length c.lines-2.inside.left.now)
    c.in-Some.is_fastq c.self.view_is c.use_up.ensures (ap (λ (s : Cursor). s.taken) c.lines-2.view_is) in
    subst (λ v. UsesFront c.args.self.now v) (sym behind) (uses_front (one c))

pub returns-in_err-read-clause-memory : goal.returns-in_err-read-clause-memory
returns-in_err-read-clause-memory c = λ refused.
    let is_fastq = ap (λ (s : Stand). s.is_fastq) c.self.view_is in
    let p = err_from_is_err_and c.from_residual.result c.from_residual.ensures.1 in
    let fault = sym p.2 ∙ err_is c.from_residual.result p.0 Memory p.1 refused in
    let is = subst (λ v. c.next_record-next.result ≡ Err v) fault c.in_err-read.was in
    record {
      whole = c.whole_lines-whole.result.now;
      has_whole = c.whole_lines-whole.ensures.whole;
      title = rw (c.pass_blanks.ensures.left, is_fastq) at (c.next_record-next.ensures.memory is);
    }

pub returns-in_err-extend_from_slice-clause-memory : goal.returns-in_err-extend_from_slice-clause-memory
returns-in_err-extend_from_slice-clause-memory c = λ refused.
    let whole = lines c.whole_lines-whole.result.now in
    let is_fastq = ap (λ (s : Stand). s.is_fastq) c.self.view_is in
    let one = rw (is_fastq, c.pass_blanks.ensures.left, c.in-Some.is) at c.in_ok-read.ensures.ok in
    record {
      whole = c.whole_lines-whole.result.now;
      has_whole = c.whole_lines-whole.ensures.whole;
      title = next_title c.args.self.now.is_fastq (skip_blanks whole) _ _ (skip_blanks-again whole) one;
    }

use Rattle.std.proofs.Common.{rules, ◌≡◌, ◌∙◌, ap, sym, arith, inl, true, false}
use Rattle.std.proofs.lemmas.Grind.{common_steps}
use Rattle.kc_fastx.specs.Lines.{Cursor, begins_with, next_begins_with}
use Rattle.kc_fastx.specs.Fasta.{greater_than}
use Rattle.kc_fastx.proofs.LinesLemmas.{left-begins, next_begins-ends}
use Rattle.kc_fastx.proofs.TakingLemmas.{fasta_next}
use Rattle.kc_fastx.proofs.record_reader.next_record.Goals as goal

pub next_fasta-requires : goal.next_fasta-requires
next_fasta-requires c =
    let bytes = c.lines.inside.left.now in
    let front : c.eq.result ≡ begins_with greater_than bytes = first_of (search rules, grind (arith, common_steps)) in
    let left = ap (λ (s : Cursor). s.left) c.lines.view_is in
    next_begins-ends greater_than c.args.lines.now.left
    (sym (left-begins greater_than bytes (omega arith) left) ∙ sym front ∙ c.if-eq.true)

pub returns-in_err-read-clause-memory : goal.returns-in_err-read-clause-memory
returns-in_err-read-clause-memory c = λ refused.
    let bytes = c.lines.inside.left.now in
    let front : c.eq.result ≡ begins_with greater_than bytes = first_of (search rules, grind (arith, common_steps)) in
    let left = ap (λ (s : Cursor). s.left) c.lines.view_is in
    let begins : next_begins_with greater_than c.args.lines.now.left ≡ true =
    sym (left-begins greater_than bytes (omega arith) left) ∙ sym front ∙ c.if-eq.true in
    let fasta : c.args.is_fastq ≡ false = first_of (search rules, cc) in
    inl (fasta_next c.args.is_fastq c.args.lines.now.left fasta begins)

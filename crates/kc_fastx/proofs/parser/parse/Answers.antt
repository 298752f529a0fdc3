use Rattle.std.proofs.Common.{rules, ◌≡◌, ◌∙◌, ap, sym, true, false, ◌≤◌, [], length, subst, arith}
use Rattle.std.proofs.lemmas.Grind.{common_steps}
use Rattle.std.proofs.lemmas.Result.{IfOk-weaker, IfErr-weaker}
use Rattle.kc_fastx.specs.Lines.{Cursor, begins_with, lines, line_count, next_begins_with}
use Rattle.kc_fastx.specs.Records.{Records}
use Rattle.kc_fastx.specs.Fasta.{IsFastaRecord, greater_than}
use Rattle.kc_fastx.specs.Parsing.{IsFastq, HasFault, text_lines}
use Rattle.kc_fastx.specs.Reads.{base_count}
use Rattle.kc_fastx.proofs.ReadsLemmas.{base_count-fasta, base_count-fastq}
use Rattle.kc_fastx.proofs.FastqLemmas.{unless_memory}
use Rattle.kc_fastx.proofs.ParsingLemmas.{fault-fasta, fault-fastq}
use Rattle.kc_fastx.proofs.LinesLemmas.{left-begins}
use Rattle.kc_fastx.proofs.parser.parse.Goals as goal
use Rattle.kc_fastx.proofs.parser.parse.Goals.{After-eq}

pub returns-then-eq-clause-bases : goal.returns-then-eq-clause-bases
returns-then-eq-clause-bases c =
    let bytes = c.args.bytes.now in
    let ls = c.pass_blanks.new.self.left in
    let e : ls ≡ text_lines bytes = c.pass_blanks.ensures.left in
    IfOk-weaker c.parse_fasta.result (λ reads. Records IsFastaRecord ls reads.items []) (λ reads. base_count reads.items ≤ length bytes)
    (λ reads h. base_count-fasta bytes reads.items (subst (λ ls. Records IsFastaRecord ls reads.items []) e h)) c.parse_fasta.ensures.ok

-- the first line that isn't blank begins with `>` if its bytes do
begins : (c : After-eq) → begins_with greater_than c.lines.inside.left.now ≡ next_begins_with greater_than c.pass_blanks.new.self.left
begins c = left-begins greater_than c.lines.inside.left.now (omega arith) (ap (λ (s : Cursor). s.left) c.lines.view_is)

counted : (c : After-eq) → line_count c.pass_blanks.new.self ≡ length (lines c.args.bytes.now)
counted c = omega (arith, c.pass_blanks.ensures.counted)

pub returns-then-eq-clause-fault : goal.returns-then-eq-clause-fault
returns-then-eq-clause-fault c =
    let at = (goal.at.returns-then-eq-clause-fault c).After-eq in
    let front : begins_with greater_than c.lines.inside.left.now ≡ true = first_of (search rules, grind (arith, common_steps)) in
    IfErr-weaker c.parse_fasta.result _ _ (unless_memory _ (HasFault c.args.bytes.now)
    (fault-fasta c.args.bytes.now c.pass_blanks.new.self c.pass_blanks.ensures.left (counted at) (sym (begins at) ∙ front))) c.parse_fasta.ensures.err

pub returns-else-eq-clause-fault : goal.returns-else-eq-clause-fault
returns-else-eq-clause-fault c =
    let at = (goal.at.returns-else-eq-clause-fault c).After-eq in
    let front : begins_with greater_than c.lines.inside.left.now ≡ false = first_of (search rules, grind (arith, common_steps)) in
    IfErr-weaker c.parse_fastq.result _ _ (unless_memory _ (HasFault c.args.bytes.now)
    (fault-fastq c.args.bytes.now c.pass_blanks.new.self c.pass_blanks.ensures.left (counted at) (sym (begins at) ∙ front))) c.parse_fastq.ensures.err

pub returns-else-eq-clause-bases : goal.returns-else-eq-clause-bases
returns-else-eq-clause-bases c =
    let bytes = c.args.bytes.now in
    let ls = c.pass_blanks.new.self.left in
    let e : ls ≡ text_lines bytes = c.pass_blanks.ensures.left in
    IfOk-weaker c.parse_fastq.result (λ reads. IsFastq ls reads.items) (λ reads. base_count reads.items ≤ length bytes)
    (λ reads h. base_count-fastq bytes reads.items (subst (λ ls. IsFastq ls reads.items) e h)) c.parse_fastq.ensures.ok

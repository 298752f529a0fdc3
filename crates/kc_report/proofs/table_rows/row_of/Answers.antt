use Rattle.std.proofs.Common.{arith}
use Rattle.kc_report.proofs.FieldLemmas.{long_enough, letters_are, fields_are, IsSplitAt, row_said, says_none}
use Rattle.kc_report.proofs.table_rows.row_of.Goals as goal

pub returns-in_err-letters-clause-none : goal.returns-in_err-letters-clause-none
returns-in_err-letters-clause-none c =
    says_none c.args.k c.args.bytes.now c.from_residual.result (λ row below some most at.
    let short = c.in_err-letters.ensures.cases in
    let get = c.get.ensures.value in
    let long = long_enough c.args.k row at in
    absurd (omega (arith, short, get, long)))

pub returns-in_err-word-clause-none : goal.returns-in_err-word-clause-none
returns-in_err-word-clause-none c =
    says_none c.args.k c.args.bytes.now c.from_residual-in_err-word.result (λ row below some most at.
    c.in_err-word.ensures.none row.word below
    (letters_are c.args.k c.get.result row c.get.ensures.value c.in_ok-letters.ensures.cases.1 at))

pub returns-in_err-count-clause-none : goal.returns-in_err-count-clause-none
returns-in_err-count-clause-none c =
    says_none c.args.k c.args.bytes.now c.from_residual-in_err-count.result (λ row below some most at.
    c.in_err-count.ensures.none row.count some most
    (fields_are c.args.k c.get.result row c.get.ensures.value c.in_ok-letters.ensures.cases.2 at))

pub returns-clause-some : goal.returns-clause-some
returns-clause-some c =
    let cases = c.in_ok-letters.ensures.cases in
    let split : IsSplitAt c.args.bytes.now c.get.result _ _ =
    record { within = cases.0; front = cases.1; back = cases.2 } in
    row_said c.args.k c.in_ok-word.word c.in_ok-count.count c.in_ok-count.size split
    c.in_ok-word.ensures.some c.in_ok-count.ensures.some

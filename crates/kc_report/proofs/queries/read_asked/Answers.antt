use Rattle.std.proofs.Common.{arith, map, sym}
use Rattle.std.specs.Prelude.{string_bytes}
use Rattle.std.proofs.lemmas.Result.{err_from_is_err_and}
use Rattle.std.proofs.lemmas.List.{length_push}
use Rattle.kc_report.proofs.AskedLemmas.{GivesOneMore, asked_rows, has_counts, keeps_row, leaves_row}
use Rattle.kc_report.proofs.RowByRowLemmas.{given_few, given_packs, rows_in_vain, table_in_vain}
use Rattle.kc_report.specs.AskedWords.{AreNumbersOf}
use Rattle.kc_report.specs.RowByRow.{tally_of}
use Rattle.kc_report.proofs.queries.read_asked.Goals as goal

pub returns-in_err-row-clause-fault : goal.returns-in_err-row-clause-fault
returns-in_err-row-clause-fault g c =
    let p = err_from_is_err_and c.from_residual-in_err-row.result c.from_residual-in_err-row.ensures.1 in
    rw (p.1, p.2) (c.in_err-row.ensures.fault _ _ c.rows.invariant.rows c.rows.invariant.given)

pub has-requires : goal.has-requires
has-requires g c =
    let told = rw c.in-Some.is at c.in_ok-row.ensures.given _ _ c.rows.invariant.rows c.rows.invariant.given in
    c.rows.invariant.below c.in-Some.row told.lawful.rows.ordered.rising

pub push-requires-clause-word : goal.push-requires-clause-word
push-requires-clause-word g c =
    let told = rw c.in-Some.is at c.in_ok-row.ensures.given _ _ c.rows.invariant.rows c.rows.invariant.given in
    (given_packs c.rows.invariant.rows c.in-Some.row told).0

pub rows-smaller-in_ok-push : goal.rows-smaller-in_ok-push
rows-smaller-in_ok-push g c =
    let told = rw c.in-Some.is at c.in_ok-row.ensures.given _ _ c.rows.invariant.rows c.rows.invariant.given in
    omega (arith, given_few told, told.kept.count, c.rows.invariant.given.kept.count, length_push c.rows.invariant.rows c.in-Some.row)

pub rows-smaller : goal.rows-smaller
rows-smaller g c =
    let told = rw c.in-Some.is at c.in_ok-row.ensures.given _ _ c.rows.invariant.rows c.rows.invariant.given in
    omega (arith, given_few told, told.kept.count, c.rows.invariant.given.kept.count, length_push c.rows.invariant.rows c.in-Some.row)

pub rows-preserved-in_ok-push : goal.rows-preserved-in_ok-push
rows-preserved-in_ok-push g c =
    let told = rw c.in-Some.is at c.in_ok-row.ensures.given _ _ c.rows.invariant.rows c.rows.invariant.given in
    let more : GivesOneMore (g.R.Source.seen c.args.reader.now) (g.R.Source.seen c.next_row.new.source) c.args.limit
    (map string_bytes c.args.words.now) c.rows.asked.words c.has.new.self.words c.rows.asked.passed c.has.new.self.passed c.rows.rows
    c.rows.reading c.next_row.new.self c.in-Some.row = record {
      before = g.R.Source.seen c.rows.reader;
      kept = c.rows.invariant;
      told = told;
      header = c.in_ok-row.ensures.header;
      same = c.if-has.ensures.same;
      below = c.if-has.ensures.passed;
    } in
    rw c.in_ok-push.ensures.more (keeps_row more (sym c.if-has.ensures.has))

pub rows-preserved : goal.rows-preserved
rows-preserved g c =
    let told = rw c.in-Some.is at c.in_ok-row.ensures.given _ _ c.rows.invariant.rows c.rows.invariant.given in
    let more : GivesOneMore (g.R.Source.seen c.args.reader.now) (g.R.Source.seen c.next_row.new.source) c.args.limit
    (map string_bytes c.args.words.now) c.rows.asked.words c.has.new.self.words c.rows.asked.passed c.has.new.self.passed c.rows.rows
    c.rows.reading c.next_row.new.self c.in-Some.row = record {
      before = g.R.Source.seen c.rows.reader;
      kept = c.rows.invariant;
      told = told;
      header = c.in_ok-row.ensures.header;
      same = c.if-has.ensures.same;
      below = c.if-has.ensures.passed;
    } in
    leaves_row more (sym c.if-has.ensures.has)

pub returns-in_err-push-clause-fault : goal.returns-in_err-push-clause-fault
returns-in_err-push-clause-fault g c =
    let told = rw c.in-Some.is at c.in_ok-row.ensures.given _ _ c.rows.invariant.rows c.rows.invariant.given in
    let p = err_from_is_err_and c.from_residual-in_err-push.result c.from_residual-in_err-push.ensures.1 in
    rw (p.1, p.2) (rows_in_vain told)

pub into_tally-requires : goal.into_tally-requires
into_tally-requires g c =
    let told = rw c.in_default.is at c.in_ok-row.ensures.given _ _ c.rows.invariant.rows c.rows.invariant.given in
    rw (c.k-2.ensures, c.both-2.ensures) (asked_rows c.rows.asked.words told.has_table.lawful.rows c.rows.invariant.few_are)

pub returns-in_err-into_tally-clause-fault : goal.returns-in_err-into_tally-clause-fault
returns-in_err-into_tally-clause-fault g c =
    let told = rw c.in_default.is at c.in_ok-row.ensures.given _ _ c.rows.invariant.rows c.rows.invariant.given in
    let p = err_from_is_err_and c.from_residual-in_err-into_tally.result c.from_residual-in_err-into_tally.ensures.1 in
    rw (p.1, p.2) (table_in_vain told.bytes told.taken)

pub returns-clause-counts : goal.returns-clause-counts
returns-clause-counts g c =
    let told = rw c.in_default.is at c.in_ok-row.ensures.given _ _ c.rows.invariant.rows c.rows.invariant.given in
    let header = c.in_ok-row.ensures.header in
    let tally = tally_of c.next_row.new.self c.rows.invariant.rows in
    let numbers : AreNumbersOf tally.k tally.both (map string_bytes c.args.words.now) c.rows.asked.words =
    rw (header.k, header.both) c.rows.invariant.numbers_are in
    let has = has_counts tally (map string_bytes c.args.words.now) c.rows.asked.words c.rows.rows numbers c.rows.invariant.few_are in
    ((tally, c.next_row.new.self.origin), told, rw (c.in_ok-into_tally.ensures, c.k-2.ensures, c.both-2.ensures) has)

use Rattle.std.proofs.Common.{◌≡◌, [], ◌∷◌, ◌++◌, All, inr, refl, subst, sym, ◌∙◌}
use Rattle.std.proofs.lemmas.Result.{err_from_is_err_and}
use Rattle.kc_combine.specs.WrittenTables.{no_rows}
use Rattle.kc_combine.proofs.WrittenLemmas.{fails_behind, result_of, walks_from_start}
use Rattle.kc_combine.proofs.written_tables.write_rows.Goals as goal

pub rows-init : goal.rows-init
rows-init g c = record {
  alike = c.requires.alike;
  same = refl;
  words = c.requires.words;
  put = (
    [],
    c.begin-writing.ensures.put (g.W.Sink.seen c.args.writer.now),
    λ start. (
      0,
      no_rows c.args.aheads.now,
      walks_from_start g.R.GivesRows.gave g.R.GivesRows.gave_all (g.C.Combines.rule c.args.combines.now) c.args.aheads.now start,
    ),
  );
}

pub returns-in_err-_row-clause-fault : goal.returns-in_err-_row-clause-fault
returns-in_err-_row-clause-fault g c = λ start.
    let s = c.rows.invariant in
    let walked = s.put.2 start in
    let p = err_from_is_err_and c.from_residual.result c.from_residual.ensures.1 in
    rw (p.1, p.2) (fails_behind g.R.GivesRows.gave g.R.GivesRows.gave_all g.R.GivesRows.fails (g.C.Combines.rule c.args.combines.now)
    c.args.header.now (g.W.Sink.seen c.args.writer.now) (g.W.Sink.seen c.put_next.new.writer) c.put_next.new.aheads s.put.0
    c.in_err-_row.field-0.0
    (c.in_err-_row.ensures.stops _ c.args.header.now walked.0 walked.1 s.put.0 s.put.1 walked.2))

pub rows-preserved : goal.rows-preserved
rows-preserved g c =
    let s = c.rows.invariant in
    let start = g.W.Sink.seen c.args.writer.now in
    record {
      alike = c.put_next.ensures.alike ∙ s.alike ∙ sym c.put_next.ensures.long;
      same = c.put_next.ensures.same ∙ s.same;
      words = subst (λ froms. All (λ from. from.k ≡ c.args.header.now.k) froms) (sym c.put_next.ensures.same) s.words;
      put = (
        s.put.0 ++ c.in-Some._row ∷ [],
        rw c.in-Some.is at c.in_ok-_row.ensures.put start c.args.header.now s.put.0 s.put.1,
        λ begins. let walked = s.put.2 begins in
            rw c.in-Some.is at c.in_ok-_row.ensures.goes walked.0 walked.1 s.put.0 walked.2,
      );
    }

pub returns-in-Ok-clause-written : goal.returns-in-Ok-clause-written
returns-in-Ok-clause-written g c = λ begins.
    let s = c.rows.invariant in
    let start = g.W.Sink.seen c.args.writer.now in
    let walked = s.put.2 begins in
    let put = rw c.in_default.is at c.in_ok-_row.ensures.put start c.args.header.now s.put.0 s.put.1 in
    let ends = rw c.in_default.is at c.in_ok-_row.ensures.goes walked.0 walked.1 s.put.0 walked.2 in
    let words = subst (λ froms. All (λ from. from.k ≡ c.args.header.now.k) froms) (sym c.put_next.ensures.same) s.words in
    record {
      rows = s.put.0;
      result = result_of g.R.GivesRows.gave g.R.GivesRows.gave_all g.R.GivesRows.whence c.args.header.now.k
          (g.C.Combines.rule c.args.combines.now) c.put_next.new.aheads s.put.0 (g.met.C.Combines.nothing c.args.combines.now)
          g.met.R.GivesRows.whole words ends;
      written = c.in-Ok.ensures start c.args.header.now s.put.0 put;
      distinct = c.distinct.ensures ∙ put.distinct;
      total = c.total.ensures.value ∙ put.total;
    }

pub returns-in-Err-clause-fault : goal.returns-in-Err-clause-fault
returns-in-Err-clause-fault g c = λ begins.
    let s = c.rows.invariant in
    let start = g.W.Sink.seen c.args.writer.now in
    let walked = s.put.2 begins in
    let put = rw c.in_default.is at c.in_ok-_row.ensures.put start c.args.header.now s.put.0 s.put.1 in
    let ends = rw c.in_default.is at c.in_ok-_row.ensures.goes walked.0 walked.1 s.put.0 walked.2 in
    let words = subst (λ froms. All (λ from. from.k ≡ c.args.header.now.k) froms) (sym c.put_next.ensures.same) s.words in
    let result = result_of g.R.GivesRows.gave g.R.GivesRows.gave_all g.R.GivesRows.whence c.args.header.now.k
    (g.C.Combines.rule c.args.combines.now) c.put_next.new.aheads s.put.0 (g.met.C.Combines.nothing c.args.combines.now)
    g.met.R.GivesRows.whole words ends in
    (s.put.0, inr (result, c.in-Err.ensures start c.args.header.now s.put.0 put))

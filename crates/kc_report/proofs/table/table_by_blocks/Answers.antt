use Rattle.std.proofs.Common.{◌≡◌, ◌∙◌, ◌++◌, ◌∷◌, [], sym, subst}
use Rattle.std.proofs.lemmas.Result.{err_from_is_err_and}
use Rattle.kc_io.specs.Sinks.{Writes}
use Rattle.kc_report.specs.declared.header.Header.{Header}
use Rattle.kc_report.specs.RowsWritten.{HasPutRows, text_of}
use Rattle.kc_report.proofs.WritingLemmas.{all_done, fails_in_front, may_put, next_done}
use Rattle.kc_report.proofs.table.table_by_blocks.Goals as goal

pub rows-init : goal.rows-init
rows-init g c =
    let start = g.W.Sink.seen c.args.writer.now in
    let rows : c.into_iter-row-iterator.result ≡ c.args.tally.now.rows =
    c.into_iter-row-iterator.ensures.into_iter_gives ∙ c.rows-row-items.ensures.rows in
    record {
      can_next = tt;
      is_finite = tt;
      lawful = c.rows-row-items.ensures.lawful;
      put = (
        [],
        subst (λ (h : Header). HasPutRows start start h [] c.begin-writing.result)
            (λ i. record { k = c.k.ensures i; both = c.both.ensures i; origin = c.args.origin }) (c.begin-writing.ensures.put start),
        sym rows,
      );
    }

pub put-requires : goal.put-requires
put-requires g c =
    let s = c.rows.invariant in
    let may = may_put _ _ _ c.args.tally.now.rows s.put.0 c.rows.row-iterator c.next.new.self c.in-Some.row c.rows.writing s.lawful
    s.put.1 s.put.2 c.in-Some.ensures.steps in
    record { below = may.0; present = may.1; small = may.2 }

pub rows-preserved : goal.rows-preserved
rows-preserved g c =
    let s = c.rows.invariant in
    record {
      can_next = tt;
      is_finite = tt;
      lawful = s.lawful;
      put = (
        s.put.0 ++ c.in-Some.row ∷ [],
        c.in_ok-put.ensures.put _ _ s.put.0 s.put.1,
        next_done c.args.tally.now.rows s.put.0 c.rows.row-iterator c.next.new.self c.in-Some.row s.put.2 c.in-Some.ensures.steps,
      );
    }

pub returns : goal.returns
returns g c =
    let s = c.rows.invariant in
    let all = all_done c.args.tally.now.rows s.put.0 c.rows.row-iterator s.put.2 c.in-None.ensures.steps.0 in
    let header : Header = record { k = c.args.tally.now.k; both = c.args.tally.now.both; origin = c.args.origin } in
    subst (λ rows. Writes (g.W.Sink.seen c.args.writer.now) (g.W.Sink.seen c.end.new.writer) c.end.result (text_of header rows))
    (sym all) (c.end.ensures _ header s.put.0 s.put.1)

pub returns-in_err-put : goal.returns-in_err-put
returns-in_err-put g c =
    let s = c.rows.invariant in
    let header : Header = record { k = c.args.tally.now.k; both = c.args.tally.now.both; origin = c.args.origin } in
    let p = err_from_is_err_and c.from_residual.result c.from_residual.ensures.1 in
    rw p.1 (fails_in_front _ _ header c.args.tally.now.rows s.put.0 c.rows.row-iterator s.put.2
    (c.in_err-put.ensures.begun _ header s.put.0 s.put.1))

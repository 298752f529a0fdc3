use Rattle.std.proofs.Common.{◌≡◌, ◌∙◌, ◌++◌, [], refl, sym, ap, subst, arith, rules, append-nil}
use Rattle.std.proofs.lemmas.Bool.Decides.{nat_tests}
use Rattle.std.proofs.lemmas.List.{nil_from_length}
use Rattle.std.proofs.lemmas.Result.{err_from_is_err_and}
use Rattle.kc_io.proofs.SinksLemmas.{Pending, began_front, took_front}
use Rattle.kc_report.specs.Dumping.{dump_text}
use Rattle.kc_report.specs.Pieces.{AreTextsOf}
use Rattle.kc_report.proofs.PieceLemmas.{all_rows, first_pieces, last_pieces, nothing_left}
use Rattle.kc_report.proofs.row_pieces.hand_over_pieces.Goals as goal

pub returns-in_err-hand_over_and_make : goal.returns-in_err-hand_over_and_make
returns-in_err-hand_over_and_make g c =
    let seen = g.W.Sink.seen in
    let k = c.args.form.now.k in
    let dump = c.args.form.now.dump.now in
    let pieces = c.args.work.pieces.items in
    let ready = c.loop-spare.ready.now in
    let rest = c.loop-spare.rest.now in
    let next = first_pieces k dump (ready ++ rest) ready rest refl in
    let p = err_from_is_err_and c.from_residual.result c.from_residual.ensures.1 in rw p.1
    (began_front _ _ _ _ (dump_text k dump (all_rows ready)) (dump_text k dump (all_rows rest))
    (subst (λ v. Pending (seen c.args.writer.now) (seen c.loop-spare.writer) (dump_text k dump (all_rows pieces)) v) next c.loop-spare.invariant.pending)
    c.in_err-hand_over_and_make.ensures.handed_over)

pub loop-spare-preserved : goal.loop-spare-preserved
loop-spare-preserved g c =
    let seen = g.W.Sink.seen in
    let k = c.args.form.now.k in
    let dump = c.args.form.now.dump.now in
    let pieces = c.args.work.pieces.items in
    let ready = c.loop-spare.ready.now in
    let rest = c.loop-spare.rest.now in
    let next = first_pieces k dump (ready ++ rest) ready rest refl in
    record {
      fits = search rules;
      room = search rules;
      made = subst (λ v. AreTextsOf k dump c.split_at-in-loop-spare.result.0.now v.now) (sym c.swap.ensures.x_after)
          (subst (λ v. AreTextsOf k dump c.split_at-in-loop-spare.result.0.now v) (sym (nothing_left c.hand_over_and_make.new.texts c.loop-spare.spare.now))
          c.in_ok-hand_over_and_make.ensures.made);
      ready = search rules;
      rest = search rules;
      pending = subst (λ v. Pending (seen c.args.writer.now) (seen c.hand_over_and_make.new.writer) (dump_text k dump (all_rows pieces)) (dump_text k dump (all_rows v)))
          c.split_at-in-loop-spare.ensures.by_index.0
          (took_front _ _ _ _ (dump_text k dump (all_rows ready)) (dump_text k dump (all_rows rest))
          (subst (λ v. Pending (seen c.args.writer.now) (seen c.loop-spare.writer) (dump_text k dump (all_rows pieces)) v) next c.loop-spare.invariant.pending)
          c.in_ok-hand_over_and_make.ensures.handed_over);
    }

pub returns : goal.returns
returns g c =
    let seen = g.W.Sink.seen in
    let k = c.args.form.now.k in
    let dump = c.args.form.now.dump.now in
    let pieces = c.args.work.pieces.items in
    let ready = c.loop-spare.ready.now in
    let rest = c.loop-spare.rest.now in
    let none : rest ≡ [] = nil_from_length rest (grind (arith, nat_tests, c.is_empty.ensures, c.loop-spare-test.false)) in
    let all : ready ++ rest ≡ ready = ap (λ v. ready ++ v) none ∙ append-nil ready in
    last_pieces _ _ _ _ (dump_text k dump (all_rows ready)) c.hand_over.result
    (subst (λ v. Pending (seen c.args.writer.now) (seen c.loop-spare.writer) (dump_text k dump (all_rows pieces)) (dump_text k dump (all_rows v))) all c.loop-spare.invariant.pending)
    c.hand_over.ensures

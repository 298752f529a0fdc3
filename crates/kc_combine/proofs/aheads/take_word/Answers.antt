use Rattle.std.proofs.Common.{◌∙◌, sym, arith}
use Rattle.std.proofs.lemmas.List.{length-set}
use Rattle.kc_combine.proofs.AheadsLemmas.{counted_all, counted_more, fails_at, heads_long, whences_stay, rise_all, rise_more, taken_all, taken_more}
use Rattle.std.proofs.lemmas.Result.{err_from_is_err_and}
use Rattle.kc_combine.specs.Aheads.{heads_of}
use Rattle.kc_combine.proofs.aheads.take_word.Goals as goal

pub tables-preserved : goal.tables-preserved
tables-preserved g c =
    let s = c.tables.invariant in
    record {
      taken = λ befores have. let so_far = s.taken befores have in
          taken_more g.R.GivesRows.gave g.R.GivesRows.gave_all c.args.word c.tables.i c.tables.aheads befores so_far.0 c.tables.counts
          c.index-aheads-i.result c.take.new.self c.in_ok-counts.field-0 so_far.1 (omega (arith, c.tables-test.true, s.long)) s.alike
          c.in_ok-counts.ensures.taken;
      counted = counted_more c.args.word c.tables.i (heads_of c.args.aheads.now) c.tables.aheads c.tables.counts c.index-aheads-i.result
          c.take.new.self c.in_ok-counts.field-0 s.counted (omega (arith, c.tables-test.true, s.long)) s.alike c.in_ok-counts.ensures.count;
      rise = λ begin.
          rise_more c.args.word c.tables.i c.tables.aheads c.index-aheads-i.result c.take.new.self (s.rise begin)
          (omega (arith, c.tables-test.true, s.long)) c.in_ok-counts.ensures.rises;
      same = whences_stay g.R.GivesRows.whence c.tables.i c.tables.aheads c.index-aheads-i.result c.take.new.self
          (omega (arith, c.tables-test.true, s.long)) c.take.ensures.same ∙ s.same;
      long = length-set c.tables.aheads c.tables.i c.take.new.self ∙ s.long;
      alike = length-set c.tables.counts c.tables.i c.in_ok-counts.field-0 ∙ s.alike ∙ sym (length-set c.tables.aheads c.tables.i c.take.new.self);
    }

pub returns-clause-counts : goal.returns-clause-counts
returns-clause-counts g c = let s = c.tables.invariant in
    counted_all c.args.word c.tables.i (heads_of c.args.aheads.now) (heads_of c.tables.aheads) c.tables.counts s.counted
    (let long = heads_long c.tables.aheads in omega (arith, c.tables-test.false, s.long, long))
    (s.alike ∙ sym (heads_long c.tables.aheads))

pub returns-clause-rise : goal.returns-clause-rise
returns-clause-rise g c = λ begin. let s = c.tables.invariant in
    rise_all c.args.word c.tables.i c.tables.aheads (s.rise begin) (omega (arith, c.tables-test.false, s.long))

pub returns-clause-taken : goal.returns-clause-taken
returns-clause-taken g c = λ tables have. let s = c.tables.invariant in
    let so_far = s.taken tables have in
    taken_all g.R.GivesRows.gave g.R.GivesRows.gave_all c.args.word c.tables.i c.tables.aheads tables so_far.0 c.tables.counts so_far.1 (omega (arith, c.tables-test.false, s.long)) s.alike

pub returns-in_err-counts-clause-fault : goal.returns-in_err-counts-clause-fault
returns-in_err-counts-clause-fault g c = λ tables have. let s = c.tables.invariant in
    let so_far = s.taken tables have in
    let p = err_from_is_err_and c.from_residual.result c.from_residual.ensures.1 in
    rw (p.1, p.2) (fails_at g.R.GivesRows.gave g.R.GivesRows.gave_all g.R.GivesRows.fails c.args.word c.in_err-counts.field-0.0 c.tables.i
    c.tables.aheads tables so_far.0 c.tables.counts c.index-aheads-i.result c.take.new.self so_far.1
    (omega (arith, c.tables-test.true, s.long)) c.in_err-counts.ensures.fault)

pub returns-in_err-counts-clause-same : goal.returns-in_err-counts-clause-same
returns-in_err-counts-clause-same g c = let s = c.tables.invariant in
    whences_stay g.R.GivesRows.whence c.tables.i c.tables.aheads c.index-aheads-i.result c.take.new.self
    (omega (arith, c.tables-test.true, s.long)) c.take.ensures.same ∙ s.same

use Rattle.std.proofs.Common.{◌∙◌, ◌≤◌, ◌<◌, ◌+◌, length, ap, arith, refl}
use Rattle.std.proofs.lemmas.Result.{err_from_is_err_and}
use Rattle.std.proofs.lemmas.List.{length-set}
use Rattle.kc_tool.specs.GivenSources.{seen_in}
use Rattle.kc_tool.proofs.CleaningLemmas.{all_cut, cutting_begun, nothing_cut, one_read, read_refused}
use Rattle.kc_tool.proofs.GivenLemmas.{keeps_all, keeps_both}
use Rattle.kc_tool.proofs.counted_sources.cut_given.Goals as goal

pub loop-i-init : goal.loop-i-init
loop-i-init g c =
    let none = nothing_cut c.args.cutter.now.rule.now c.args.size (c.new.ensures.k ∙ c.k.ensures) c.new.ensures.size c.new.ensures.none in
    record {
      so_far = cutting_begun (seen_in g.R.Source.seen g.F.Source.seen c.args.sources.now) none;
      counted = refl;
      as_many = refl;
      kept = keeps_all g.R.Source.seen g.F.Source.seen c.args.sources.now;
    }

pub read-requires-clause-within : goal.read-requires-clause-within
read-requires-clause-within g c = omega (arith, c.loop-i.invariant.as_many, c.count-i-end.ensures)

pub read-requires-clause-can : goal.read-requires-clause-can
read-requires-clause-can g c =
    record { few = c.loop-i.invariant.so_far.few; numbered = omega (arith, c.loop-i.invariant.counted, c.count-i-end.ensures) }

pub loop-i-preserved : goal.loop-i-preserved
loop-i-preserved g c =
    let loop = c.loop-i in
    let seen = seen_in g.R.Source.seen g.F.Source.seen in
    let at = c.in_ok-read.ensures.one in
    let within : loop.i < length (seen loop.sources) = omega (arith, loop.invariant.as_many, c.count-i-end.ensures) in
    record {
      so_far = one_read loop.invariant.counted within loop.invariant.so_far at;
      counted = at.reads.sources ∙ ap (λ n. n + 1) loop.invariant.counted;
      as_many = ap length at.are ∙ length-set (seen loop.sources) loop.i at.later ∙ loop.invariant.as_many;
      kept = keeps_both g.R.Source.seen g.F.Source.seen loop.invariant.kept c.in_ok-read.ensures.kept;
    }

pub returns-in_err-read-clause-fault : goal.returns-in_err-read-clause-fault
returns-in_err-read-clause-fault g c = λ settings.
    let p = err_from_is_err_and c.from_residual.result c.from_residual.ensures.1 in
    let loop = c.loop-i in
    let seen = seen_in g.R.Source.seen g.F.Source.seen in
    let within : loop.i < length (seen loop.sources) = omega (arith, loop.invariant.as_many, c.count-i-end.ensures) in
    rw (p.1, p.2) (read_refused loop.invariant.counted within loop.invariant.so_far c.in_err-read.field-0.0 c.in_err-read.ensures.one
    settings)

pub returns-in_err-read-clause-kept : goal.returns-in_err-read-clause-kept
returns-in_err-read-clause-kept g c = keeps_both g.R.Source.seen g.F.Source.seen c.loop-i.invariant.kept c.in_err-read.ensures.kept

pub returns-clause-cut : goal.returns-clause-cut
returns-clause-cut g c =
    let loop = c.loop-i in
    let seen = seen_in g.R.Source.seen g.F.Source.seen in
    let all : length (seen loop.sources) ≤ loop.cut.sources =
    omega (arith, loop.invariant.as_many, loop.invariant.counted, c.count-i-end.ensures) in
    all_cut loop.invariant.so_far all

pub returns-clause-kept : goal.returns-clause-kept
returns-clause-kept g c = c.loop-i.invariant.kept

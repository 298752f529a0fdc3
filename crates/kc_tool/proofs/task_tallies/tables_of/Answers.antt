use Rattle.std.proofs.Common.{◌≡◌, ◌∙◌, ◌≤◌, ◌<◌, ◌+◌, ◌∷◌, [], suc, length, map, ap, arith}
use Rattle.std.proofs.lemmas.List.{length-set, map-append}
use Rattle.std.proofs.lemmas.Result.{err_from_is_err_and}
use Rattle.kc_combine.specs.LoadedTables.{table_seen}
use Rattle.kc_tool.specs.GivenSources.{seen_in}
use Rattle.kc_tool.specs.Tallies.{TableSeen}
use Rattle.kc_tool.proofs.GivenLemmas.{keeps_both, said_more, table_fails, table_more, tables_all}
use Rattle.kc_tool.proofs.task_tallies.tables_of.Goals as goal

pub returns-in_err-tally-clause-fault : goal.returns-in_err-tally-clause-fault
returns-in_err-tally-clause-fault g c =
    let loop = c.loop-i in
    let seen = seen_in g.R.Source.seen g.F.Source.seen in
    let p = err_from_is_err_and c.from_residual-in_err-tally.result c.from_residual-in_err-tally.ensures.1 in
    let within : loop.i < length (seen loop.sources) =
    omega (arith, loop.invariant.as_many, c.count-i-end.ensures, c.loop-i-test.true) in
    rw (p.1, p.2) (table_fails loop.i (seen c.args.sources.now) (seen loop.sources) (seen c.read.new.self)
    (map table_seen loop.tables.items) c.in_err-tally.field-0.0 loop.invariant.given within loop.invariant.as_many
    c.in_err-tally.ensures.one)

pub returns-in_err-tally-clause-kept : goal.returns-in_err-tally-clause-kept
returns-in_err-tally-clause-kept g c =
    keeps_both g.R.Source.seen g.F.Source.seen c.loop-i.invariant.kept c.in_err-tally.ensures.kept

pub loop-i-preserved : goal.loop-i-preserved
loop-i-preserved g c =
    let loop = c.loop-i in
    let seen = seen_in g.R.Source.seen g.F.Source.seen in
    let at = c.in_ok-tally.ensures.one in
    let table : TableSeen = (c.in_ok-tally.tally, c.in_ok-tally.origin) in
    let within : loop.i < length (seen loop.sources) =
    omega (arith, loop.invariant.as_many, c.count-i-end.ensures, c.loop-i-test.true) in
    let next : loop.i + 1 ≡ suc loop.i = omega arith in
    let more = c.push_reserved.ensures.items in
    record {
      given = rw (next, more, map-append table_seen loop.tables.items (record { tally = c.in_ok-tally.tally; origin = c.in_ok-tally.origin } ∷ []))
          (table_more loop.i (seen c.args.sources.now) (seen loop.sources) (seen c.read.new.self) (map table_seen loop.tables.items) table
          loop.invariant.given within loop.invariant.as_many at);
      origins = rw more (said_more loop.tables.items (record { tally = c.in_ok-tally.tally; origin = c.in_ok-tally.origin }) loop.invariant.origins at.reads.1);
      as_many = ap length at.are ∙ length-set (seen loop.sources) loop.i at.later ∙ loop.invariant.as_many;
      kept = keeps_both g.R.Source.seen g.F.Source.seen loop.invariant.kept c.in_ok-tally.ensures.kept;
      room = omega (arith, loop.invariant.room, c.push_reserved.ensures.capacity);
      counted = omega (arith, loop.invariant.counted, c.push_reserved.ensures.len);
    }

pub returns-clause-tables : goal.returns-clause-tables
returns-clause-tables g c =
    let loop = c.loop-i in
    let seen = seen_in g.R.Source.seen g.F.Source.seen in
    let all : length (seen c.args.sources.now) ≤ loop.i = omega (arith, c.count-i-end.ensures, c.loop-i-test.false) in
    tables_all loop.i (seen c.args.sources.now) (seen loop.sources) (map table_seen loop.tables.items) loop.invariant.given all
    loop.invariant.as_many

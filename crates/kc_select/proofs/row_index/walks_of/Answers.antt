use Rattle.std.proofs.Common.{All, sym, subst, arith}
use Rattle.std.proofs.lemmas.List.Elements.{All-push}
use Rattle.kc_select.specs.LastRows.{AreLast}
use Rattle.kc_select.proofs.LastRowsLemmas.{last-trans}
use Rattle.kc_select.proofs.row_index.walks_of.Goals as goal

pub loop-preserved : goal.loop-preserved
loop-preserved c =
    let all = c.args.tally.now.rows in
    let len = c.push_reserved.ensures.len in
    let long = c.loop.invariant.long in
    let same = c.push_reserved.ensures.capacity in
    let room = c.loop.invariant.room in
    record {
      rest = last-trans all c.loop.rest c.rows_behind-rest.result c.loop.invariant.rest c.rows_behind-rest.ensures;
      last = subst (All (λ rows. AreLast all rows)) (sym c.push_reserved.ensures.items)
          (All-push (λ rows. AreLast all rows) c.loop.walks.items c.second_walk.result c.loop.invariant.last
          (subst (λ rows. AreLast all rows) (sym c.second_walk.ensures) c.loop.invariant.rest));
      long = omega (arith, len, long);
      room = omega (arith, same, room);
    }

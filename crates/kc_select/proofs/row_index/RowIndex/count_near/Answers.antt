use Rattle.std.proofs.Common.{◌<◌, [], ◌∷◌, sym, ◌∙◌, arith}
use Rattle.kc_select.proofs.LastRowsLemmas.{last-behind, shown, passed, missing}
use Rattle.kc_select.proofs.row_index.RowIndex.count_near.Goals as goal

pub returns-then-row-word : goal.returns-then-row-word
returns-then-row-word c =
    shown c.args.self.now.rows c.loop.rows c.next.new.self c.in-Some.row c.args.word c.loop.invariant.last
    c.in-Some.ensures.steps c.rows_from-rows.ensures.rising c.if-row-word.true

pub returns-then-is_behind : goal.returns-then-is_behind
returns-then-is_behind c =
    sym (missing c.args.self.now.rows c.loop.rows c.next.new.self c.in-Some.row c.args.word c.loop.invariant.last
    c.in-Some.ensures.steps c.rows_from-rows.ensures.rising c.if-row-word-2.true)
    ∙ c.loop.invariant.behind c.if-is_behind.true

pub loop-preserved : goal.loop-preserved
loop-preserved c =
    let other = c.if-row-word.false in
    let most = c.if-row-word-2.false in
    let under : c.in-Some.row.word < c.args.word = first_of (omega (arith, other, most), grind (arith, other, most)) in
    record {
      last = last-behind c.args.self.now.rows c.loop.rows (c.in-Some.row ∷ []) c.next.new.self c.loop.invariant.last
          (sym c.in-Some.ensures.steps);
      behind = λ passed_one. passed c.args.self.now.rows c.loop.rows c.next.new.self c.in-Some.row c.args.word
          c.loop.invariant.last c.in-Some.ensures.steps c.rows_from-rows.ensures.rising under;
    }

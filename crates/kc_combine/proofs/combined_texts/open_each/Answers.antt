use Rattle.std.proofs.Common.{◌≡◌, ◌∷◌, [], ◌++◌, ◌+◌, suc, arith, ap, sym, subst, refl, ◌∙◌}
use Rattle.std.proofs.lemmas.List.{get_or-set_same, length-set}
use Rattle.kc_combine.specs.CombinedTexts.{AreOpenedTo}
use Rattle.kc_combine.proofs.CombinedTextLemmas.{opened_all, opened_more, still}
use Rattle.kc_combine.proofs.combined_texts.open_each.Goals as goal

pub returns-in-Err-clause-fault : goal.returns-in-Err-clause-fault
returns-in-Err-clause-fault g c =
    let s = c.sources.invariant in
    let here = still g.S.Source.seen c.args.limit c.sources.i c.args.sources.now c.sources.sources c.sources.openings.items c.index-sources-i.result s.opened in (
      c.sources.i,
      c.index-sources-i.result,
      c.of.new.source,
      c.sources-test.true,
      sym here ∙ sym c.index-sources-i.is,
      get_or-set_same c.sources.sources c.sources.i c.of.new.source c.of.new.source (omega (arith, c.sources-test.true, s.long)),
      refl,
      rw (sym c.index-sources-i.is) at c.in-Err.ensures.fault,
    )

pub sources-preserved : goal.sources-preserved
sources-preserved g c =
    let s = c.sources.invariant in
    let next : c.sources.i + 1 ≡ suc c.sources.i = omega arith in
    record {
      opened = rw (next, c.push_reserved.ensures.items) (opened_more g.S.Source.seen c.args.limit c.sources.i c.args.sources.now c.sources.sources
          c.sources.openings.items c.of.new.source c.index-sources-i.result c.in-Ok.opening s.opened c.sources-test.true c.in-Ok.ensures.begun);
      room = omega (arith, s.room, c.push_reserved.ensures.capacity);
      counted = omega (arith, s.counted, c.push_reserved.ensures.len);
      long = length-set c.sources.sources c.sources.i c.of.new.source ∙ s.long;
    }

pub returns-clause-opened : goal.returns-clause-opened
returns-clause-opened g c = let s = c.sources.invariant in
    opened_all g.S.Source.seen c.args.limit c.sources.i c.args.sources.now c.sources.sources c.sources.openings.items s.opened c.sources-test.false s.long

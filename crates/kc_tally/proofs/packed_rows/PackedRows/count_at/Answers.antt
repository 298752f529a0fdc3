use Rattle.std.proofs.Common.{◌<◌, ◌∙◌, length, get_or, ap, sym, subst, arith}
use Rattle.std.specs.List.Sorted.{IsStrictlyIncreasing}
use Rattle.std.proofs.lemmas.List.{get_or_read}
use Rattle.kc_tally.specs.Tally.{count_of}
use Rattle.kc_tally.proofs.Searches.{words}
use Rattle.kc_tally.proofs.PackingLemmas.{IsFound, length-rows_of, found-here, found-apart, rising-large}
use Rattle.kc_tally.proofs.packed_rows.PackedRows.count_at.Goals as goal
use Rattle.kc_tally.proofs.packed_rows.PackedRows.count_at.Goals.{After-count-count}

found : (c : After-count-count) → IsFound c.self.inside.layout c.self.inside.packed.items c.self.inside.large.items c.args.index c.args.word c.index.result.now
found c =
    let long = length-rows_of c.self.inside.layout c.self.inside.packed.items c.self.inside.large.items in
    let same = ap length c.self.view_is in
    let within : c.args.index < length c.self.inside.packed.items = omega (arith, long, same, c.requires.within) in
    record {
      are = c.self.invariant;
      rising = subst (λ rows. IsStrictlyIncreasing (words rows)) (sym c.self.view_is) c.requires.rising;
      within = within;
      read = get_or_read c.self.inside.packed.items c.args.index c.index.result.now within c.index.ensures 0;
      here = ap (λ rows. get_or (words rows) c.args.index 0) c.self.view_is ∙ c.requires.here;
    }

pub count_in-requires : goal.count_in-requires
count_in-requires c =
    subst (λ rows. IsStrictlyIncreasing (words rows)) (sym c.deref.ensures.value)
    (rising-large c.self.inside.layout c.self.inside.packed.items c.self.inside.large.items c.args.index c.args.word c.index.result.now
    (found (goal.at.count_in-requires c).After-count-count))

pub returns-then-count-eq0 : goal.returns-then-count-eq0
returns-then-count-eq0 c =
    c.count_in.ensures ∙ ap (λ rows. count_of rows c.args.word) c.deref.ensures.value
    ∙ found-apart c.self.inside.layout c.self.inside.packed.items c.self.inside.large.items c.args.index c.args.word c.index.result.now
    (found (goal.at.returns-then-count-eq0 c).After-count-count) (sym c.count-count.ensures ∙ c.if-count-eq0.true)
    ∙ ap (λ rows. count_of rows c.args.word) c.self.view_is

pub returns : goal.returns
returns c =
    c.count-count.ensures
    ∙ found-here c.self.inside.layout c.self.inside.packed.items c.self.inside.large.items c.args.index c.args.word c.index.result.now
    (found (goal.at.returns c).After-count-count) (λ none. c.if-count-eq0.false (c.count-count.ensures ∙ none))
    ∙ ap (λ rows. count_of rows c.args.word) c.self.view_is

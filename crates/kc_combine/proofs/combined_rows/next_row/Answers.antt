use Rattle.std.proofs.Common.{◌≡◌, All, None, arith, subst, sym, ◌∙◌}
use Rattle.kc_combine.specs.Aheads.{heads_of}
use Rattle.kc_combine.proofs.WalkLemmas.{fewer_left, fits_least, gives_none, gives_row, least_begins, stops_too_large}
use Rattle.kc_combine.proofs.combined_rows.next_row.Goals as goal

pub words-smaller : goal.words-smaller
words-smaller g c =
    let least = sym c.least_word.ensures ∙ c.in-Some.is in
    fewer_left c.in-Some.word c.words.aheads c.take_word.new.aheads least
    (c.in_default-take_word.ensures.rise (least_begins c.in-Some.word None (heads_of c.words.aheads) least))

pub words-preserved : goal.words-preserved
words-preserved g c = record {
  walking = λ bound tables rows walking.
      let least = sym c.least_word.ensures ∙ c.in-Some.is in
      let so_far = c.words.invariant.walking bound tables rows walking in
      gives_none g.R.GivesRows.gave g.R.GivesRows.gave_all (g.C.Combines.rule c.args.combines.now) (g.met.C.Combines.nothing c.args.combines.now)
      c.in-Some.word c.words.aheads c.take_word.new.aheads c.take_word.new.counts least c.in_default-take_word.ensures.taken
      c.in_default-take_word.ensures.rise so_far.0 c.in-Some-count.count so_far.1 rows c.in-Some-count.ensures.some c.if-count-gt0.false
      so_far.2;
  same = c.take_word.ensures.same ∙ c.words.invariant.same;
  fewer =
      let least = sym c.least_word.ensures ∙ c.in-Some.is in
      let less = fewer_left c.in-Some.word c.words.aheads c.take_word.new.aheads least
      (c.in_default-take_word.ensures.rise (least_begins c.in-Some.word None (heads_of c.words.aheads) least)) in
      omega (arith, less, c.words.invariant.fewer);
  long = c.take_word.ensures.long ∙ c.words.invariant.long;
  kept = c.take_word.ensures.alike ∙ c.words.invariant.kept;
  alike = c.take_word.ensures.alike ∙ c.words.invariant.alike ∙ sym c.take_word.ensures.long;
}

pub returns-then-count-gt0-clause-word : goal.returns-then-count-gt0-clause-word
returns-then-count-gt0-clause-word g c = λ k have.
    let least = sym c.least_word.ensures ∙ c.in-Some.is in
    fits_least k c.in-Some.word c.words.aheads (subst (λ froms. All (λ from. from.k ≡ k) froms) (sym c.words.invariant.same) have) least

pub returns-then-count-gt0-clause-fewer : goal.returns-then-count-gt0-clause-fewer
returns-then-count-gt0-clause-fewer g c =
    let least = sym c.least_word.ensures ∙ c.in-Some.is in
    let less = fewer_left c.in-Some.word c.words.aheads c.take_word.new.aheads least
    (c.in_default-take_word.ensures.rise (least_begins c.in-Some.word None (heads_of c.words.aheads) least)) in
    omega (arith, less, c.words.invariant.fewer)

pub returns-then-count-gt0-clause-goes : goal.returns-then-count-gt0-clause-goes
returns-then-count-gt0-clause-goes g c = λ bound tables rows walking.
    let least = sym c.least_word.ensures ∙ c.in-Some.is in
    let so_far = c.words.invariant.walking bound tables rows walking in
    gives_row g.R.GivesRows.gave g.R.GivesRows.gave_all (g.C.Combines.rule c.args.combines.now) (g.met.C.Combines.nothing c.args.combines.now)
    c.in-Some.word c.words.aheads c.take_word.new.aheads c.take_word.new.counts least c.in_default-take_word.ensures.taken
    c.in_default-take_word.ensures.rise so_far.0 c.in-Some-count.count so_far.1 rows c.in-Some-count.ensures.some c.if-count-gt0.true so_far.2

pub returns-clause-goes : goal.returns-clause-goes
returns-clause-goes g c = λ bound tables rows walking.
    let so_far = c.words.invariant.walking bound tables rows walking in
    (so_far.0, so_far.1, so_far.2, sym c.least_word.ensures ∙ c.in_default.is)

pub returns-in-Err-clause-stops : goal.returns-in-Err-clause-stops
returns-in-Err-clause-stops g c = λ bound tables rows walking.
    let so_far = c.words.invariant.walking bound tables rows walking in
    (so_far.0, so_far.1, so_far.2.combined, c.in-Err.ensures.fault so_far.1 so_far.2.taken)

pub returns-in_default-count-clause-stops : goal.returns-in_default-count-clause-stops
returns-in_default-count-clause-stops g c = λ bound tables rows walking.
    let least = sym c.least_word.ensures ∙ c.in-Some.is in
    let so_far = c.words.invariant.walking bound tables rows walking in
    stops_too_large g.R.GivesRows.gave g.R.GivesRows.gave_all (g.C.Combines.rule c.args.combines.now) (g.met.C.Combines.nothing c.args.combines.now)
    c.in-Some.word c.words.aheads c.take_word.new.aheads c.take_word.new.counts least c.in_default-take_word.ensures.taken
    c.in_default-take_word.ensures.rise so_far.0 so_far.1 rows c.in_default-count.ensures.none so_far.2

use Rattle.std.proofs.Common.{[], None, refl, sym, ◌∙◌}
use Rattle.std.proofs.lemmas.Result.{err_from_is_err_and}
use Rattle.kc_combine.specs.Aheads.{heads_of}
use Rattle.kc_combine.specs.WrittenTables.{no_rows}
use Rattle.kc_combine.proofs.WalkLemmas.{fewer_left, least_begins}
use Rattle.kc_combine.proofs.WordWalkLemmas.{visits_all, visits_from_start, visits_next}
use Rattle.kc_combine.proofs.visited_words.visit_words.Goals as goal

pub words-init : goal.words-init
words-init g c = record {
  visiting = λ start. (
    0,
    no_rows c.args.aheads.now,
    visits_from_start g.R.GivesRows.gave g.R.GivesRows.gave_all _ c.args.aheads.now start (λ none. none),
  );
  setting = refl;
  same = refl;
  long = refl;
  kept = refl;
  alike = c.requires;
}

pub words-smaller : goal.words-smaller
words-smaller g c =
    let least = sym c.least_word.ensures ∙ c.in-Some.is in
    fewer_left c.in-Some.word c.words.aheads c.take_word.new.aheads least
    (c.in_ok-take_word.ensures.rise (least_begins c.in-Some.word None (heads_of c.words.aheads) least))

pub words-preserved : goal.words-preserved
words-preserved g c =
    let s = c.words.invariant in
    let visited = g.V.VisitsWords.visited in
    let least = sym c.least_word.ensures ∙ c.in-Some.is in
    record {
      visiting = λ start. let so_far = s.visiting start in
          visits_next g.R.GivesRows.gave g.R.GivesRows.gave_all g.R.GivesRows.whence g.met.R.GivesRows.ordered
          (λ words. visited c.args.visitor.now [] → visited c.words.visitor words)
          (λ words. visited c.args.visitor.now [] → visited c.visit.new.self words)
          c.in-Some.word c.words.aheads c.take_word.new.aheads c.take_word.new.counts least c.in_ok-take_word.ensures.taken
          c.in_ok-take_word.ensures.rise c.in_ok-take_word.ensures.counts
          (λ words before none. c.visit.ensures.more words (before none)) so_far.0 so_far.1 so_far.2;
      setting = c.visit.ensures.same ∙ s.setting;
      same = c.take_word.ensures.same ∙ s.same;
      long = c.take_word.ensures.long ∙ s.long;
      kept = c.take_word.ensures.alike ∙ s.kept;
      alike = c.take_word.ensures.alike ∙ s.alike ∙ sym c.take_word.ensures.long;
    }

pub returns-in_err-take_word-clause-fault : goal.returns-in_err-take_word-clause-fault
returns-in_err-take_word-clause-fault g c = λ start.
    let so_far = c.words.invariant.visiting start in
    let p = err_from_is_err_and c.from_residual.result c.from_residual.ensures.1 in
    rw (p.1, p.2) (so_far.1, c.in_err-take_word.ensures.fault so_far.1 so_far.2.taken)

pub returns-clause-visited : goal.returns-clause-visited
returns-clause-visited g c = λ start none.
    let s = c.words.invariant in
    let so_far = s.visiting start in
    let visited = g.V.VisitsWords.visited in
    visits_all g.R.GivesRows.gave g.R.GivesRows.gave_all g.R.GivesRows.whence g.met.R.GivesRows.whole
    (λ words. visited c.args.visitor.now [] → visited c.words.visitor words) (visited c.words.visitor)
    c.args.aheads.now c.words.aheads s.same (sym c.least_word.ensures ∙ c.in_default.is) (λ words all. all none)
    so_far.0 so_far.1 so_far.2

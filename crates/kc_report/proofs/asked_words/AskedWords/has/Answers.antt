use Rattle.std.proofs.Common.{◌≡◌, ◌<◌, take, get_or, sym, subst, ap, ◌∙◌, arith}
use Rattle.std.specs.Prelude.{◌==◌, All}
use Rattle.std.specs.List.Sorted.{IsNonDecreasing}
use Rattle.std.proofs.lemmas.List.{take_more}
use Rattle.std.proofs.lemmas.List.Elements.{All-push}
use Rattle.kc_report.specs.AskedWords.{WordsAsked, is_in}
use Rattle.kc_report.proofs.AskedLemmas.{decides, none_left}
use Rattle.kc_report.proofs.asked_words.AskedWords.has.Goals as goal

pub returns-then-asked-word-clause-has : goal.returns-then-asked-word-clause-has
returns-then-asked-word-clause-has c =
    let words = c.lesser.self-inside.words.items in
    let passed = c.lesser.self-inside.passed in
    let asked = c.in-Some.asked.now in
    let found = rw c.deref.ensures.value at c.in-Some.ensures.lookup in
    let first : c.self.inside.words.items ≡ c.args.self.now.words = ap (λ (v : WordsAsked). v.words) c.self.view_is in
    let rising = subst IsNonDecreasing (first ∙ sym c.lesser.invariant.same) c.self.invariant in
    let at : asked ≡ get_or words passed asked = found.1 in
    ap (λ n. n == c.args.word) at
    ∙ decides words passed c.args.word asked rising c.lesser.invariant.below found.3.0 (omega (arith, at, c.if-asked-word.true))
    ∙ ap (λ v. is_in v c.args.word) c.lesser.invariant.same

pub lesser-preserved : goal.lesser-preserved
lesser-preserved c =
    let words = c.lesser.self-inside.words.items in
    let passed = c.lesser.self-inside.passed in
    let asked = c.in-Some.asked.now in
    let found = rw c.deref.ensures.value at c.in-Some.ensures.lookup in
    let at : asked ≡ get_or words passed asked = found.1 in
    record {
      below = subst (All (λ n. n < c.args.word)) (sym (take_more words passed asked found.3.0))
          (All-push (λ n. n < c.args.word) (take passed words) (get_or words passed asked) c.lesser.invariant.below
          (omega (arith, at, c.if-asked-word.false)));
      same = c.lesser.invariant.same;
    }

pub returns-clause-has : goal.returns-clause-has
returns-clause-has c =
    let words = c.lesser.self-inside.words.items in
    let found = rw c.deref.ensures.value at c.in_default.ensures.lookup in
    none_left words c.lesser.self-inside.passed c.args.word c.lesser.invariant.below found.3
    ∙ ap (λ v. is_in v c.args.word) c.lesser.invariant.same

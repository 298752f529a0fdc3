use Rattle.std.proofs.Common.{◌≡◌, Some, rules, ap, sym, ◌∙◌, arith}
use Rattle.std.proofs.lemmas.List.Filters.{FiltersInPlace-more_set, FiltersInPlace-more_no}
use Rattle.kc_kmer.specs.Rule.{is_listed}
use Rattle.kc_word.specs.Only.{WordList}
use Rattle.kc_word.proofs.only.Only.keep_listed.Goals as goal
use Rattle.kc_word.proofs.only.Only.keep_listed.Goals.{then-has_near, else-has_near, then-i, else-i}

pub loop-i-preserved : goal.loop-i-preserved
loop-i-preserved c =
    let long = c.loop-i.invariant.filtered.long in
    let test = c.loop-i-test.true in
    let listed : is_listed (Some c.deref-in-loop-i.result.now) c.index-word.result.now ≡ is_listed (Some c.args.self.now.words) c.index-word.result.now =
    ap (λ ws. is_listed (Some ws) c.index-word.result.now) (c.deref-in-loop-i.ensures.value ∙ ap (λ (l : WordList). l.words) c.self.view_is) in
    record {
      filtered = elim c.if-has_near.branch [
        | then-has_near w ↦ rw (w.words-is, w.kept-is) (FiltersInPlace-more_set c.loop-i.invariant.filtered (omega (arith, long, test))
            (sym (c.has_near.ensures ∙ listed) ∙ w.if-has_near.true) c.index-word.ensures)
        | else-has_near w ↦ rw (w.words-is, w.kept-is) (FiltersInPlace-more_no c.loop-i.invariant.filtered (omega (arith, long, test))
            (sym (c.has_near.ensures ∙ listed) ∙ w.if-has_near.false) c.index-word.ensures)
      ];
      long = elim c.if-i.branch [
        | then-i w ↦ rw w.places-is (search rules)
        | else-i w ↦ rw w.places-is c.loop-i.invariant.long
      ];
    }

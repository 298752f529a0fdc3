use Rattle.std.proofs.Common.{rules, ◌≡◌, ℕ, List, Ok, Err, get_or, length, ◌∙◌, ap, sym, subst}
use Rattle.std.specs.Ordering.{nat_cmp}
use Rattle.std.specs.List.Sorted.{IsStrictlyIncreasing, IsSearchInRange, IsBinarySearchResult}
use Rattle.std.proofs.lemmas.Fn.{always_returns_same}
use Rattle.kc_tally.specs.Tally.{count_of}
use Rattle.kc_tally.specs.Packing.{word_in}
use Rattle.kc_tally.proofs.Searches.{words}
use Rattle.kc_tally.proofs.PackingLemmas.{searched-packed}
use Rattle.kc_tally.proofs.packed_rows.PackedRows.count_of.Goals as goal

pub count_at-requires-clause-here : goal.count_at-requires-clause-here
count_at-requires-clause-here c =
    let facts = c.in-Ok.ensures in
    let by_key = facts.position (λ p. word_in c.self.inside.layout p) (always_returns_same _ (λ a r. r ≡ word_in c.self.inside.layout a.0.now) _ (λ a r f' called. search rules)) in
    let l = c.self.inside.layout in
    let packed = c.self.inside.packed.items in
    ap (λ rows. get_or (words rows) c.in-Ok.index 0) (sym c.self.view_is)
    ∙ searched-packed l packed c.self.inside.large.items c.args.word (Ok c.in-Ok.index)
    (subst (λ rows. IsStrictlyIncreasing (words rows)) (sym c.self.view_is) c.requires)
    (subst (λ (ps : List ℕ). IsSearchInRange (Ok c.in-Ok.index) (length ps)) c.deref.ensures.value facts.bound)
    (subst (λ (ps : List ℕ). IsBinarySearchResult (λ p. nat_cmp (word_in l p) c.args.word) ps (Ok c.in-Ok.index)) c.deref.ensures.value by_key)

pub returns-in-Err : goal.returns-in-Err
returns-in-Err c =
    let facts = c.in-Err.ensures in
    let by_key = facts.position (λ p. word_in c.self.inside.layout p) (always_returns_same _ (λ a r. r ≡ word_in c.self.inside.layout a.0.now) _ (λ a r f' called. search rules)) in
    let l = c.self.inside.layout in
    let packed = c.self.inside.packed.items in
    sym (ap (λ rows. count_of rows c.args.word) (sym c.self.view_is)
    ∙ searched-packed l packed c.self.inside.large.items c.args.word (Err c.in-Err.field-0)
    (subst (λ rows. IsStrictlyIncreasing (words rows)) (sym c.self.view_is) c.requires)
    (subst (λ (ps : List ℕ). IsSearchInRange (Err c.in-Err.field-0) (length ps)) c.deref.ensures.value facts.bound)
    (subst (λ (ps : List ℕ). IsBinarySearchResult (λ p. nat_cmp (word_in l p) c.args.word) ps (Err c.in-Err.field-0)) c.deref.ensures.value by_key))

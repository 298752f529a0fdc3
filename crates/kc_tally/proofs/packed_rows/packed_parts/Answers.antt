use Rattle.std.proofs.Common.{◌≡◌, ◌∙◌, [], length, drop, ap, sym, subst, arith}
use Rattle.std.proofs.lemmas.Bool.Decides.{nat_tests}
use Rattle.kc_tally.proofs.Parts.{all_rows}
use Rattle.kc_tally.proofs.PackingSteps.{IsPackedFrom, packed-none, packed-part, all-packed_from, rest}
use Rattle.kc_tally.proofs.packed_rows.packed_parts.Goals as goal

pub parts-init : goal.parts-init
parts-init c =
    subst (IsPackedFrom c.args.rows.items c.args.rows.items []) (sym c.new-packed.ensures.items) (packed-none c.args.rows.items c.requires.words c.requires.present)

pub parts-preserved : goal.parts-preserved
parts-preserved c =
    let rows = c.parts.rows.items in
    let at = c.saturating_sub-at.result in
    let part = c.in_ok-of_rows.field-0 in
    let is : part ≡ drop at rows =
    c.in_ok-of_rows.ensures ∙ rest c.deref.result.now at ∙ ap (drop at) c.deref.ensures.value in
    subst (IsPackedFrom c.args.rows.items c.shrink_to_fit.new.self.items []) (sym c.in_ok-push.ensures.items)
    (packed-part c.args.rows.items rows [] c.parts.packed.items at part c.shrink_to_fit.new.self.items
    c.parts.invariant is (c.shrink_to_fit.ensures.items ∙ c.truncate.ensures.items))

pub returns : goal.returns
returns c =
    let none : length c.parts.rows.items ≡ 0 = grind (arith, nat_tests, c.is_empty.ensures, c.parts-test.false, c.parts.rows.ok) in
    ap all_rows c.reverse.ensures.items ∙ all-packed_from c.args.rows.items c.parts.rows.items c.parts.packed.items none c.parts.invariant

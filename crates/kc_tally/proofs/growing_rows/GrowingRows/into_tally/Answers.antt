use Rattle.std.proofs.Common.{◌≡◌, ◌++◌, ◌∙◌, IfOk, List, ap, sym, subst}
use Rattle.kc_tally.specs.declared.row.Row.{Row}
use Rattle.kc_tally.specs.Tally.{AreRows}
use Rattle.kc_tally.proofs.Parts.{all_rows, parts-push}
use Rattle.kc_tally.proofs.growing_rows.GrowingRows.into_tally.Goals as goal
use Rattle.kc_tally.proofs.growing_rows.GrowingRows.into_tally.Goals.{In_ok-push}

-- the packed rows and the last ones are all rows
whole : (c : In_ok-push) → all_rows c.push.new.self.items ≡ c.args.self
whole c =
    let packed = c.self.inside.packed.items in
    ap all_rows c.in_ok-push.ensures.items ∙ parts-push (λ (part : List Row). part) packed c.in_ok-of_rows.field-0
    ∙ ap (λ rows. all_rows packed ++ rows) (c.in_ok-of_rows.ensures ∙ c.deref.ensures.value)
    ∙ c.self.view_is

pub of_packed-requires : goal.of_packed-requires
of_packed-requires c = subst (AreRows c.args.k c.args.both) (sym (whole (goal.at.of_packed-requires c).In_ok-push)) c.requires

pub returns : goal.returns
returns c =
    subst (λ rows. IfOk c.of_packed.result (λ tally. tally ≡ record { k = c.args.k; both = c.args.both; rows = rows }))
    (whole (goal.at.returns c).In_ok-push) c.of_packed.ensures

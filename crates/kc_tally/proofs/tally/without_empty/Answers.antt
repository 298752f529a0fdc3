use Rattle.std.proofs.Common.{◌≡◌, ◌≤◌, ◌∙◌, ap, subst, sym, rules, filter, length}
use Rattle.std.specs.List.{All}
use Rattle.std.proofs.lemmas.List.Elements.{filter_from_retain}
use Rattle.kc_tally.proofs.Parts.{all_rows, has_rows, all_rows-some, All-some}
use Rattle.kc_tally.proofs.tally.without_empty.Goals as goal

pub returns-clause-same : goal.returns-clause-same
unfolding has_rows
returns-clause-same c =
    let kept : c.retain.new.self.items ≡ filter has_rows c.args.parts.items =
    filter_from_retain _ has_rows (λ f part b f' called. search rules) _ c.args.parts.items c.retain.new.self.items c.retain.ensures.filtered in
    ap all_rows kept ∙ all_rows-some c.args.parts.items

pub returns-clause-some : goal.returns-clause-some
unfolding has_rows
returns-clause-some c =
    let kept : c.retain.new.self.items ≡ filter has_rows c.args.parts.items =
    filter_from_retain _ has_rows (λ f part b f' called. search rules) _ c.args.parts.items c.retain.new.self.items c.retain.ensures.filtered in
    subst (All (λ part. 1 ≤ length part)) (sym kept) (All-some c.args.parts.items)

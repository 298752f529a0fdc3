use Rattle.std.proofs.Common.{◌∙◌, ◌++◌, ap, sym, rules}
use Rattle.std.proofs.lemmas.Iterator.Adapters.{YieldsList-from_vec}
use Rattle.std.proofs.lemmas.Iterator.Consumers.{YieldsList-end}
use Rattle.std.proofs.lemmas.List.{map-id}
use Rattle.kc_gather.proofs.PileLemmas.{all_items, all_items-push}
use Rattle.kc_gather.proofs.piles.concat_lists.Goals as goal

pub loop-list-preserved : goal.loop-list-preserved
loop-list-preserved g c = c.in_ok-append.ensures.items ∙ ap (λ items. items ++ c.in-Some.list.items) c.loop-list.invariant ∙ sym (all_items-push c.loop-list.yielded c.in-Some.list)

pub returns : goal.returns
returns g c =
    let end = YieldsList-end (YieldsList-from_vec {s = c.into_iter-list-iterator.result} c.args.lists.items (search rules) (search rules)) c.loop-list.yielded c.loop-list.list-iterator c.loop-list.yielded_by c.next.result c.next.new.self c.in-None.is c.next.ensures.steps in
    c.loop-list.invariant ∙ ap all_items (sym (map-id c.loop-list.yielded) ∙ end.0)

use Rattle.std.proofs.Common.{rules, Ok, Err, sym}
use Rattle.std.proofs.lemmas.List.Sorted.{answers_always}
use Rattle.kc_tally.proofs.Searches.{searched}
use Rattle.kc_tally.proofs.search.count_in.Goals as goal

pub returns-in-Ok : goal.returns-in-Ok
returns-in-Ok c =
    let facts = c.in-Ok.ensures in
    let by_key = facts.position (λ row. row.word) (answers_always _ _ _ (λ f a r g called. search rules)) in
    sym (searched c.args.rows.now c.args.word (Ok c.in-Ok.index) c.requires facts.bound by_key)

pub returns-in-Err : goal.returns-in-Err
returns-in-Err c =
    let facts = c.in-Err.ensures in
    let by_key = facts.position (λ row. row.word) (answers_always _ _ _ (λ f a r g called. search rules)) in
    sym (searched c.args.rows.now c.args.word (Err c.in-Err.field-0) c.requires facts.bound by_key)

use Rattle.std.proofs.Common.{rules, ◌≡◌, ◌≢◌, ◌∙◌, ap, subst, sym, Ok, Some, [], true, false}
use Rattle.kc_fastx.specs.Lines.{Cursor}
use Rattle.kc_fastx.specs.Reading.{IsSure}
use Rattle.kc_fastx.proofs.LinesLemmas.{lines-some}
use Rattle.kc_fastx.proofs.record_reader.is_sure.Goals as goal

pub returns-in-Ok-Some-clause-sure : goal.returns-in-Ok-Some-clause-sure
returns-in-Ok-Some-clause-sure c = λ more.
    let some : c.args.lines.now.left ≢ [] = λ none.
    let empty : c.lines.inside.left.now ≡ [] = lines-some _ (ap (λ (s : Cursor). s.left) c.lines.view_is ∙ none) in
    let yes : c.is_empty.result ≡ true = rw empty at c.is_empty.ensures in
    absurd (let no : false ≡ true = rw yes at more in cc) in
    let is : c.args.next.now ≡ Ok (Some c.in-Ok-Some.field-0-0) = first_of (search rules, cc) in
    subst (λ v. IsSure v c.args.lines.now.left) (sym is) some

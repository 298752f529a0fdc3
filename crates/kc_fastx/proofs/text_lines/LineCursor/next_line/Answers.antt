use Rattle.std.proofs.Common.{rules, refl, ◌≡◌, ◌<◌, ◌∷◌, ◌∙◌, ◌+◌, ap, arith, length, sym, IfSome, None, Some}
use Rattle.std.proofs.lemmas.Bool.{eqb-false}
use Rattle.std.proofs.lemmas.Grind.{common_steps}
use Rattle.std.specs.Str.Lines.{strip_carriage_return}
use Rattle.kc_fastx.specs.Lines.{Cursor, Passes, lines}
use Rattle.kc_fastx.proofs.LinesLemmas.{IsCut, cut_found, cut_last}
use Rattle.kc_fastx.proofs.RecordsLemmas.{passes_line}
use Rattle.kc_fastx.proofs.text_lines.LineCursor.next_line.Goals as goal
use Rattle.kc_fastx.proofs.text_lines.LineCursor.next_line.Goals.{in-Some, in-None, in-13, in_default}
use Rattle.kc_fastx.proofs.text_lines.LineCursor.next_line.Goals.{in_default-via-then-line-lt1, in_default-via-else-line-lt1+in_default-1}

cut : (c : goal.Joined-line-lt1) → IsCut c.self.inside.left.now c.match-memchr.line.now c.match-memchr.self-inside.left.now
cut c =
    let bytes = c.self.inside.left.now in
    let other = sym c.is_empty.ensures ∙ c.if-is_empty.false in
    let none = eqb-false (length bytes) 0 other in
    let some : 0 < length bytes = first_of (omega (arith, none), grind (arith, none)) in
    elim c.match-memchr.branch [
      | in-Some w ↦ rw (w.line-is, w.self-inside-is)
          (cut_found bytes w.in-Some.end w.in-Some.ensures.0.high w.in-Some.ensures.1 w.in-Some.ensures.0.before)
      | in-None w ↦ rw (w.line-is, w.self-inside-is) (cut_last bytes some w.in-None.ensures)
    ]

pub returns-clause-some : goal.returns-clause-some
returns-clause-some c =
    let line = c.match-memchr.line.now in
    let rest = c.match-memchr.self-inside.left.now in
    let stripped : IfSome c.if-line-lt1.result (λ taken. taken.now ≡ strip_carriage_return line) =
    elim c.if-line-lt1.branch [
      | in-13 w ↦ first_of (search rules, grind (arith, common_steps))
      | in_default w ↦ elim w.in_default.branch [
        | in_default-via-then-line-lt1 v ↦ first_of (search rules, grind (arith, common_steps))
        | in_default-via-else-line-lt1+in_default-1 v ↦ first_of (search rules, grind (arith, common_steps))
      ]
    ] in
    let left = ap (λ (s : Cursor). s.left) (sym c.self.view_is) in
    elim c.if-line-lt1.result as (λ r. IfSome r (λ taken. taken.now ≡ strip_carriage_return line)
    → IfSome r (λ taken. c.args.self.now.left ≡ taken.now ∷ lines rest)) [
      | None ↦ λ nothing. tt
      | Some taken ↦ λ is. left ∙ (cut c).lines ∙ ap (λ v. v ∷ lines rest) (sym is)
    ] stripped

pub returns-clause-passes : goal.returns-clause-passes
returns-clause-passes c =
    let now = c.match-memchr.self-inside in
    let same : now.taken ≡ c.self.inside.taken = elim c.match-memchr.branch [
      | in-Some w ↦ rw w.self-inside-is refl
      | in-None w ↦ rw w.self-inside-is refl
    ] in
    let next : Cursor = record { taken = now.taken + 1; left = lines now.left.now; bytes = now.left.now } in
    let passes : Passes c.args.self.now next = rw (← c.self.view_is)
    (passes_line _ next (cut c).behind (cut c).shorter (ap (λ n. n + 1) same)) in
    elim c.if-line-lt1.result as (λ r. IfSome r (λ taken. Passes c.args.self.now next)) [
      | None ↦ tt
      | Some taken ↦ passes
    ]

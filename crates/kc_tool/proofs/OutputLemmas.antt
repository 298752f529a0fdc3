-- The file that a text is written to.
use Rattle.std.proofs.Common.{◌≡◌, ◌<◌, ◌+◌, ◌++◌, ◌∙◌, ℕ, suc, List, [], ◌∷◌, Option, Some, Result, Ok, Err, refl, sym, ap, subst, inl, inr, arith, append_assoc}
use Rattle.std.specs.Prelude.{false, IfErr, IfOk}
use Rattle.clap.specs.Words.{Text}
use Rattle.kc_io.specs.History.{no_history}
use Rattle.kc_tool.specs.FileEvents.{FileEvent, created, followed, not_made, wrote}
use Rattle.kc_tool.specs.Files.{FailsBeside, HasNoOutput, HasNotBoth, TellsName}
use Rattle.kc_tool.specs.Outputs.{Discards, MakesBeside, OpensOutput}
use Rattle.kc_tool.specs.Outputs.{beside, is_of_system, looks_at, most_tries, taken_beside}
use Rattle.kc_tool.specs.declared.files.NotMade.TheVariants as why
use Rattle.kc_tool.specs.declared.tool_faults.ToolFault.{ToolFault}

-- Facts about each value that is returned.
pub for_ok : {A E : Type 0} {P Q R : A → Type 0} (answer : Result A E) → IfOk answer P → IfOk answer Q → ((value : A) → P value → Q value → R value) → IfOk answer R
for_ok (Ok value) p q all = all value p q
for_ok (Err fault) p q all = tt

pub for_err : {A E : Type 0} {P Q : E → Type 0} (answer : Result A E) → IfErr answer P → ((fault : E) → P fault → Q fault) → IfErr answer Q
for_err (Ok value) p all = tt
for_err (Err fault) p all = all fault p

-- No new file can be made under the next name.
pub refused_beside : (old : List FileEvent) {mid new : List FileEvent} (path name : Text) {next : Text} (fault : ToolFault) (n : ℕ) → mid ≡ old ++ taken_beside path n
    → new ≡ mid ++ not_made why.Refused next ∷ [] → next ≡ beside path (n + 1) → n < most_tries → TellsName name fault
    → (asked : List FileEvent) × (new ≡ old ++ asked) × FailsBeside name path asked fault
refused_beside old {mid} {new} path name {next} fault n so_far refused named within tells =
    let last = not_made why.Refused (beside path (suc n)) ∷ [] in
    let after : n + 1 ≡ suc n = omega arith in (
      taken_beside path n ++ last,
      refused ∙ ap (λ v. mid ++ not_made why.Refused v ∷ []) (named ∙ ap (beside path) after) ∙ ap (λ v. v ++ last) so_far ∙ append_assoc old (taken_beside path n) last,
      inl (tells, inl (n, within, refl)),
    )

-- All names are taken.
pub all_taken : (old : List FileEvent) {mid : List FileEvent} (path name : Text) (fault : ToolFault) (n : ℕ) → mid ≡ old ++ taken_beside path n → n ≡ most_tries → TellsName name fault
    → (asked : List FileEvent) × (mid ≡ old ++ asked) × FailsBeside name path asked fault
all_taken old {mid} path name fault n so_far all tells =
    (taken_beside path most_tries, so_far ∙ ap (λ v. old ++ taken_beside path v) all, inl (tells, inr refl))

module _ (old : List FileEvent) (file path : Text) {opened closed led : List FileEvent} (opens : opened ≡ old ++ created file ∷ [])
    (closes : closed ≡ opened ++ wrote file no_history ∷ []) (leads : led ≡ closed ++ followed file path ∷ []) where
  -- FILE was looked at.
  pub looked_at : led ≡ old ++ looks_at file path
  looked_at = leads ∙ ap (λ v. v ++ followed file path ∷ []) (closes ∙ ap (λ v. v ++ wrote file no_history ∷ []) opens ∙ append_assoc old (created file ∷ []) (wrote file no_history ∷ []))
      ∙ append_assoc old (created file ∷ wrote file no_history ∷ []) (followed file path ∷ [])

  behind : (asked : List FileEvent) {new : List FileEvent} → new ≡ led ++ asked → new ≡ old ++ (looks_at file path ++ asked)
  behind asked is = is ∙ ap (λ v. v ++ asked) looked_at ∙ append_assoc old (looks_at file path) asked

  -- A new file was made beside it.
  pub opened_beside : {name : Text} {goes : Option Text} {new : List FileEvent} → is_of_system file ≡ false → goes ≡ Some path
      → (asked : List FileEvent) × (new ≡ led ++ asked) × MakesBeside path name asked
      → (asked : List FileEvent) × (new ≡ old ++ asked) × OpensOutput file name goes asked
  opened_beside {name} {goes} {new} plain to makes = (
    looks_at file path ++ makes.0,
    behind makes.0 makes.1,
    subst (λ v. OpensOutput file name v (looks_at file path ++ makes.0)) (sym to) (plain, (makes.0, makes.2, refl)),
  )

  -- Or none was.
  pub lacks_beside : {new : List FileEvent} (fault : ToolFault) → (asked : List FileEvent) × (new ≡ led ++ asked) × FailsBeside file path asked fault
      → (asked : List FileEvent) × (new ≡ old ++ asked) × HasNoOutput file asked fault
  lacks_beside {new} fault fails = (looks_at file path ++ fails.0, behind fails.0 fails.1, lacks fails.2) where
    lacks : FailsBeside file path fails.0 fault → HasNoOutput file (looks_at file path ++ fails.0) fault
    lacks (inl none) = inl (none.0, inr (inr (path, fails.0, none.1, refl)))
    lacks (inr short) = inr (short.0, inr (path, fails.0, short.1, refl))

-- ---- two texts

-- What was asked of files between two times is such.
abbrev pub HasAsked : (List FileEvent → Type 0) → List FileEvent → List FileEvent → Type 0
HasAsked Is old new = (asked : List FileEvent) × (new ≡ old ++ asked) × Is asked

-- There is no file for the first text.
pub first_lacking : {A : Type 0} (old : List FileEvent) {new : List FileEvent} (first second : Text) {told fault : ToolFault} (answer : Result A ToolFault) → answer ≡ Err told
    → told ≡ fault → HasAsked (λ tried. HasNoOutput first tried fault) old new
    → IfErr answer (λ fault. HasAsked (λ tried. HasNotBoth first second tried fault) old new)
first_lacking old {new} first second answer is same lacks =
    subst (λ v. IfErr v (λ fault. HasAsked (λ tried. HasNotBoth first second tried fault) old new)) (sym (is ∙ ap Err same))
    (lacks.0, lacks.1, inl lacks.2)

-- There is no file for the second text, and that for the first one is given up.
pub no_second : (old : List FileEvent) {opened tried closed new : List FileEvent} (first second name : Text) (path : Option Text) (fault : ToolFault)
    → HasAsked (OpensOutput first name path) old opened → HasAsked (λ none. HasNoOutput second none fault) opened tried
    → closed ≡ tried ++ wrote name no_history ∷ [] → HasAsked (Discards name path) closed new
    → HasAsked (λ tried. HasNotBoth first second tried fault) old new
no_second old {opened} {tried} {closed} {new} first second name path fault opens none closes discards =
    let end = wrote name no_history ∷ discards.0 in
    let before : tried ≡ old ++ (opens.0 ++ none.0) = none.1 ∙ ap (λ v. v ++ none.0) opens.1 ∙ append_assoc old opens.0 none.0 in (
      opens.0 ++ none.0 ++ end,
      discards.1 ∙ ap (λ v. v ++ discards.0) closes ∙ append_assoc tried (wrote name no_history ∷ []) discards.0
          ∙ ap (λ v. v ++ end) before ∙ append_assoc old (opens.0 ++ none.0) end,
      inr (name, path, opens.0, none.0, end, opens.2, none.2, (discards.0, discards.2, refl), refl),
    )

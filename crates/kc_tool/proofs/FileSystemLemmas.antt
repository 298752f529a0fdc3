-- What becomes of a file system by what is asked for a text that goes to FILE.
use Rattle.std.proofs.Common.{◌≡◌, ◌≤◌, ◌++◌, ◌∙◌, ℕ, zero, suc, List, [], ◌∷◌, length, Option, Some, None, Result, Ok, Err, refl, sym, ap, subst, inl, inr, arith}
use Rattle.std.proofs.Common.{append-nil}
use Rattle.std.specs.Prelude.{◌≢◌, codes, decimal, unwrap_or}
use Rattle.std.proofs.lemmas.List.{length-append}
use Rattle.clap.specs.Words.{Text}
use Rattle.kc_io.specs.History.{History, no_history}
use Rattle.kc_tool.specs.FileEvents.{FileEvent, created, followed, made, not_followed, not_made, wrote}
use Rattle.kc_tool.specs.FileSystem.{Acts, Disk, Follows, IsLeft, IsSameDisk, LeavesInPlace, PutsInPlace, Sets, bytes_after, kept_bytes}
use Rattle.kc_tool.specs.Files.{FileRead, returned}
use Rattle.kc_tool.specs.Outputs.{ClosesOutput, LacksRoomForOutput, MakesNoneBeside, OpensNoOutput, OpensOutput, Removes, beside, looks_at, most_tries, suffix, taken_beside}
use Rattle.kc_tool.specs.declared.files.NotMade.TheVariants as why
use Rattle.kc_tool.specs.declared.tool_faults.ToolFault.{ToolFault}

-- the file of a path has these bytes, that of a name those, and all others are unchanged
record Has (path name : Text) (here there : Option (List ℕ)) (old new : Disk) : Type 0 where
  file : new path ≡ here
  other : new name ≡ there
  others : (at : Text) → at ≢ path → at ≢ name → new at ≡ old at

has_same : {path name : Text} {here there : Option (List ℕ)} {old middle new : Disk} → Has path name here there old middle → IsSameDisk middle new
    → Has path name here there old new
has_same {path} {name} has same = record {
  file = same path ∙ has.file;
  other = same name ∙ has.other;
  others = λ at not_file not_new. same at ∙ has.others at not_file not_new;
}

has_set : {path name : Text} {here there bytes : Option (List ℕ)} {old middle new : Disk} → path ≢ name → Has path name here there old middle → Sets name bytes middle new
    → Has path name here bytes old new
has_set {path} {name} apart has sets = record {
  file = sets.others path apart ∙ has.file;
  other = sets.there;
  others = λ at not_file not_new. sets.others at not_new ∙ has.others at not_file not_new;
}

has_file : {path name : Text} {here there bytes : Option (List ℕ)} {old middle new : Disk} → path ≢ name → Has path name here there old middle → Sets path bytes middle new
    → Has path name bytes there old new
has_file {path} {name} apart has sets = record {
  file = sets.there;
  other = sets.others name (λ is. apart (sym is)) ∙ has.other;
  others = λ at not_file not_new. sets.others at not_file ∙ has.others at not_file not_new;
}

sets_same : {path : Text} {bytes : Option (List ℕ)} {old middle new : Disk} → Sets path bytes old middle → IsSameDisk middle new → Sets path bytes old new
sets_same {path} sets same = record { there = same path ∙ sets.there; others = λ at not_file. same at ∙ sets.others at not_file }

has_suffix : (n : ℕ) → 1 ≤ length (suffix n)
has_suffix n = let some = length-append (codes ".kcount-") (decimal n) in omega (arith, some)

-- A new file has another name than the one that it is beside.
is_apart : (path name : Text) (n : ℕ) → name ≡ beside path n → path ≢ name
is_apart path name n named is =
    let same : length path ≡ length (path ++ suffix n) = ap length (is ∙ named) in
    let longer = length-append path (suffix n) in
    let some = has_suffix n in
    omega (arith, same, longer, some)

module _ (leads : Text → Text) where
  -- What two lists do is what one does, and then the other.
  follows_split : (xs ys : List FileEvent) (old new : Disk) → Follows leads (xs ++ ys) old new
      → (middle : Disk) × Follows leads xs old middle × Follows leads ys middle new
  follows_split [] ys old new f = (old, (λ path. refl), f)
  follows_split (x ∷ xs) ys old new f = let rest = follows_split xs ys f.0 new f.2 in (rest.0, (f.0, f.1, rest.1), rest.2)

  -- Reading changes nothing.
  reads_nothing : (files : List FileRead) (old new : Disk) → Follows leads (returned files) old new → IsSameDisk old new
  reads_nothing [] old new f = f
  reads_nothing (file ∷ files) old new f = let rest = reads_nothing files f.0 new f.2 in λ path. rest path ∙ f.1 path

  -- Nor do names that are taken.
  taken_nothing : (path : Text) (n : ℕ) (old new : Disk) → Follows leads (taken_beside path n) old new → IsSameDisk old new
  taken_nothing path zero old new f = f
  taken_nothing path (suc n) old new f =
      let split = follows_split (taken_beside path n) (not_made why.Taken (beside path (suc n)) ∷ []) old new f in
      let before = taken_nothing path n old split.0 split.1 in
      λ at. split.2.2 at ∙ split.2.1 at ∙ before at

  -- FILE was opened, and closed with nothing written.
  touched : (file : Text) (xs : List FileEvent) (old new : Disk) → Follows leads (created file ∷ wrote file no_history ∷ xs) old new
      → (middle : Disk) × Sets (leads file) (kept_bytes old (leads file)) old middle × Follows leads xs middle new
  touched file xs old new f =
      let path = leads file in
      let made = f.0 in
      let opens = f.1 in
      let closes = f.2.1 in (
        f.2.0,
        record {
          there = closes.there ∙ ap Some (append-nil (unwrap_or (made path) [])) ∙ ap (λ v. Some (unwrap_or v [])) opens.there;
          others = λ at not_file. closes.others at not_file ∙ opens.others at not_file;
        },
        f.2.2,
      )

  -- Its links were followed as well.
  looked : (file path : Text) (xs : List FileEvent) (old new : Disk) → Follows leads (looks_at file path ++ xs) old new
      → (middle : Disk) × Sets (leads file) (kept_bytes old (leads file)) old middle × Follows leads xs middle new
  looked file path xs old new f =
      let first = touched file (followed file path ∷ xs) old new f in
      (first.2.0, sets_same first.1 first.2.1, first.2.2)

  -- Names are taken, and no new file is made.
  none_nothing : (path : Text) {none : List FileEvent} (old new : Disk) → MakesNoneBeside path none → Follows leads none old new → IsSameDisk old new
  none_nothing path {none} old new (inl refused) f =
      let n = refused.0 in
      let split = follows_split (taken_beside path n) (not_made why.Refused (beside path (suc n)) ∷ []) old new (subst (λ v. Follows leads v old new) refused.2 f) in
      let before = taken_nothing path n old split.0 split.1 in
      λ at. split.2.2 at ∙ split.2.1 at ∙ before at
  none_nothing path {none} old new (inr all) f = taken_nothing path most_tries old new (subst (λ v. Follows leads v old new) all f)

  module _ {path name : Text} (apart : path ≢ name) where
    -- The file of a text was opened: FILE is unchanged, and the new file is empty.
    opens_beside : {file : Text} {opening : List FileEvent} {old new : Disk} → leads file ≡ path → OpensOutput file name (Some path) opening
        → Follows leads opening old new → Has path name (kept_bytes old path) (Some []) old new
    opens_beside {file} {opening} {old} {new} leads_to opened f =
        let makes = opened.1.1 in
        let start = looked file path opened.1.0 old new (subst (λ v. Follows leads v old new) opened.1.2 f) in
        let there = subst (λ v. Sets v (kept_bytes old v) old start.0) leads_to start.1 in
        let split = follows_split (taken_beside path makes.0) (made name ∷ []) start.0 new (subst (λ v. Follows leads v start.0 new) makes.3 start.2) in
        let kept = sets_same there (taken_nothing path makes.0 start.0 split.0 split.1) in
        let new_file = split.2.1 in
        has_same (record {
          file = new_file.others path apart ∙ kept.there;
          other = new_file.there;
          others = λ at not_file not_new. new_file.others at not_new ∙ kept.others at not_file;
        }) split.2.2

    -- The new file has taken this.
    writes_beside : {here : Option (List ℕ)} (history : History) {old middle new : Disk} → leads name ≡ name → Has path name here (Some []) old middle
        → Acts leads (wrote name history).act name [] history middle new → Has path name here (Some history.bytes) old new
    writes_beside {here} history {old} {middle} {new} itself has acts =
        let sets = subst (λ v. Sets v (Some (unwrap_or (middle v) [] ++ history.bytes)) middle new) itself acts in
        has_set apart has (record { there = sets.there ∙ ap (λ v. Some (unwrap_or v [] ++ history.bytes)) has.other; others = sets.others })

    -- It was removed, or could not be.
    removes : {last : FileEvent} {here there : Option (List ℕ)} {old middle new : Disk} → Removes name last → Has path name here there old middle
        → Follows leads (last ∷ []) middle new → (after : Option (List ℕ)) × Has path name here after old new
    removes {last} {here} {there} {old} {middle} {new} (inl is) has f =
        let gone = subst (λ v. Follows leads (v ∷ []) middle new) is f in
        (None, has_same (has_set apart has gone.1) gone.2)
    removes {last} {here} {there} {old} {middle} {new} (inr is) has f =
        let left = subst (λ v. Follows leads (v ∷ []) middle new) is f in
        (there, has_same (has_same has left.1) left.2)

    -- The file of a text was closed.
    closes_beside : {T : Type 0} (history : History) (work outcome : Result T ToolFault) (closing : List FileEvent) {old : Disk} (middle new : Disk) → leads name ≡ name
        → ClosesOutput name (Some path) history work outcome closing → Has path name (kept_bytes old path) (Some []) old middle
        → Follows leads closing middle new → (after : Option (List ℕ)) × Has path name (bytes_after old path history outcome) after old new
    closes_beside {T} history (Ok done) outcome closing {old} middle new itself (inl well) has f =
        let acts = subst (λ v. Follows leads v middle new) well.1 f in
        let written = writes_beside history itself has acts.1 in
        let moves = acts.2.1 in
        let put = has_file apart written moves.1 in
        let gone = has_same (has_set apart put moves.2) acts.2.2 in (
          None,
          subst (λ v. Has path name (bytes_after old path history v) None old new) (sym well.0)
              (record { file = gone.file ∙ written.other; other = gone.other; others = gone.others }),
        )
    closes_beside {T} history (Ok done) outcome closing {old} middle new itself (inr failed) has f =
        let last = failed.1 in
        let acts = subst (λ v. Follows leads v middle new) last.2 f in
        let written = writes_beside history itself has acts.1 in
        let left = removes last.1 (has_same written acts.2.1) acts.2.2 in
        (left.0, subst (λ v. Has path name (bytes_after old path history v) left.0 old new) (sym failed.0) left.1)
    closes_beside {T} history (Err fault) outcome closing {old} middle new itself refused has f =
        let last = refused.1 in
        let acts = subst (λ v. Follows leads v middle new) last.2 f in
        let written = writes_beside history itself has acts.1 in
        let left = removes last.1 written acts.2 in
        (left.0, subst (λ v. Has path name (bytes_after old path history v) left.0 old new) (sym refused.0) left.1)

-- A text is put in its place.
pub puts_in_place : PutsInPlace
puts_in_place leads old new file path task input input_after files asked outcome writes goes leads_to itself f =
    let name = writes.file.name in
    let opened = subst (λ v. OpensOutput file name v writes.opening) goes writes.opened in
    let closed = subst (λ v. ClosesOutput name v writes.file.after.history writes.work outcome writes.closing) goes writes.closed in
    let makes = opened.1.1 in
    let apart = is_apart path name (suc makes.0) makes.2 in
    let all = subst (λ v. Follows leads v old new) writes.log f in
    let work = follows_split leads (writes.opening ++ returned files) writes.closing old new all in
    let first = follows_split leads writes.opening (returned files) old work.0 work.1 in
    let before = has_same (opens_beside leads apart leads_to opened first.1) (reads_nothing leads files first.0 work.0 first.2) in
    let after = closes_beside leads apart writes.file.after.history writes.work outcome writes.closing work.0 new itself closed before work.2 in
    record { file = after.1.file; others = after.1.others }

-- If there is no file for it, FILE stays.
module _ (leads : Text → Text) {file : Text} {old new : Disk} where
  as_it_was : IsSameDisk old new → IsLeft (leads file) old new
  as_it_was same = record { file = inl (same (leads file)); others = λ at not_file. same at }

  as_it_is_kept : {middle : Disk} → Sets (leads file) (kept_bytes old (leads file)) old middle → IsSameDisk middle new → IsLeft (leads file) old new
  as_it_is_kept sets same = let all = sets_same sets same in record { file = inr all.there; others = all.others }

  left_unopened : {tried : List FileEvent} → OpensNoOutput file tried → Follows leads tried old new → IsLeft (leads file) old new
  left_unopened (inl not_opened) f =
      let acts = subst (λ v. Follows leads v old new) not_opened f in
      as_it_was (λ at. acts.2 at ∙ acts.1 at)
  left_unopened (inr (inl not_led)) f =
      let start = touched leads file (not_followed file ∷ []) old new (subst (λ v. Follows leads v old new) not_led f) in
      as_it_is_kept start.1 (λ at. start.2.2 at ∙ start.2.1 at)
  left_unopened (inr (inr none)) f =
      let start = looked leads file none.0 none.1 old new (subst (λ v. Follows leads v old new) none.3 f) in
      as_it_is_kept start.1 (none_nothing leads none.0 start.0 new none.2 start.2)

  left_short : {tried : List FileEvent} → LacksRoomForOutput file tried → Follows leads tried old new → IsLeft (leads file) old new
  left_short (inl nothing) f = as_it_was (subst (λ v. Follows leads v old new) nothing f)
  left_short (inr some) f =
      let start = looked leads file some.0 some.1 old new (subst (λ v. Follows leads v old new) some.3 f) in
      let stops = some.2 in
      as_it_is_kept start.1 (taken_nothing leads some.0 stops.0 start.0 new (subst (λ v. Follows leads v start.0 new) stops.2 start.2))

pub leaves_in_place : LeavesInPlace
leaves_in_place leads old new file tried fault (inl lacks) f = left_unopened leads lacks.1 f
leaves_in_place leads old new file tried fault (inr lacks) f = left_short leads lacks.1 f

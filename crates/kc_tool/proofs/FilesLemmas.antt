-- Files that are opened one after another, and given back.
use Rattle.std.proofs.Common.{◌≡◌, ◌<◌, ◌+◌, ◌++◌, ℕ, suc, List, [], ◌∷◌, length, map, take, drop, get_or, Bor, sym, ◌∙◌, ap, ap₂}
use Rattle.std.proofs.Common.{refl, append_assoc, append-nil, subst, inl}
use Rattle.std.specs.Prelude.{All}
use Rattle.std.proofs.lemmas.List.{map-append, take_more, take-append-drop}
use Rattle.std.proofs.lemmas.List.Elements.{All-head, All-nil, All-push, All-tail}
use Rattle.std.proofs.Math.Seq.{drop-cons}
use Rattle.clap.specs.Words.{Text}
use Rattle.kc_io.specs.History.{no_history}
use Rattle.kc_io.specs.Sources.{Seen}
use Rattle.kc_tool.specs.FileEvents.{FileEvent, not_opened, opened, read}
use Rattle.kc_tool.specs.NamedSources.{names_of, seen_of}
use Rattle.kc_tool.specs.Files.{AreOf, FailsToOpen, FileRead, OpensAll, TellsName, given_back, returned, unread}
use Rattle.kc_tool.specs.declared.named_sources.NamedSource.{NamedSource}
use Rattle.kc_tool.specs.declared.tool_faults.ToolFault.{ToolFault}

-- Nothing was opened yet.
pub opened_none : (log : List FileEvent) → OpensAll [] log log []
opened_none log = record { named = refl; fresh = All-nil (λ (seen : Seen). seen.history ≡ no_history); log = sym (append-nil log) }

abbrev now_of : List (Bor Text) → List Text
now_of names = map (λ name. name.now) names

one_now : (names : List (Bor Text)) (i : ℕ) (d : Bor Text) → i < length names → now_of (take (i + 1) names) ≡ now_of (take i names) ++ (get_or names i d).now ∷ []
one_now names i d within = ap now_of (take_more names i d within) ∙ map-append (λ name. name.now) (take i names) (get_or names i d ∷ [])

-- One more file was opened.
pub opened_more : (names : List (Bor Text)) (i : ℕ) (d : Bor Text) {old mid new : List FileEvent} {sources : List (NamedSource Seen)} (source : NamedSource Seen)
    → i < length names → OpensAll (map (λ name. name.now) (take i names)) old mid sources → new ≡ mid ++ opened (get_or names i d).now ∷ []
    → source.name.now ≡ (get_or names i d).now → source.source.history ≡ no_history
    → OpensAll (map (λ name. name.now) (take (i + 1) names)) old new (sources ++ source ∷ [])
opened_more names i d {old} {mid} {new} {sources} source within so_far log named fresh =
    let more = one_now names i d within in
    let all = now_of (take i names) in
    let one = (get_or names i d).now in
    record {
      named = map-append (λ (source : NamedSource Seen). source.name.now) sources (source ∷ []) ∙ ap₂ (λ xs x. xs ++ x ∷ []) so_far.named named ∙ sym more;
      fresh = subst (All (λ (seen : Seen). seen.history ≡ no_history)) (sym (map-append (λ (source : NamedSource Seen). source.source) sources (source ∷ [])))
          (All-push (λ (seen : Seen). seen.history ≡ no_history) (seen_of (λ seen. seen) sources) source.source so_far.fresh fresh);
      log = log ∙ ap (λ v. v ++ opened one ∷ []) so_far.log ∙ append_assoc old (map opened all) (opened one ∷ [])
          ∙ ap (λ v. old ++ v) (sym (map-append opened all (one ∷ []))) ∙ ap (λ v. old ++ map opened v) (sym more);
    }

-- Sources of which nothing was asked are given back unread.
pub unread_back : (sources : List (NamedSource Seen)) → All (λ (seen : Seen). seen.history ≡ no_history) (seen_of (λ seen. seen) sources) → given_back sources ≡ unread (names_of sources)
unread_back [] fresh = refl
unread_back (source ∷ sources) fresh =
    let Fresh = λ (seen : Seen). seen.history ≡ no_history in
    ap₂ (λ history rest. read source.name.now history ∷ rest) (All-head Fresh source.source (seen_of (λ seen. seen) sources) fresh)
    (unread_back sources (All-tail Fresh source.source (seen_of (λ seen. seen) sources) fresh))

-- The next file can't be opened.
pub opened_short : (names : List (Bor Text)) (i : ℕ) (d : Bor Text) {old mid after new : List FileEvent} {sources : List (NamedSource Seen)} (fault : ToolFault) → i < length names
    → OpensAll (map (λ name. name.now) (take i names)) old mid sources → after ≡ mid ++ not_opened (get_or names i d).now ∷ [] → new ≡ after ++ given_back sources
    → TellsName (get_or names i d).now fault → FailsToOpen (map (λ name. name.now) names) old new fault
opened_short names i d {old} {mid} {after} {new} {sources} fault within so_far not_had back told =
    let front = now_of (take i names) in
    let one = (get_or names i d).now in
    let rest = now_of (drop (suc i) names) in
    let asked = map opened front ++ not_opened one ∷ unread front in
    let split : now_of names ≡ front ++ one ∷ rest =
    ap now_of (sym (take-append-drop i names) ∙ ap (λ v. take i names ++ v) (drop-cons names i d within))
    ∙ map-append (λ name. name.now) (take i names) (get_or names i d ∷ drop (suc i) names) in
    let returned : given_back sources ≡ unread front = unread_back sources so_far.fresh ∙ ap unread so_far.named in
    let log : new ≡ old ++ asked =
    back ∙ ap₂ (λ v w. v ++ w) (not_had ∙ ap (λ v. v ++ not_opened one ∷ []) so_far.log) returned
    ∙ append_assoc (old ++ map opened front) (not_opened one ∷ []) (unread front)
    ∙ append_assoc old (map opened front) (not_opened one ∷ unread front) in
    inl (one, asked, record { before = front; behind = rest; split = split; log = refl }, log, told)

-- Sources before they are read and after it, as files.
pub record PairedTo (old new : List (NamedSource Seen)) (files : List FileRead) : Type 0 where
  pub are : AreOf old files
  pub after : map (λ file. file.after) files ≡ seen_of (λ seen. seen) new
  pub log : returned files ≡ given_back new

same_head : {name other : Text} {names others : List Text} → name ∷ names ≡ other ∷ others → name ≡ other
same_head e = cc

same_tail : {name other : Text} {names others : List Text} → name ∷ names ≡ other ∷ others → names ≡ others
same_tail e = cc

pub paired : (old new : List (NamedSource Seen)) → names_of new ≡ names_of old → (files : List FileRead) × PairedTo old new files
paired [] [] same = ([], record { are = record { named = refl; before = refl }; after = refl; log = refl })
paired [] (source ∷ new) same = let none : ⊥ = cc in absurd none
paired (source ∷ old) [] same = let none : ⊥ = cc in absurd none
paired (before ∷ old) (after ∷ new) same =
    let rest = paired old new (same_tail same) in
    let file : FileRead = record { name = before.name.now; before = before.source; after = after.source } in (
      file ∷ rest.0,
      record {
        are = record { named = ap (λ v. before.name.now ∷ v) rest.1.are.named; before = ap (λ v. before.source ∷ v) rest.1.are.before };
        after = ap (λ v. after.source ∷ v) rest.1.after;
        log = ap₂ (λ name v. read name after.source.history ∷ v) (sym (same_head same)) rest.1.log;
      },
    )

-- A list that was lent as a slice has the slice's items again.
lent_whole : (later sources : List (NamedSource Seen)) → names_of later ≡ names_of sources → take (length sources) (later ++ drop (length later) sources) ≡ later
lent_whole [] [] same = refl
lent_whole [] (source ∷ sources) same = let none : ⊥ = cc in absurd none
lent_whole (source ∷ later) [] same = let none : ⊥ = cc in absurd none
lent_whole (other ∷ later) (source ∷ sources) same = ap (λ v. other ∷ v) (lent_whole later sources (same_tail same))

pub lent_back : (later sources : List (NamedSource Seen)) (n : ℕ) → names_of later ≡ names_of sources → n ≡ length sources
    → take n (later ++ drop (length later) sources) ≡ later
lent_back later sources n same counted = ap (λ k. take k (later ++ drop (length later) sources)) counted ∙ lent_whole later sources same

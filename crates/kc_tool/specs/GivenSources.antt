-- The sources of a task: this project's own.
use Rattle.std.specs.Prelude.{◌≡◌, ℕ, List, drop, get_or, set, take}
use Rattle.kc_io.specs.Sources.{Seen}
use Rattle.kc_tool.specs.Commands.{KeepsInput, given_listed, sources_from}
use Rattle.kc_tool.specs.NamedSources.{names_of, seen_of}
use Rattle.kc_tool.specs.Tallies.{Given}
use Rattle.kc_tool.specs.declared.given_sources.GivenSources.{GivenSources}

-- the views of a task's files, in order
abbrev pub files_in : {R F : Type 0} → (F → Seen) → GivenSources R F → List Seen
files_in seen given = seen_of seen given.files.now

-- the views of its sources, in order: the files after its own, or the input if there are none
abbrev pub seen_in : {R F : Type 0} → (R → Seen) → (F → Seen) → GivenSources R F → List Seen
seen_in seen seen_file given = sources_from (seen given.input.now) (drop given.own (files_in seen_file given))

-- the view of its first file, which is its list or its table, and those of its sources
abbrev pub listed_in : {R F : Type 0} → (R → Seen) → (F → Seen) → GivenSources R F → Given
listed_in seen seen_file given = given_listed (seen given.input.now) (files_in seen_file given)

-- the same files with their names, and the same input, which is unchanged if there are files for sources
pub record KeepsFiles {R F : Type 0} (seen : R → Seen) (seen_file : F → Seen)
    (old new : GivenSources R F) : Type 0 where
  pub files : new.files.ghost_name ≡ old.files.ghost_name
  pub input : new.input.ghost_name ≡ old.input.ghost_name
  pub own : new.own ≡ old.own
  pub names : names_of new.files.now ≡ names_of old.files.now
  pub unread : KeepsInput (drop old.own (files_in seen_file old)) (seen old.input.now) (seen new.input.now)

-- the same, and the files before the sources are unchanged
pub record Keeps {R F : Type 0} (seen : R → Seen) (seen_file : F → Seen) (old new : GivenSources R F) : Type 0 where
  pub files : new.files.ghost_name ≡ old.files.ghost_name
  pub input : new.input.ghost_name ≡ old.input.ghost_name
  pub own : new.own ≡ old.own
  pub names : names_of new.files.now ≡ names_of old.files.now
  pub unread : KeepsInput (drop old.own (files_in seen_file old)) (seen old.input.now) (seen new.input.now)
  pub before : take old.own (files_in seen_file new) ≡ take old.own (files_in seen_file old)

-- the source at one index of a list was read as `Reads`, and the others are unchanged
pub record ReadsAt (i : ℕ) (old new : List Seen) (Reads : Seen → Seen → Type 0) : Type 0 where
  pub here : Seen
  pub later : Seen
  pub was : get_or old i here ≡ here
  pub are : new ≡ set old i later
  pub reads : Reads here later

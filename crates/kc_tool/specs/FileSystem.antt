-- The effect of requests on a file system: a model of one that keeps names and bytes, this project's own.
use Rattle.std.specs.Prelude.{◌≡◌, ◌≢◌, ◌⊎◌, ℕ, List, [], ◌∷◌, ◌++◌, Option, Some, None, Result, Ok, Err, unwrap_or}
use Rattle.clap.specs.Words.{Text}
use Rattle.kc_io.specs.History.{History}
use Rattle.kc_io.specs.Sources.{Seen}
use Rattle.kc_tool.specs.Commands.{WritesTo}
use Rattle.kc_tool.specs.FileEvents.{FileEvent}
use Rattle.kc_tool.specs.Files.{FileRead, HasNoOutput}
use Rattle.kc_tool.specs.declared.told.Told.{Told}
use Rattle.kc_tool.specs.declared.commands.Task.{Task}
use Rattle.kc_tool.specs.declared.file_acts.FileAct.{FileAct}
use Rattle.kc_tool.specs.declared.file_acts.FileAct.TheVariants.{Created, Made, Wrote, Renamed, Removed}
use Rattle.kc_tool.specs.declared.tool_faults.ToolFault.{ToolFault}

-- the bytes of the file at each path, if there is one
abbrev pub Disk : Type 0
Disk = Text → Option (List ℕ)

-- both have the same files
abbrev pub IsSameDisk : Disk → Disk → Type 0
IsSameDisk old new = (path : Text) → new path ≡ old path

-- the file at this path then has these bytes, or there is none, and all others are unchanged
pub record Sets (path : Text) (bytes : Option (List ℕ)) (old new : Disk) : Type 0 where
  pub there : new path ≡ bytes
  pub others : (other : Text) → other ≢ path → new other ≡ old other

-- the effect of one request, where each name leads to a path: a file is made if there was none, bytes are appended to
-- those of a file, a file is renamed or removed; all else changes nothing
abbrev pub Acts : (Text → Text) → FileAct → Text → Text → History → Disk → Disk → Type 0
Acts leads Created name other history old new =
    Sets (leads name) (Some (unwrap_or (old (leads name)) [])) old new
Acts leads Made name other history old new = Sets name (Some []) old new
Acts leads Wrote name other history old new =
    Sets (leads name) (Some (unwrap_or (old (leads name)) [] ++ history.bytes)) old new
Acts leads Renamed name other history old new =
    (middle : Disk) × Sets other (old name) old middle × Sets name None middle new
Acts leads Removed name other history old new = Sets name None old new
Acts leads act name other history old new = IsSameDisk old new

-- the effect of all requests, in order
abbrev pub Follows : (Text → Text) → List FileEvent → Disk → Disk → Type 0
Follows leads [] old new = IsSameDisk old new
Follows leads (event ∷ events) old new = (middle : Disk)
    × Acts leads event.act event.name event.other event.history old middle × Follows leads events middle new

-- the bytes of FILE once it was opened for writing: its own, or none if there was no file
abbrev pub kept_bytes : Disk → Text → Option (List ℕ)
kept_bytes old path = Some (unwrap_or (old path) [])

-- the bytes of FILE after the work: all that was written if it succeeded, otherwise those that FILE had
abbrev pub bytes_after : {T : Type 0} → Disk → Text → History → Result T ToolFault → Option (List ℕ)
bytes_after old path history (Ok done) = Some history.bytes
bytes_after old path history (Err fault) = kept_bytes old path

-- FILE, at this path, has what it should, and all other files but the new one, with this name, are unchanged
pub record IsPutInPlace (path name : Text) (history : History) (outcome : Result Told ToolFault) (old new : Disk)
    : Type 0 where
  pub file : new path ≡ bytes_after old path history outcome
  pub others : (other : Text) → other ≢ path → other ≢ name → new other ≡ old other

-- a text for FILE, which leads to a path, is there whole if the work succeeded; after an error FILE is unchanged, or
-- empty if there was none
abbrev pub PutsInPlace : Type 0
PutsInPlace = (leads : Text → Text) → (old new : Disk) → (file path : Text) → (task : Task)
    → (input input_after : Seen) → (files : List FileRead) → (asked : List FileEvent)
    → (outcome : Result Told ToolFault) → (writes : WritesTo file task input input_after files asked outcome)
    → writes.path ≡ Some path → leads file ≡ path → leads writes.file.name ≡ writes.file.name
    → Follows leads asked old new
    → IsPutInPlace path writes.file.name writes.file.after.history outcome old new

-- FILE, at this path, is unchanged, or empty if there was none, and all others are unchanged
pub record IsLeft (path : Text) (old new : Disk) : Type 0 where
  pub file : (new path ≡ old path) ⊎ (new path ≡ kept_bytes old path)
  pub others : (other : Text) → other ≢ path → new other ≡ old other

-- if there is no file for a text that should go to FILE, nothing else happens to FILE
abbrev pub LeavesInPlace : Type 0
LeavesInPlace = (leads : Text → Text) → (old new : Disk) → (file : Text) → (tried : List FileEvent)
    → (fault : ToolFault) → HasNoOutput file tried fault → Follows leads tried old new → IsLeft (leads file) old new

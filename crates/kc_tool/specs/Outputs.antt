-- Where the text of a command goes: source, our formats page ("The output").
use Rattle.std.specs.Prelude.{◌≡◌, ◌⊎◌, ℕ, zero, suc, ◌<◌, Bool, true, false, ◌&&◌, ◌||◌, not, List, [], ◌∷◌, ◌++◌}
use Rattle.std.specs.Prelude.{Option, Some, None, Result, Ok, Err, codes, decimal, nat_eq}
use Rattle.std.specs.List.{starts_with}
use Rattle.std.specs.Fs.{asks_append, asks_create, asks_create_new, asks_truncate, asks_write}
use Rattle.std.specs.declared.fs.options.OpenOptions.{OpenOptions}
use Rattle.clap.specs.Words.{Text}
use Rattle.kc_io.specs.History.{History, no_history}
use Rattle.kc_select.specs.declared.sides.Sides.{Sides}
use Rattle.kc_tool.specs.FileEvents.{FileEvent, created, followed, made, not_created, not_followed, not_made}
use Rattle.kc_tool.specs.FileEvents.{not_removed, not_renamed, reached, removed, renamed, wrote}
use Rattle.kc_tool.specs.declared.files.NotMade.TheVariants as why
use Rattle.kc_tool.specs.declared.tool_faults.ToolFault.{ToolFault}
use Rattle.kc_tool.specs.declared.tool_faults.ToolFault.TheVariants.{Write}

-- whether this is a name of the system: a device, or what a process has open. The folder /dev/shm has files like any
-- other
abbrev pub begins : Text → Text → Bool
begins name front = starts_with nat_eq name front

abbrev pub is_of_system : Text → Bool
is_of_system name = begins name (codes "/dev/") && not (begins name (codes "/dev/shm/")) || begins name (codes "/proc/")

-- the name of a new file beside a file: the name of the file with this suffix, for this number
abbrev pub suffix : ℕ → Text
suffix number = codes ".kcount-" ++ decimal number

abbrev pub beside : Text → ℕ → Text
beside path number = path ++ suffix number

-- how FILE is opened: its text is kept, bytes are appended, and it is made if there is none
pub record KeepsText (options : OpenOptions) : Type 0 where
  pub appends : asks_append options ≡ true
  pub creates : asks_create options ≡ true
  pub keeps : asks_truncate options ≡ false

-- how a new file is made: never in place of another
pub record MakesAnew (options : OpenOptions) : Type 0 where
  pub writes : asks_write options ≡ true
  pub anew : asks_create_new options ≡ true

-- how many new files are tried at most
abbrev pub most_tries : ℕ
most_tries = 1000

-- the first n names of new files are taken
abbrev pub taken_beside : Text → ℕ → List FileEvent
taken_beside path zero = []
taken_beside path (suc n) = taken_beside path n ++ not_made why.Taken (beside path (suc n)) ∷ []

-- FILE was opened for writing and closed with nothing written, and its links led to the path
abbrev pub looks_at : Text → Text → List FileEvent
looks_at name path = created name ∷ wrote name no_history ∷ followed name path ∷ []

-- a new file was made beside the path, under this name, the first that is not taken
abbrev pub MakesBeside : Text → Text → List FileEvent → Type 0
MakesBeside path name asked = (n : ℕ) × (n < most_tries) × (name ≡ beside path (suc n))
    × (asked ≡ taken_beside path n ++ made name ∷ [])

-- none could be made, or all names are taken
abbrev pub MakesNoneBeside : Text → List FileEvent → Type 0
MakesNoneBeside path asked = ((n : ℕ) × (n < most_tries)
    × (asked ≡ taken_beside path n ++ not_made why.Refused (beside path (suc n)) ∷ []))
    ⊎ (asked ≡ taken_beside path most_tries)

-- memory was refused for the name of one
abbrev pub StopsBeside : Text → List FileEvent → Type 0
StopsBeside path asked = (n : ℕ) × (n < most_tries) × (asked ≡ taken_beside path n)

-- A text for FILE is written to the file with this name, which is then renamed to the path, if there is one. What is no
-- regular file, or has a name of the system, is written directly; otherwise a new file beside it
abbrev pub OpensOutput : Text → Text → Option Text → List FileEvent → Type 0
OpensOutput file name None asked = (name ≡ file)
    × ((asked ≡ reached file ∷ []) ⊎ ((asked ≡ created file ∷ []) × (is_of_system file ≡ true)))
OpensOutput file name (Some path) asked = (is_of_system file ≡ false)
    × ((new : List FileEvent) × MakesBeside path name new × (asked ≡ looks_at file path ++ new))

-- FILE can't be opened for writing; or its links can't be followed; or no new file can be made beside it
abbrev pub OpensNoOutput : Text → List FileEvent → Type 0
OpensNoOutput file asked = (asked ≡ not_created file ∷ [])
    ⊎ (asked ≡ created file ∷ wrote file no_history ∷ not_followed file ∷ [])
    ⊎ ((path : Text) × (none : List FileEvent) × MakesNoneBeside path none × (asked ≡ looks_at file path ++ none))

-- memory was refused before any request to FILE, or for the name of a new file
abbrev pub LacksRoomForOutput : Text → List FileEvent → Type 0
LacksRoomForOutput file asked = (asked ≡ [])
    ⊎ ((path : Text) × (some : List FileEvent) × StopsBeside path some × (asked ≡ looks_at file path ++ some))

-- the new file with this name was removed, or could not be
abbrev pub Removes : Text → FileEvent → Type 0
Removes name asked = (asked ≡ removed name) ⊎ (asked ≡ not_removed name)

-- The requests at the end of the work, with this outcome, for the file with this name, which has taken the bytes of its
-- history. A new file for a path is renamed to it if the work succeeded, which can fail; otherwise it is removed
abbrev pub ClosesOutput : {T : Type 0} → Text → Option Text → History → Result T ToolFault → Result T ToolFault
    → List FileEvent → Type 0
ClosesOutput name None history work outcome asked = (outcome ≡ work) × (asked ≡ wrote name history ∷ [])
ClosesOutput name (Some path) history (Ok done) outcome asked =
    ((outcome ≡ Ok done) × (asked ≡ wrote name history ∷ renamed name path ∷ []))
    ⊎ ((outcome ≡ Err Write) × ((last : FileEvent) × Removes name last
    × (asked ≡ wrote name history ∷ not_renamed name path ∷ last ∷ [])))
ClosesOutput name (Some path) history (Err fault) outcome asked = (outcome ≡ Err fault)
    × ((last : FileEvent) × Removes name last × (asked ≡ wrote name history ∷ last ∷ []))

-- ---- two texts

-- a new file for a path is removed; a file that was named itself stays
abbrev pub Discards : Text → Option Text → List FileEvent → Type 0
Discards name None asked = asked ≡ []
Discards name (Some path) asked = (last : FileEvent) × Removes name last × (asked ≡ last ∷ [])

-- the file of a text is closed, after it has taken this, and a new one is removed
abbrev pub GivesUp : Text → Option Text → History → List FileEvent → Type 0
GivesUp name path history asked =
    (last : List FileEvent) × Discards name path last × (asked ≡ wrote name history ∷ last)

-- a new file is renamed to its path
abbrev pub Places : Text → Option Text → List FileEvent → Type 0
Places name None asked = asked ≡ []
Places name (Some path) asked = asked ≡ renamed name path ∷ []

-- it could not be renamed, and is removed
abbrev pub PlacesNot : Text → Option Text → List FileEvent → Type 0
PlacesNot name None asked = ⊥
PlacesNot name (Some path) asked =
    (last : FileEvent) × Removes name last × (asked ≡ not_renamed name path ∷ last ∷ [])

-- whether it was renamed
abbrev pub IsPlaced : Bool → Text → Option Text → List FileEvent → Type 0
IsPlaced true name path asked = Places name path asked
IsPlaced false name path asked = PlacesNot name path asked

-- a file that a text was written to: its name, the path that it goes to, if there is one, and what it has taken
pub record Target : Type 0 where
  pub name : Text
  pub path : Option Text
  pub history : History

abbrev pub target : Text → Option Text → History → Target
target name path history = record { name = name; path = path; history = history }

-- the requests to two files, one after the other
abbrev pub AreAsked : (List FileEvent → Type 0) → (List FileEvent → Type 0) → List FileEvent → Type 0
AreAsked First Second asked =
    (one : List FileEvent) × (other : List FileEvent) × First one × Second other × (asked ≡ one ++ other)

-- The requests for two texts after both files were closed, by the outcome of the work that wrote them. If the work
-- succeeded, both files are put in place, the first text first. If that fails, what is not in place is removed; after a
-- fault of the work, everything is
abbrev pub PutsBoth : {T : Type 0} → Sides Target → Result T ToolFault → Result T ToolFault → List FileEvent → Type 0
PutsBoth to (Ok done) outcome asked =
    ((outcome ≡ Ok done) × AreAsked (Places to.first.name to.first.path) (Places to.second.name to.second.path) asked)
    ⊎ ((outcome ≡ Err Write)
    × AreAsked (PlacesNot to.first.name to.first.path) (Discards to.second.name to.second.path) asked)
    ⊎ ((outcome ≡ Err Write)
    × AreAsked (Places to.first.name to.first.path) (PlacesNot to.second.name to.second.path) asked)
PutsBoth to (Err fault) outcome asked = (outcome ≡ Err fault)
    × AreAsked (Discards to.first.name to.first.path) (Discards to.second.name to.second.path) asked

-- The requests to both files at the end of the work: both are closed before the first is put in place
abbrev pub ClosesBoth : {T : Type 0} → Sides Target → Result T ToolFault → Result T ToolFault → List FileEvent
    → Type 0
ClosesBoth to work outcome asked = (last : List FileEvent) × PutsBoth to work outcome last
    × (asked ≡ wrote to.first.name to.first.history ∷ wrote to.second.name to.second.history ∷ last)

-- files were opened for two texts that go to these, the first one first
abbrev pub OpensBoth : Text → Text → Text → Option Text → Text → Option Text → List FileEvent → Type 0
OpensBoth first second name path other other_path asked =
    AreAsked (OpensOutput first name path) (OpensOutput second other other_path) asked

-- A file was opened for the text that goes to this one, and none, by `OpensNone`, for a second text. What was opened is
-- given up
abbrev pub OpensNoSecond : Text → (List FileEvent → Type 0) → List FileEvent → Type 0
OpensNoSecond first OpensNone asked = (name : Text) × (path : Option Text)
    × (opening : List FileEvent) × (none : List FileEvent) × (closing : List FileEvent)
    × OpensOutput first name path opening × OpensNone none × GivesUp name path no_history closing
    × (asked ≡ opening ++ none ++ closing)

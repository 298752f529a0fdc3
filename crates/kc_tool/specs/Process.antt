-- How the program ends as a process: source, our formats page ("Refusals").
use Rattle.std.specs.Prelude.{◌≡◌, ◌≢◌, ◌≤◌, ◌⊎◌, ℕ, Bool, List, [], codes, Option}
use Rattle.std.specs.IoError.{error_kind}
use Rattle.std.specs.declared.io.Error.{Error}
use Rattle.std.specs.declared.io.ErrorKind.TheVariants.{InvalidData}
use Rattle.clap.specs.Words.{Text}
use Rattle.kc_io.specs.History.{no_history}
use Rattle.kc_io.specs.Sinks.{Written}
use Rattle.kc_io.specs.Sources.{Seen}
use Rattle.kc_tool.specs.CommandLine.{EndsInFault, EndsRefused, EndsWell, IsTold, MayExplain}
use Rattle.kc_tool.specs.Commands.{Surroundings}
use Rattle.kc_tool.specs.FaultLines.{fault_line}
use Rattle.kc_tool.specs.declared.tool_faults.ToolFault.TheVariants.{Memory}

-- how the program ends, by its status; this text explains a fault, or closes a success
pub record Ends (watched : Bool) (arguments : List Text) (old new : Surroundings) (errors errors_after : Written)
    (explained : Text) (status : ℕ) : Type 0 where
  pub done : status ≡ 0 → EndsWell watched arguments old new errors errors_after explained
  pub fault : status ≡ 1 → EndsInFault arguments old new errors errors_after explained 1
  pub refused : status ≡ 2 → EndsInFault arguments old new errors errors_after explained 2
      ⊎ EndsRefused arguments old new errors errors_after
  pub within : status ≤ 2

-- it ends so, and the text that explains a fault or closes a success is allowed
pub record EndsSaying (watched : Bool) (arguments : List Text) (old new : Surroundings)
    (errors errors_after : Written) (status : ℕ) : Type 0 where
  pub explained : Text
  pub may : MayExplain watched arguments explained
  pub ends : Ends watched arguments old new errors errors_after explained status

-- what is printed if std can't give the arguments, and the status: one of them is no text, or there was no memory
abbrev pub TellsUnread : Error → Written → Written → ℕ → Type 0
TellsUnread error errors errors_after status =
    ((error_kind error ≡ InvalidData) × (status ≡ 2)
    × IsTold errors errors_after (codes "kcount: an argument is not UTF-8\n"))
    ⊎ ((error_kind error ≢ InvalidData) × (status ≡ 1) × IsTold errors errors_after (fault_line Memory))

-- the same, and nothing was read, written or requested of files
pub record EndsUnread (error : Error) (old new : Surroundings) (errors errors_after : Written) (status : ℕ)
    : Type 0 where
  pub kept : new ≡ old
  pub told : TellsUnread error errors errors_after status

-- a stream from which nothing was taken yet, and one to which nothing was written
abbrev pub untouched : Option (List ℕ) → Seen
untouched left = record { left = left; history = no_history }

abbrev pub unwritten : Option (List ℕ) → Written
unwritten bytes = record { bytes = bytes; history = no_history }

-- both, before any request to files
abbrev pub at_first : Option (List ℕ) → Option (List ℕ) → Surroundings
at_first left bytes = record { input = untouched left; output = unwritten bytes; asked = [] }

-- there are later states of the streams, and a log of the requests to files, in which the program ends so
pub record EndsOver (watched : Bool) (arguments : List Text) (old : Surroundings) (errors : Written) (status : ℕ)
    : Type 0 where
  pub new : Surroundings
  pub errors_after : Written
  pub ends : EndsSaying watched arguments old new errors errors_after status

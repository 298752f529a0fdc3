-- How the program ends, for each command line: source, our formats page ("Refusals").
use Rattle.std.specs.Prelude.{◌≡◌, ◌≢◌, ◌⊎◌, ℕ, Bool, true, List, [], ◌++◌, Some, Result, Ok, Err, codes}
use Rattle.std.specs.Prelude.{string_bytes, ⊤}
use Rattle.clap.specs.Faults.{fault_of}
use Rattle.clap.specs.Kinds.{IsAmong}
use Rattle.clap.specs.Words.{Row, Text, kind_of, one_of, subcommand_of, subcommand_rows_of}
use Rattle.clap.specs.declared.parser.matches.ArgMatches.{ArgMatches}
use Rattle.clap.specs.declared.error.Error.{Error}
use Rattle.clap.specs.declared.error.kind.ErrorKind.{ErrorKind}
use Rattle.clap.specs.declared.error.kind.ErrorKind.TheVariants.{DisplayHelp, DisplayVersion, OutOfMemory}
use Rattle.kc_io.specs.Sinks.{Written, HasWritten, HasBegun}
use Rattle.kc_command.specs.Arguments.{IsFlag}
use Rattle.kc_command.specs.Command.{kcount_app}
use Rattle.kc_tool.specs.declared.option_tips.Conflict.{Conflict}
use Rattle.kc_tool.specs.FaultLines.{fault_line}
use Rattle.kc_tool.specs.Commands.{AreNotTogether, EndsSo, GoTogether, Surroundings, name_of}
use Rattle.kc_tool.specs.Told.{IsClosing, asked_line}
use Rattle.kc_tool.specs.declared.told.Told.{Told}
use Rattle.kc_tool.specs.declared.told.Told.TheVariants.{Nothing}
use Rattle.kc_tool.specs.declared.commands.Verb.{Verb}
use Rattle.kc_tool.specs.declared.tool_faults.ToolFault.{ToolFault}
use Rattle.kc_tool.specs.declared.tool_faults.ToolFault.TheVariants.{Memory, BadOption, Write}
use Rattle.kc_tool.specs.declared.command_line.Ending.{Ending}
use Rattle.kc_tool.specs.declared.command_line.Ending.TheVariants.{Fault, Refused}
use Rattle.kc_tool.specs.declared.command_line.Remark.{Remark}
use Rattle.kc_tool.specs.declared.command_line.Remark.TheVariants.{Unsaid, Closing, Explained}

-- the exit status of a fault: 2 for a bad option, otherwise 1
abbrev pub status_of : ToolFault → ℕ
status_of (BadOption name) = 2
status_of _ = 1

-- the arguments ask for the help or the version
abbrev pub AskForHelp : List Text → Type 0
AskForHelp arguments =
    IsAmong DisplayHelp (fault_of kcount_app arguments) ⊎ IsAmong DisplayVersion (fault_of kcount_app arguments)

-- the arguments are no command line of kcount, by `clap`'s rules
pub record AreNoCommandLine (arguments : List Text) : Type 0 where
  pub reason : ErrorKind
  pub among : IsAmong reason (fault_of kcount_app arguments)
  pub no_help : reason ≢ DisplayHelp
  pub no_version : reason ≢ DisplayVersion

-- the arguments ask for a command, with these options
pub record AskFor (arguments : List Text) (command : Verb) (options : List Row) : Type 0 where
  pub accepted : fault_of kcount_app arguments ≡ []
  pub named : subcommand_of kcount_app arguments ≡ Some (name_of command, options)

-- the arguments ask for a command and conflict, for this reason
pub record AreApart (arguments : List Text) : Type 0 where
  pub command : Verb
  pub options : List Row
  pub asked : AskFor arguments command options
  pub reason : Conflict
  pub is : AreNotTogether command options reason

-- the arguments are no command line of kcount
abbrev pub AreRefused : List Text → Type 0
AreRefused arguments = AreNoCommandLine arguments ⊎ AreApart arguments

-- `clap` accepts the arguments, for a command with these options
pub record AreTaken (arguments : List Text) (matches : ArgMatches) : Type 0 where
  pub command : Verb
  pub options : List Row
  pub asked : AskFor arguments command options
  pub entered : subcommand_rows_of matches ≡ Some (name_of command, options)

-- the arguments ask for a command with options that don't conflict, and this is its outcome
abbrev pub DoesCommand : List Text → Surroundings → Surroundings → Result Told ToolFault → Type 0
DoesCommand arguments old new outcome = (command : Verb) × (options : List Row)
    × AskFor arguments command options × GoTogether command options × EndsSo command options old new outcome

-- something happens to the output alone: the input is unchanged, and no file was requested
pub record ToOutputAlone (old new : Surroundings) (Happens : Written → Written → Type 0) : Type 0 where
  pub unread : new.input ≡ old.input
  pub unasked : new.asked ≡ old.asked
  pub happens : Happens old.output new.output

-- the help or the version was written
abbrev pub ShowsHelp : List Text → Surroundings → Surroundings → Type 0
ShowsHelp arguments old new = (text : List ℕ) × AskForHelp arguments
    × ToOutputAlone old new (λ before after. HasWritten before after text)

-- the output failed while the help or the version was written
abbrev pub FailsInHelp : List Text → Surroundings → Surroundings → ToolFault → Type 0
FailsInHelp arguments old new fault = (text : List ℕ) × AskForHelp arguments × (fault ≡ Write)
    × ToOutputAlone old new (λ before after. HasBegun before after text)

-- memory was refused before the arguments were understood; nothing was read, written or requested of files
abbrev pub LacksMemory : Surroundings → Surroundings → ToolFault → Type 0
LacksMemory old new fault = (fault ≡ Memory) × (new ≡ old)

-- a fault of the program: of a command, of the help, or lack of memory
abbrev pub FailsSo : List Text → Surroundings → Surroundings → ToolFault → Type 0
FailsSo arguments old new fault = DoesCommand arguments old new (Err fault)
    ⊎ FailsInHelp arguments old new fault ⊎ LacksMemory old new fault

-- `clap` returns the help or the version
abbrev pub IsHelp : Error → Type 0
IsHelp error = (kind_of error ≡ DisplayHelp) ⊎ (kind_of error ≡ DisplayVersion)

-- the effect of a result of `clap`: help and the version were written, and there is nothing to report, or a beginning
-- of them if writing failed; any other refuses the arguments, and nothing was written
abbrev pub ShowsSo : Error → Written → Written → Result Told Ending → Type 0
ShowsSo error old new (Ok told) = (told ≡ Nothing) × ((text : List ℕ) × IsHelp error × HasWritten old new text)
ShowsSo error old new (Err (Fault Write)) = (text : List ℕ) × IsHelp error × HasBegun old new text
ShowsSo error old new (Err (Fault Memory)) = new ≡ old
ShowsSo error old new (Err (Fault fault)) = ⊥
ShowsSo error old new (Err (Refused text)) = (new ≡ old) × (kind_of error ≢ OutOfMemory)
    × (kind_of error ≢ DisplayHelp) × (kind_of error ≢ DisplayVersion)

-- options that conflict refuse the arguments, unless memory is refused
abbrev pub RefusesSo : Ending → Type 0
RefusesSo (Refused text) = ⊤
RefusesSo (Fault fault) = fault ≡ Memory

-- the effect of the arguments: the command or the help; or there was a fault; or they are refused, and nothing was
-- read, written or requested of files
abbrev pub CarriesOut : List Text → Surroundings → Surroundings → Result Told Ending → Type 0
CarriesOut arguments old new (Ok told) =
    DoesCommand arguments old new (Ok told) ⊎ (ShowsHelp arguments old new × (told ≡ Nothing))
CarriesOut arguments old new (Err (Fault fault)) = FailsSo arguments old new fault
CarriesOut arguments old new (Err (Refused text)) = AreRefused arguments × (new ≡ old)

-- the text that is printed besides the lines for programs
abbrev pub text_of : Remark → Text
text_of Unsaid = []
text_of (Closing text) = text
text_of (Explained text) = string_bytes text

-- the text was written, or a beginning of it before the sink failed
abbrev pub IsTold : Written → Written → List ℕ → Type 0
IsTold old new text = HasWritten old new text ⊎ HasBegun old new text

-- the text went to the errors; if it is empty, they are unchanged
abbrev pub SaysText : Text → Written → Written → Type 0
SaysText [] errors errors_after = errors_after ≡ errors
SaysText text errors errors_after = IsTold errors errors_after text

-- a person reads the errors, or the command line has `--explain`
abbrev pub WantsMore : Bool → List Text → Type 0
WantsMore watched arguments = (watched ≡ true)
    ⊎ ((command : Verb) × (options : List Row) × AskFor arguments command options
    × (one_of (codes "explain") options ≡ Some (codes "true")))

-- status 0: the command or the help was carried out; the errors got the counts that were asked for, followed by this
-- text, which is the closing line if that is wanted
pub record EndsWell (watched : Bool) (arguments : List Text) (old new : Surroundings) (errors errors_after : Written)
    (closing : Text) : Type 0 where
  pub tells : Told
  pub done : DoesCommand arguments old new (Ok tells) ⊎ (ShowsHelp arguments old new × (tells ≡ Nothing))
  pub closes : WantsMore watched arguments → IsClosing tells closing
  pub told : SaysText (asked_line tells ++ closing) errors errors_after

-- a text besides the lines for programs: it is empty, unless a person reads the errors or the command line asks for it
abbrev pub MayExplain : Bool → List Text → Text → Type 0
MayExplain watched arguments text = (text ≡ []) ⊎ (watched ≡ true)
    ⊎ ((command : Verb) × (options : List Row) × AskFor arguments command options
    × IsFlag options (codes "explain") true)

-- a fault with this status: its line went to the errors, followed by the text that explains it
pub record EndsInFault (arguments : List Text) (old new : Surroundings) (errors errors_after : Written)
    (explained : Text) (status : ℕ) : Type 0 where
  pub fault : ToolFault
  pub exit : status ≡ status_of fault
  pub failed : FailsSo arguments old new fault
  pub told : IsTold errors errors_after (fault_line fault ++ explained)

-- arguments that are no command line: nothing was read, written or requested of files, and a text went to the errors
pub record EndsRefused (arguments : List Text) (old new : Surroundings) (errors errors_after : Written) : Type 0 where
  pub refused : AreRefused arguments
  pub kept : new ≡ old
  pub text : List ℕ
  pub told : IsTold errors errors_after text

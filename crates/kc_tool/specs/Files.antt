-- The files that a command line names: source, our manual page.
use Rattle.std.specs.Prelude.{◌≡◌, ◌⊎◌, List, [], ◌∷◌, ◌++◌, map, All, Option, Some, codes, string_bytes}
use Rattle.std.specs.Prelude.{unwrap_or, ⊤}
use Rattle.clap.specs.Words.{Row, Text, all_of, first_of}
use Rattle.kc_io.specs.History.{no_history}
use Rattle.kc_io.specs.Sinks.{Written}
use Rattle.kc_io.specs.Sources.{Seen}
use Rattle.kc_tool.specs.FileEvents.{FileEvent, not_opened, opened, read}
use Rattle.kc_tool.specs.NamedSources.{names_of, seen_of}
use Rattle.kc_tool.specs.Outputs.{LacksRoomForOutput, MakesNoneBeside, OpensNoOutput, OpensNoSecond, StopsBeside}
use Rattle.kc_tool.specs.declared.named_sources.NamedSource.{NamedSource}
use Rattle.kc_tool.specs.declared.tool_faults.ToolFault.{ToolFault}
use Rattle.kc_tool.specs.declared.tool_faults.ToolFault.TheVariants.{Memory, OpenFailed}

-- the files that are named after a command, in order
abbrev pub files_named : List Row → List Text
files_named rows = unwrap_or (all_of (codes "file") rows) []

-- the file that is written, if `--output` names one
abbrev pub output_of : List Row → Option Text
output_of rows = first_of (codes "output") rows

-- the file of the second reads of pairs, if `--output2` names one
abbrev pub output2_of : List Row → Option Text
output2_of rows = first_of (codes "output2") rows

-- the asked words, in order
abbrev pub words_asked : List Row → List Text
words_asked rows = unwrap_or (all_of (codes "word") rows) []

-- a file that a command reads: its view when it is opened, and when it is given back
pub record FileRead : Type 0 where
  pub name : Text
  pub before : Seen
  pub after : Seen

-- a file that a command writes: its view when it is opened, and when it is closed
pub record FileWritten : Type 0 where
  pub name : Text
  pub before : Written
  pub after : Written

-- these files were opened under these names, in order, and not used before
pub record AreOpened (names : List Text) (files : List FileRead) : Type 0 where
  pub named : map (λ file. file.name) files ≡ names
  pub fresh : All (λ seen. seen.history ≡ no_history) (map (λ file. file.before) files)

-- the requests to the files that a command reads: all are opened, in order, and at the end each is closed, with its
-- history
abbrev pub openings : List FileRead → List FileEvent
openings files = map opened (map (λ file. file.name) files)

abbrev pub returned : List FileRead → List FileEvent
returned files = map (λ file. read file.name file.after.history) files

-- these are the files of sources that were opened
pub record AreOf (sources : List (NamedSource Seen)) (files : List FileRead) : Type 0 where
  pub named : map (λ file. file.name) files ≡ names_of sources
  pub before : map (λ file. file.before) files ≡ seen_of (λ source. source) sources

-- sources that were opened are given back
abbrev pub given_back : List (NamedSource Seen) → List FileEvent
given_back sources = map (λ source. read source.name.now source.source.history) sources

-- the files with these names are given back, unused
abbrev pub unread : List Text → List FileEvent
unread names = map (λ name. read name no_history) names

-- the files before this name were opened, in order, the one with this name couldn't be, and those that were opened are
-- given back unread
pub record OpensNotAll (names : List Text) (name : Text) (asked : List FileEvent) : Type 0 where
  pub before : List Text
  pub behind : List Text
  pub split : names ≡ before ++ name ∷ behind
  pub log : asked ≡ map opened before ++ not_opened name ∷ unread before

-- all files were opened, in order, this was tried for the output, and those that were opened are given back unread
abbrev pub tried_alone : List Text → List FileEvent → List FileEvent
tried_alone names tried = map opened names ++ tried ++ unread names

-- a file couldn't be opened for reading, or there is no file for the text that should go to this one
abbrev pub LacksFile : List Text → Option Text → Text → List FileEvent → Type 0
LacksFile names output name asked = OpensNotAll names name asked ⊎ ((output ≡ Some name)
    × ((tried : List FileEvent) × OpensNoOutput name tried × (asked ≡ tried_alone names tried)))

-- memory was refused while the file for a text was looked for
abbrev pub LacksRoom : List Text → Option Text → List FileEvent → Type 0
LacksRoom names output asked = (name : Text) × (output ≡ Some name)
    × ((tried : List FileEvent) × LacksRoomForOutput name tried × (asked ≡ tried_alone names tried))

-- there is a file for the text of the first output, and none, by `OpensNone`, for that of the second
abbrev pub LacksSecond : List Text → Option Text → (List FileEvent → Type 0) → List FileEvent → Type 0
LacksSecond names output OpensNone asked = (first : Text) × (output ≡ Some first)
    × ((tried : List FileEvent) × OpensNoSecond first OpensNone tried × (asked ≡ tried_alone names tried))

-- how the fault names the file that is not opened or created; or memory was refused for the name
abbrev pub TellsName : Text → ToolFault → Type 0
TellsName name (OpenFailed told) = string_bytes told ≡ name
TellsName name Memory = ⊤
TellsName name _ = ⊥

-- why there is no new file beside this path, for a text that should go to the file with this name
abbrev pub FailsBeside : Text → Text → List FileEvent → ToolFault → Type 0
FailsBeside name path asked fault = (TellsName name fault × MakesNoneBeside path asked)
    ⊎ ((fault ≡ Memory) × StopsBeside path asked)

-- why there is no file for a text that should go to this one, and what was tried before
abbrev pub HasNoOutput : Text → List FileEvent → ToolFault → Type 0
HasNoOutput name tried fault = (TellsName name fault × OpensNoOutput name tried)
    ⊎ ((fault ≡ Memory) × LacksRoomForOutput name tried)

-- why there are no files for two texts that should go to these, and what was tried before
abbrev pub HasNotBoth : Text → Text → List FileEvent → ToolFault → Type 0
HasNotBoth first second tried fault =
    HasNoOutput first tried fault ⊎ OpensNoSecond first (λ none. HasNoOutput second none fault) tried

-- all files were opened, in order: these are their sources, which are not used yet
pub record OpensAll (names : List Text) (old new : List FileEvent) (sources : List (NamedSource Seen)) : Type 0 where
  pub named : names_of sources ≡ names
  pub fresh : All (λ seen. seen.history ≡ no_history) (seen_of (λ source. source) sources)
  pub log : new ≡ old ++ map opened names

-- not all were opened: one couldn't be, and is reported; or memory was refused before any request
abbrev pub FailsToOpen : List Text → List FileEvent → List FileEvent → ToolFault → Type 0
FailsToOpen names old new fault =
    ((name : Text) × (asked : List FileEvent)
    × OpensNotAll names name asked × (new ≡ old ++ asked) × TellsName name fault)
    ⊎ ((fault ≡ Memory) × (new ≡ old))

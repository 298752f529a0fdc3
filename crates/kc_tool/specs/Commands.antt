-- The effect of a command: its task, its sources, and what is written.
-- Source: our manual page and our formats page.
use Rattle.std.specs.Prelude.{◌≡◌, ◌⊎◌, ◌+◌, ◌^◌, ◌≤◌, ℕ, Bool, true, false, List, [], ◌∷◌, ◌++◌, Option, Some, None}
use Rattle.std.specs.Prelude.{All, String, Vec, map, length, take, drop}
use Rattle.std.specs.Prelude.{Result, Ok, Err, if◌then◌else◌, codes, string_bytes, unwrap_or, ⊤}
use Rattle.std.specs.Str.{bytes_eq}
use Rattle.std.specs.declared.alloc.Global.{Global}
use Rattle.clap.specs.Words.{Row, Text, first_of}
use Rattle.kc_io.specs.History.{no_history}
use Rattle.kc_io.specs.Sinks.{Written, HasWritten, HasBegun}
use Rattle.kc_io.specs.Sources.{Seen}
use Rattle.kc_report.specs.declared.header.Header.{Header}
use Rattle.kc_report.specs.declared.report_faults.ReportFault.{ReportFault}
use Rattle.kc_report.specs.AskedWords.{GivesCountsOf, HasCountsOf}
use Rattle.kc_report.specs.Numbers.{GivesNumbers, IsCountOf, NumbersSeen}
use Rattle.kc_report.specs.Querying.{IsAskable, IsFirstBadWord, query_text}
use Rattle.kc_report.specs.Table.{MaySay}
use Rattle.kc_report.specs.TableReading.{GivesTable, RefusesTable}
use Rattle.kc_report.specs.WordList.{GivesWords, RefusesWords}
use Rattle.kc_combine.specs.CombinedTexts.{GiveTables}
use Rattle.kc_combine.specs.Derivations.{DerivesNoTables, DerivesNoTexts, DerivesTables, DerivesTexts, HasHigh}
use Rattle.kc_combine.specs.Derivations.{TakesTables, combining_of}
use Rattle.kc_combine.specs.JudgedTexts.{CanCombine, HasFirstFault, JudgesNot}
use Rattle.kc_combine.specs.declared.combining.Combining.TheVariants as combination
use Rattle.kc_combine.specs.declared.derived.Derived.{Derived}
use Rattle.kc_combine.specs.declared.derived.Derived.TheVariants as derive
use Rattle.kc_combine.specs.declared.placed_fault.PlacedFault.{PlacedFault}
use Rattle.kc_combine.specs.declared.written_tables.CombineFault.{CombineFault}
use Rattle.kc_combine.specs.declared.written_tables.Totals.{Totals}
use Rattle.kc_command.specs.Arguments.{AsksFor, AsksForDump, first_bad, first_bad_of_dump, first_bad_of_histo}
use Rattle.kc_command.specs.Arguments.{tables_of, AsksForFilter, AsksForIntersection, AsksForSelection}
use Rattle.kc_command.specs.Arguments.{AsksForSubtraction, IsFlag, first_bad_of_intersect}
use Rattle.kc_command.specs.Arguments.{has_no_words, has_too_many_tables}
use Rattle.kc_command.specs.Arguments.{AsksForPairs, AsksForProfile, first_bad_of_profile, first_bad_of_select}
use Rattle.kc_command.specs.Arguments.{AsksForMatrix, first_bad_of_compare, first_table_of, pairs_refusal}
use Rattle.kc_command.specs.Options.{high_of, only_of, solid_of, word_list_of}
use Rattle.kc_select.specs.Solid.{SelectionRule}
use Rattle.kc_select.specs.SelectingPairs.{SelectsApart, SelectsInterleaved}
use Rattle.kc_select.specs.declared.selection_counts.SelectionCounts.{SelectionCounts}
use Rattle.kc_select.specs.declared.sides.Sides.{Sides}
use Rattle.kc_tool.specs.PairSelections.{Selecting, SelectsPairsFrom, both, pairs_task}
use Rattle.kc_tool.specs.Selections.{SelectsFrom}
use Rattle.kc_tool.specs.Told.{counted_of, told_of_totals}
use Rattle.kc_command.specs.declared.option_name.OptionName.{OptionName}
use Rattle.kc_tool.specs.declared.option_tips.Conflict.{Conflict}
use Rattle.kc_tool.specs.declared.option_tips.Conflict.TheVariants.{NoWords, Pairs, TooManyTables}
use Rattle.kc_tool.specs.Faults.{combine_fault, table_fault}
use Rattle.kc_tool.specs.FileEvents.{FileEvent}
use Rattle.kc_tool.specs.Files.{AreOf, AreOpened, FileRead, FileWritten, LacksFile, LacksRoom, LacksSecond}
use Rattle.kc_tool.specs.Files.{files_named, given_back, openings, output2_of, output_of, returned, words_asked}
use Rattle.kc_tool.specs.Outputs.{ClosesBoth, ClosesOutput, LacksRoomForOutput, OpensBoth, OpensNoOutput}
use Rattle.kc_tool.specs.Outputs.{OpensOutput, target}
use Rattle.kc_tool.specs.declared.named_sources.NamedSource.{NamedSource}
use Rattle.kc_tool.specs.Reports.{HasLines, numbers_text, report_of, report_text}
use Rattle.kc_tool.specs.declared.table_reports.TableReport.TheVariants as lists
use Rattle.kc_tally.specs.Tally.{TallySeen}
use Rattle.kc_tool.specs.Tallies.{Counts, Given, RefusesCount, TableSeen, given}
use Rattle.kc_tool.specs.declared.tool_faults.ToolFault.{ToolFault}
use Rattle.kc_tool.specs.declared.tool_faults.ToolFault.TheVariants.{Memory, BadOption, BadWord, OpenFailed, Write}
use Rattle.kc_tool.specs.declared.told.CountedWords.{CountedWords}
use Rattle.kc_tool.specs.declared.told.Told.{Told}
use Rattle.kc_tool.specs.declared.told.Told.TheVariants as says
use Rattle.kc_tool.specs.declared.commands.Task.{Task}
use Rattle.kc_tool.specs.declared.commands.Task.TheVariants.{Count, CountListed, Report, Query, QueryListed}
use Rattle.kc_tool.specs.declared.commands.Task.TheVariants.{Derive, DeriveFiles, Select, SelectPairs}
use Rattle.kc_tool.specs.declared.paired_sources.Pairing.{Pairing}
use Rattle.kc_tool.specs.declared.commands.Verb.{Verb}
use Rattle.kc_tool.specs.declared.commands.Verb.TheVariants as verb

-- the greatest number of bytes of a table
abbrev pub most_table_bytes : ℕ
most_table_bytes = 2 ^ 42

-- the one source of a task gave the table text of this tally in this call, up to its end. The first list has the views
-- of the sources before the call, the second those after it
abbrev pub TellOneTable : List Seen → List Seen → TableSeen → Type 0
TellOneTable (old ∷ []) (new ∷ []) table = GivesTable old new most_table_bytes table
TellOneTable old new table = ⊥

-- the source gave no table, for this reason; it is the source of table number `place`, from 1
abbrev pub TellsNoTable : ℕ → Seen → Seen → ToolFault → Type 0
TellsNoTable place old new fault =
    (why : ReportFault) × RefusesTable old new most_table_bytes why × (fault ≡ table_fault place why)

abbrev pub TellNoTable : List Seen → List Seen → ToolFault → Type 0
TellNoTable (old ∷ []) (new ∷ []) fault = TellsNoTable 1 old new fault
TellNoTable old new fault = ⊥

-- the source gave a table with these numbers, or none
abbrev pub TellsNumbersOrNot : ℕ → Seen → Seen → Result NumbersSeen ToolFault → Type 0
TellsNumbersOrNot high old new (Ok numbers) = GivesNumbers old new most_table_bytes high numbers
TellsNumbersOrNot high old new (Err fault) = TellsNoTable 1 old new fault

-- the one source of a task gave a table with these numbers
abbrev pub TellOneTableOf : ℕ → List Seen → List Seen → NumbersSeen → Type 0
TellOneTableOf high old new numbers =
    (table : TableSeen) × TellOneTable old new table × IsCountOf high table.0.rows numbers

-- the source gave a table with these counts of the asked words, or none
abbrev pub TellsCountsOrNot : List (List ℕ) → Seen → Seen → Result TallySeen ToolFault → Type 0
TellsCountsOrNot words old new (Ok few) = GivesCountsOf old new most_table_bytes words few
TellsCountsOrNot words old new (Err fault) = TellsNoTable 1 old new fault

-- the one source of a task gave a table with these counts of the asked words
abbrev pub TellCountsOf : List (List ℕ) → List Seen → List Seen → TallySeen → Type 0
TellCountsOf words old new few =
    (table : TableSeen) × TellOneTable old new table × HasCountsOf table.0 words few

-- the source gave this table, with an origin that a header can have, or none
abbrev pub TellsOrNot : ℕ → Seen → Seen → Result TableSeen ToolFault → Type 0
TellsOrNot place old new (Ok table) = GivesTable old new most_table_bytes table × MaySay table.1
TellsOrNot place old new (Err fault) = TellsNoTable place old new fault

-- the source of a table gave this one, or none, for this reason
abbrev pub TellsTableOf : Option Seen → Option Seen → TableSeen → Type 0
TellsTableOf (Some old) (Some new) table = GivesTable old new most_table_bytes table
TellsTableOf old new table = ⊥

abbrev pub TellsNoTableOf : Option Seen → Option Seen → ToolFault → Type 0
TellsNoTableOf (Some old) (Some new) fault = TellsNoTable 1 old new fault
TellsNoTableOf old new fault = ⊥

-- the words of a query
abbrev pub QueryWords : Type 0
QueryWords = Vec (String Global) Global

-- these are the words of the command line, followed by those that the source of a list gave
abbrev pub AreAllWords : QueryWords → Seen → Seen → QueryWords → Type 0
AreAllWords words old new all =
    GivesWords old new most_table_bytes (map string_bytes words.items) (map string_bytes all.items)

abbrev pub AreAllWordsOf : QueryWords → Option Seen → Option Seen → QueryWords → Type 0
AreAllWordsOf words (Some old) (Some new) all = AreAllWords words old new all
AreAllWordsOf words old new all = ⊥

-- the source gave no words, for this reason, or there was no memory for them
abbrev pub TellsNoWords : Seen → Seen → ToolFault → Type 0
TellsNoWords old new fault =
    (why : ReportFault) × RefusesWords old new most_table_bytes why × (fault ≡ table_fault 0 why)

abbrev pub TellsNoWordsOf : Option Seen → Option Seen → ToolFault → Type 0
TellsNoWordsOf (Some old) (Some new) fault = TellsNoWords old new fault
TellsNoWordsOf old new fault = ⊥

-- the first table with a fault, and its place: the tables before it were read, and nothing of those after it; or there
-- was no memory for so many tables, and nothing was read
abbrev pub TellFirstFault : List Seen → List Seen → ToolFault → Type 0
TellFirstFault old new fault = ((placed : PlacedFault) × HasFirstFault (λ seen. seen) most_table_bytes old new placed
    × (fault ≡ table_fault placed.place placed.fault)) ⊎ ((new ≡ old) × (fault ≡ Memory))

-- The effect of a derivation: the sources gave tables, and the text that is derived from these was written; or a table
-- has a fault, and nothing was written; or no text is derived from the tables, or it was not written whole.
abbrev pub Derives : Derived → List Seen → List Seen → Written → Written → Result Told ToolFault → Type 0
Derives derived old new start now (Ok told) = (tables : List TableSeen)
    × GiveTables most_table_bytes old new tables
    × ((totals : Option Totals) × DerivesTables derived tables start now totals × (told ≡ told_of_totals totals))
Derives derived old new start now (Err fault) = ((now ≡ start) × TellFirstFault old new fault)
    ⊎ ((tables : List TableSeen) × GiveTables most_table_bytes old new tables × ((why : CombineFault PlacedFault)
    × DerivesNoTables derived tables start now why × (fault ≡ combine_fault why)))

-- The effect of a derivation in two passes, over these sources of the first pass, before and after it, and these of
-- the second one. The first sources gave tables that match; then the second ones gave tables, and the text that is
-- derived from these was written, or why it was not. Or the first ones did not, and nothing else was read or written.
abbrev pub DerivesInPasses : Derived → List Seen → List Seen → List Seen → List Seen → Written → Written
    → Result Told ToolFault → Type 0
DerivesInPasses derived first first_after second second_after start now (Ok told) =
    ((header : Header) × CanCombine (λ seen. seen) (combining_of derived) most_table_bytes first first_after header)
    × ((totals : Option Totals) × DerivesTexts derived most_table_bytes second second_after start now totals
    × (told ≡ told_of_totals totals))
DerivesInPasses derived first first_after second second_after start now (Err fault) =
    ((why : CombineFault PlacedFault)
    × JudgesNot (λ seen. seen) (combining_of derived) most_table_bytes first first_after why
    × (second_after ≡ second) × (now ≡ start) × (fault ≡ combine_fault why))
    ⊎ ((header : Header) × CanCombine (λ seen. seen) (combining_of derived) most_table_bytes first first_after header
    × ((why : CombineFault PlacedFault)
    × DerivesNoTexts derived most_table_bytes second second_after start now why
    × (fault ≡ combine_fault why)))

-- The effect of a derivation from files that are opened twice: those of the first half are the sources of the first
-- pass, and the others those of the second one.
pub record DerivesFiles (derived : Derived) (old new : List Seen) (start now : Written)
    (outcome : Result Told ToolFault) : Type 0 where
  pub first : List Seen
  pub second : List Seen
  pub are : old ≡ first ++ second
  pub first_after : List Seen
  pub second_after : List Seen
  pub are_after : new ≡ first_after ++ second_after
  pub halves : length first ≡ length second
  pub halves_after : length first_after ≡ length second_after
  pub done : DerivesInPasses derived first first_after second second_after start now outcome

-- the sources of a command: the files that were opened, or the given input if there are none
abbrev pub sources_from : Seen → List Seen → List Seen
sources_from input [] = input ∷ []
sources_from input (file ∷ files) = file ∷ files

-- how many of a task's files come before its sources: its list, or the table of a selection
abbrev pub own_of : Task → ℕ
own_of (CountListed settings) = 1
own_of (QueryListed words) = 1
own_of (Select rule tells) = 1
own_of (SelectPairs pairing) = 1
own_of task = 0

-- the sources among a task's files: all but the first if that is its list or its table
abbrev pub sources_in : Task → List Seen → List Seen
sources_in (CountListed settings) files = drop 1 files
sources_in (QueryListed words) files = drop 1 files
sources_in (Select rule tells) files = drop 1 files
sources_in (SelectPairs pairing) files = drop 1 files
sources_in task files = files

-- what a task with a list, or a selection, is given: the first file is the list, or the table
abbrev pub given_listed : Seen → List Seen → Given
given_listed input [] = given None (input ∷ [])
given_listed input (list ∷ files) = given (Some list) (sources_from input files)

-- what a task is given
abbrev pub given_of : Task → Seen → List Seen → Given
given_of (CountListed settings) input files = given_listed input files
given_of (QueryListed words) input files = given_listed input files
given_of (Select rule tells) input files = given_listed input files
given_of (SelectPairs pairing) input files = given_listed input files
given_of task input files = given None (sources_from input files)

-- if there are files, the given input is unchanged
abbrev pub KeepsInput : List Seen → Seen → Seen → Type 0
KeepsInput [] old new = ⊤
KeepsInput (file ∷ files) old new = new ≡ old

-- a histogram or a spectrum, if that is written, has lines up to a count of 1 to 10,000,000
abbrev pub HasWritableReport : Task → Type 0
HasWritableReport (Report report) = HasLines report
HasWritableReport (Derive derived) = HasHigh derived
HasWritableReport (DeriveFiles derived) = HasHigh derived
HasWritableReport task = ⊤

-- a text is derived from so many files, or from the given input if there are none: two are compared, and at most one is
-- dumped
abbrev pub HasTablesFor : Derived → ℕ → Type 0
HasTablesFor (derive.Table combining) count = ⊤
HasTablesFor (derive.Comparison solid) count = count ≡ 2
HasTablesFor (derive.Spectrum high) count = count ≡ 2
HasTablesFor (derive.Dump dump) count = count ≤ 1

-- the task has its files: a count with a list has the list, a selection has its table, a report on a table has at most
-- one source, a query with a list has that and one source, a derivation has the tables that it takes, or each of their
-- files twice, and a selection of pairs has a table and two sources
abbrev pub HasFilesFor : {X : Type 0} → Task → List X → Type 0
HasFilesFor (Count settings) files = ⊤
HasFilesFor (CountListed settings) files = 1 ≤ length files
HasFilesFor (Report report) files = length files ≤ 1
HasFilesFor (Query words) files = length files ≤ 1
HasFilesFor (QueryListed words) files = length files ≡ 2
HasFilesFor (Derive derived) files = HasTablesFor derived (length files)
HasFilesFor (DeriveFiles derived) files = (half : ℕ) × TakesTables derived half × (length files ≡ half + half)
HasFilesFor (Select rule tells) files = 1 ≤ length files
HasFilesFor (SelectPairs pairing) files = length files ≡ 3

-- the tally of a task, and its origin if that is known: of the reads that were given, or of the table that its source
-- gave
abbrev pub IsTallyFor : Given → Given → Task → TableSeen → Type 0
IsTallyFor old new (Count settings) table = Counts old new settings table
IsTallyFor old new (CountListed settings) table = Counts old new settings table
IsTallyFor old new (Report report) table = TellOneTable old.sources new.sources table
IsTallyFor old new (Query words) table = TellOneTable old.sources new.sources table
IsTallyFor old new (QueryListed words) table = ⊥
IsTallyFor old new (Derive derived) table = ⊥
IsTallyFor old new (DeriveFiles derived) table = ⊥
IsTallyFor old new (Select rule tells) table = ⊥
IsTallyFor old new (SelectPairs pairing) table = ⊥

-- why there is no tally for a task
abbrev pub HasNoTallyFor : Given → Given → Task → ToolFault → Type 0
HasNoTallyFor old new (Count settings) fault = RefusesCount old new settings fault
HasNoTallyFor old new (CountListed settings) fault = RefusesCount old new settings fault
HasNoTallyFor old new (Report report) fault = TellNoTable old.sources new.sources fault
HasNoTallyFor old new (Query words) fault = TellNoTable old.sources new.sources fault
HasNoTallyFor old new (QueryListed words) fault = ⊥
HasNoTallyFor old new (Derive derived) fault = ⊥
HasNoTallyFor old new (DeriveFiles derived) fault = ⊥
HasNoTallyFor old new (Select rule tells) fault = ⊥
HasNoTallyFor old new (SelectPairs pairing) fault = ⊥

-- the text that a task writes for a tally
abbrev pub IsAnswer : Task → TableSeen → List ℕ → Type 0
IsAnswer (Count settings) table text = text ≡ report_text (report_of settings) table
IsAnswer (CountListed settings) table text = text ≡ report_text (report_of settings) table
IsAnswer (Report report) table text = text ≡ numbers_text report table
IsAnswer (Query words) table text = All (IsAskable table.0.k) (map string_bytes words.items)
    × (text ≡ query_text table.0 (map string_bytes words.items))
IsAnswer (QueryListed words) table text = ⊥
IsAnswer (Derive derived) table text = ⊥
IsAnswer (DeriveFiles derived) table text = ⊥
IsAnswer (Select rule tells) table text = ⊥
IsAnswer (SelectPairs pairing) table text = ⊥

-- why a task writes nothing for a tally: a query has a bad word; any other task lacked memory, under no further
-- condition
abbrev pub HasNoAnswer : Task → TableSeen → ToolFault → Type 0
HasNoAnswer (Query words) table (BadWord number) = IsFirstBadWord table.0.k (map string_bytes words.items) number
HasNoAnswer (Query words) table fault = ⊥
HasNoAnswer task table Memory = ⊤
HasNoAnswer task table fault = ⊥

-- what there is to report of a task that was done with a tally: how much was counted
abbrev pub told_about : Task → TableSeen → Told
told_about (Count settings) table = says.Counted (counted_of table)
told_about (CountListed settings) table = says.Counted (counted_of table)
told_about task table = says.Nothing

-- what a task does with a tally: its text was written; or a beginning of it, if writing failed; or nothing
abbrev pub Answers : Task → TableSeen → Written → Written → Result Told ToolFault → Type 0
Answers task table old new (Ok told) =
    (text : List ℕ) × IsAnswer task table text × HasWritten old new text × (told ≡ told_about task table)
Answers task table old new (Err Write) = (text : List ℕ) × IsAnswer task table text × HasBegun old new text
Answers task table old new (Err fault) = (new ≡ old) × HasNoAnswer task table fault

-- what a task is given, and where it writes
pub record Stage : Type 0 where
  pub given : Given
  pub output : Written

-- with these files, and with the given input if no source is a file
abbrev pub stage_before : Task → Seen → List FileRead → Written → Stage
stage_before task input files output =
    record { given = given_of task input (map (λ file. file.before) files); output = output }

abbrev pub stage_after : Task → Seen → List FileRead → Written → Stage
stage_after task input files output =
    record { given = given_of task input (map (λ file. file.after) files); output = output }

-- the text that the task writes from what it was given, and what there is to report of it
abbrev pub IsTextFor : Given → Given → Task → List ℕ → Told → Type 0
IsTextFor old new task text told = (table : TableSeen) × IsTallyFor old new task table × IsAnswer task table text
    × (told ≡ told_about task table)

-- why the task writes nothing: what it was given has no tally, or the task has no text for its tally
abbrev pub HasFaultFor : Given → Given → Task → ToolFault → Type 0
HasFaultFor old new task fault = HasNoTallyFor old new task fault
    ⊎ ((table : TableSeen) × IsTallyFor old new task table × HasNoAnswer task table fault)

-- what there is to report of a count
abbrev pub told_of_count : Result CountedWords ToolFault → Result Told ToolFault
told_of_count (Ok words) = Ok (says.Counted words)
told_of_count (Err fault) = Err fault

-- what there is to report of a selection: the numbers of its reads, and whether they are asked for
abbrev pub told_of : SelectionRule → Bool → Result SelectionCounts ToolFault → Result Told ToolFault
told_of rule tells (Ok counts) = Ok (if rule.profiled then says.Profiled counts else says.Selected counts tells)
told_of rule tells (Err fault) = Err fault

-- the effect of a selection: the source of its table gave one, and by it the reads of the sources were selected; or it
-- gave none, and nothing was read or written
abbrev pub SelectsBy : SelectionRule → Bool → Stage → Stage → Result Told ToolFault → Type 0
SelectsBy rule tells old new outcome =
    ((table : TableSeen) × TellsTableOf old.given.list new.given.list table
    × ((selected : Result SelectionCounts ToolFault) × (outcome ≡ told_of rule tells selected)
    × SelectsFrom rule table.0 old.given.sources new.given.sources old.output new.output selected))
    ⊎ ((fault : ToolFault) × (outcome ≡ Err fault) × TellsNoTableOf old.given.list new.given.list fault
    × (new.given.sources ≡ old.given.sources) × (new.output ≡ old.output))

-- the effect of a selection of pairs: the source of its table gave one, and by it the pairs of two sources were
-- selected as `Selects`; or it gave none, nothing else was read, and `Kept` holds for the output
abbrev pub SelectsPairsBy : Selecting → Type 0 → Pairing → Given → Given → Result SelectionCounts ToolFault → Type 0
SelectsPairsBy Selects Kept pairing old new outcome =
    ((table : TableSeen) × TellsTableOf old.list new.list table
    × SelectsPairsFrom Selects Kept (pairs_task table.0 pairing.selection pairing.asked) old.sources new.sources
    outcome)
    ⊎ ((fault : ToolFault) × (outcome ≡ Err fault) × TellsNoTableOf old.list new.list fault
    × (new.sources ≡ old.sources) × Kept)

-- the same, with what there is to report of it
abbrev pub TellsOfPairs : Pairing → (Result SelectionCounts ToolFault → Type 0) → Result Told ToolFault → Type 0
TellsOfPairs pairing Selects outcome = (selected : Result SelectionCounts ToolFault) × Selects selected
    × (outcome ≡ told_of pairing.selection pairing.tells selected)

-- both reads of each pair were written to one output, one after the other
abbrev pub SelectsPairsInto : Pairing → Stage → Stage → Result Told ToolFault → Type 0
SelectsPairsInto pairing old new outcome = TellsOfPairs pairing (λ selected. SelectsPairsBy
    (λ task before after answer. SelectsInterleaved task before after old.output new.output answer)
    (new.output ≡ old.output) pairing old.given new.given selected) outcome

-- the first reads of pairs were written to one output, and the second ones to another; no other task writes to two
abbrev pub DoesApart : Task → Given → Given → Sides Written → Sides Written → Result Told ToolFault → Type 0
DoesApart (SelectPairs pairing) old new from to outcome = TellsOfPairs pairing (λ selected. SelectsPairsBy
    (λ task before after answer. SelectsApart task before after from to answer) (to ≡ from) pairing old new selected)
    outcome
DoesApart task old new from to outcome = ⊥

-- a task that writes to two outputs if two are named
abbrev pub WritesTwo : Task → Type 0
WritesTwo (SelectPairs pairing) = ⊤
WritesTwo task = ⊥

-- the effect of a task with a tally: its text was written; or a beginning of it, if writing failed; or nothing
abbrev pub DoesByTally : Task → Stage → Stage → Result Told ToolFault → Type 0
DoesByTally task old new (Ok told) =
    (text : List ℕ) × IsTextFor old.given new.given task text told × HasWritten old.output new.output text
DoesByTally task old new (Err Write) = (text : List ℕ) × (told : Told)
    × IsTextFor old.given new.given task text told × HasBegun old.output new.output text
DoesByTally task old new (Err fault) = (new.output ≡ old.output) × HasFaultFor old.given new.given task fault

-- the same without a list
abbrev pub without_list : Stage → Stage
without_list stage = record { given = given None stage.given.sources; output = stage.output }

-- the source of the list gave words, and all words, those of the command line and then these, were queried
abbrev pub QueriesAll : QueryWords → Stage → Stage → Result Told ToolFault → Type 0
QueriesAll words old new outcome = (all : QueryWords) × AreAllWordsOf words old.given.list new.given.list all
    × DoesByTally (Query all) (without_list old) (without_list new) outcome

-- it gave none, for this reason; nothing else was read, and nothing written
abbrev pub LacksWords : Stage → Stage → ToolFault → Type 0
LacksWords old new fault = TellsNoWordsOf old.given.list new.given.list fault
    × (new.given.sources ≡ old.given.sources) × (new.output ≡ old.output)

-- the effect of a query with a list: all words were queried; or there were no words of the list
abbrev pub QueriesBy : QueryWords → Stage → Stage → Result Told ToolFault → Type 0
QueriesBy words old new (Ok told) = QueriesAll words old new (Ok told)
QueriesBy words old new (Err fault) = QueriesAll words old new (Err fault) ⊎ LacksWords old new fault

-- a task that takes its sources one after another
abbrev pub TakesSources : Task → Type 0
TakesSources (DeriveFiles derived) = ⊥
TakesSources (SelectPairs pairing) = ⊥
TakesSources task = ⊤

-- the effect of a task, and what there is to report of it
abbrev pub Does : Task → Stage → Stage → Result Told ToolFault → Type 0
Does (QueryListed words) old new outcome = QueriesBy words old new outcome
Does (Select rule tells) old new outcome = SelectsBy rule tells old new outcome
Does (SelectPairs pairing) old new outcome = SelectsPairsInto pairing old new outcome
Does (Derive derived) old new outcome =
    Derives derived old.given.sources new.given.sources old.output new.output outcome
Does (DeriveFiles derived) old new outcome =
    DerivesFiles derived old.given.sources new.given.sources old.output new.output outcome
Does task old new outcome = DoesByTally task old new outcome

-- the name of a command
abbrev pub name_of : Verb → Text
name_of verb.Count = codes "count"
name_of verb.Dump = codes "dump"
name_of verb.Histo = codes "histo"
name_of verb.Stats = codes "stats"
name_of verb.Query = codes "query"
name_of verb.Merge = codes "merge"
name_of verb.Intersect = codes "intersect"
name_of verb.Subtract = codes "subtract"
name_of verb.Filter = codes "filter"
name_of verb.Compare = codes "compare"
name_of verb.Select = codes "select"
name_of verb.Profile = codes "profile"

-- the command with this name
abbrev pub verb_named : Text → Option Verb
verb_named name = if bytes_eq name (name_of verb.Count) then Some verb.Count
    else if bytes_eq name (name_of verb.Dump) then Some verb.Dump
    else if bytes_eq name (name_of verb.Histo) then Some verb.Histo
    else if bytes_eq name (name_of verb.Stats) then Some verb.Stats
    else if bytes_eq name (name_of verb.Query) then Some verb.Query
    else if bytes_eq name (name_of verb.Merge) then Some verb.Merge
    else if bytes_eq name (name_of verb.Intersect) then Some verb.Intersect
    else if bytes_eq name (name_of verb.Subtract) then Some verb.Subtract
    else if bytes_eq name (name_of verb.Filter) then Some verb.Filter
    else if bytes_eq name (name_of verb.Compare) then Some verb.Compare
    else if bytes_eq name (name_of verb.Select) then Some verb.Select
    else if bytes_eq name (name_of verb.Profile) then Some verb.Profile
    else None

-- a command with these options asks for what is derived from its tables
abbrev pub AsksForText : Verb → List Row → Derived → Type 0
AsksForText verb.Dump rows (derive.Dump dump) = AsksForDump rows dump
AsksForText verb.Merge rows (derive.Table asked) = asked ≡ combination.Merge
AsksForText verb.Intersect rows (derive.Table asked) = AsksForIntersection rows asked
AsksForText verb.Subtract rows (derive.Table asked) = AsksForSubtraction rows asked
AsksForText verb.Filter rows (derive.Table asked) = AsksForFilter rows asked
AsksForText verb.Compare rows (derive.Comparison solid) = AsksForMatrix rows None × (solid_of rows ≡ Some solid)
AsksForText verb.Compare rows (derive.Spectrum high) = AsksForMatrix rows (Some high)
AsksForText command rows derived = ⊥

-- a command with these options asks for this task
abbrev pub AsksForTask : Verb → List Row → Task → Type 0
AsksForTask verb.Count rows (Count settings) = AsksFor rows settings × (only_of rows ≡ None)
AsksForTask verb.Count rows (CountListed settings) =
    AsksFor rows settings × ((name : Text) × (only_of rows ≡ Some name))
AsksForTask verb.Dump rows (Derive derived) = AsksForText verb.Dump rows derived
AsksForTask verb.Dump rows (DeriveFiles derived) = AsksForText verb.Dump rows derived
AsksForTask verb.Histo rows (Report (lists.Histogram high)) = high_of rows ≡ Some high
AsksForTask verb.Stats rows (Report lists.Statistics) = ⊤
AsksForTask verb.Query rows (Query words) = (map string_bytes words.items ≡ words_asked rows)
    × (word_list_of rows ≡ None)
AsksForTask verb.Query rows (QueryListed words) = (map string_bytes words.items ≡ words_asked rows)
    × ((name : Text) × (word_list_of rows ≡ Some name))
AsksForTask verb.Merge rows (Derive derived) = AsksForText verb.Merge rows derived
AsksForTask verb.Merge rows (DeriveFiles derived) = AsksForText verb.Merge rows derived
AsksForTask verb.Intersect rows (Derive derived) = AsksForText verb.Intersect rows derived
AsksForTask verb.Intersect rows (DeriveFiles derived) = AsksForText verb.Intersect rows derived
AsksForTask verb.Subtract rows (Derive derived) = AsksForText verb.Subtract rows derived
AsksForTask verb.Subtract rows (DeriveFiles derived) = AsksForText verb.Subtract rows derived
AsksForTask verb.Filter rows (Derive derived) = AsksForText verb.Filter rows derived
AsksForTask verb.Filter rows (DeriveFiles derived) = AsksForText verb.Filter rows derived
AsksForTask verb.Compare rows (Derive derived) = AsksForText verb.Compare rows derived
AsksForTask verb.Compare rows (DeriveFiles derived) = AsksForText verb.Compare rows derived
AsksForTask verb.Select rows (Select rule tells) =
    AsksForSelection rows rule × IsFlag rows (codes "stats") tells × AsksForPairs rows None
AsksForTask verb.Select rows (SelectPairs pairing) = AsksForSelection rows pairing.selection
    × IsFlag rows (codes "stats") pairing.tells × AsksForPairs rows (Some pairing.asked)
AsksForTask verb.Profile rows (Select rule tells) = AsksForProfile rows rule × (tells ≡ false)
AsksForTask verb rows task = ⊥

-- the first option of a command with a value outside its limits
abbrev pub first_refused : Verb → List Row → Option OptionName
first_refused verb.Count rows = first_bad rows
first_refused verb.Dump rows = first_bad_of_dump rows
first_refused verb.Histo rows = first_bad_of_histo rows
first_refused verb.Intersect rows = first_bad_of_intersect rows
first_refused verb.Filter rows = first_bad_of_dump rows
first_refused verb.Compare rows = first_bad_of_compare rows
first_refused verb.Select rows = first_bad_of_select rows
first_refused verb.Profile rows = first_bad_of_profile rows
first_refused verb rows = None

-- the arguments of a command don't conflict: the options of a selection fit together, there are at most 64 tables, and
-- a query has words
abbrev pub GoTogether : Verb → List Row → Type 0
GoTogether verb.Query rows = has_no_words rows ≡ false
GoTogether verb.Select rows = pairs_refusal rows ≡ None
GoTogether verb.Merge rows = has_too_many_tables rows ≡ false
GoTogether verb.Intersect rows = has_too_many_tables rows ≡ false
GoTogether verb.Subtract rows = has_too_many_tables rows ≡ false
GoTogether command rows = ⊤

-- they conflict, for this reason
abbrev pub AreNotTogether : Verb → List Row → Conflict → Type 0
AreNotTogether verb.Query rows NoWords = has_no_words rows ≡ true
AreNotTogether verb.Select rows (Pairs why) = pairs_refusal rows ≡ Some why
AreNotTogether verb.Merge rows TooManyTables = has_too_many_tables rows ≡ true
AreNotTogether verb.Intersect rows TooManyTables = has_too_many_tables rows ≡ true
AreNotTogether verb.Subtract rows TooManyTables = has_too_many_tables rows ≡ true
AreNotTogether command rows why = ⊥

-- the list of a count or a query before its files, if one is named
abbrev pub behind_list : Option Text → List Text → List Text
behind_list None names = names
behind_list (Some list) names = list ∷ names

-- the table of a query or a selection; `clap` allows no missing table, which would have an empty name
abbrev pub named_table : List Row → Text
named_table rows = unwrap_or (first_of (codes "table") rows) []

-- the table of a selection before its files
abbrev pub behind_table : List Row → List Text
behind_table rows = named_table rows ∷ files_named rows

-- the two tables of a comparison; `clap` allows no missing table, which would have an empty name
abbrev pub compared_tables : List Row → List Text
compared_tables rows = unwrap_or (first_table_of rows) [] ∷ unwrap_or (first_of (codes "second") rows) [] ∷ []

-- the files that a command reads, in order: for a count, its list and all files; for a query, its list and its table;
-- for a selection and a profile, their table and all files; for a sum, an intersection, a difference and a comparison,
-- all tables; for any other, the first file
abbrev pub files_of : Verb → List Row → List Text
files_of verb.Count rows = behind_list (only_of rows) (files_named rows)
files_of verb.Query rows = behind_list (word_list_of rows) (named_table rows ∷ [])
files_of verb.Select rows = behind_table rows
files_of verb.Profile rows = behind_table rows
files_of verb.Merge rows = tables_of rows
files_of verb.Intersect rows = tables_of rows
files_of verb.Subtract rows = tables_of rows
files_of verb.Compare rows = compared_tables rows
files_of verb rows = take 1 (files_named rows)

-- the files that a task opens, of those of its command: a derivation from files opens all of them, and then all again
abbrev pub opened_by : Task → List Text → List Text
opened_by (DeriveFiles derived) names = names ++ names
opened_by task names = names

-- a task that opens each of its files once
abbrev pub OpensOnce : Task → Type 0
OpensOnce (DeriveFiles derived) = ⊥
OpensOnce task = ⊤

-- a command that writes what is derived from tables
abbrev pub IsDerivation : Verb → Type 0
IsDerivation verb.Dump = ⊤
IsDerivation verb.Merge = ⊤
IsDerivation verb.Intersect = ⊤
IsDerivation verb.Subtract = ⊤
IsDerivation verb.Filter = ⊤
IsDerivation verb.Compare = ⊤
IsDerivation command = ⊥

-- these are the files that a command opens
abbrev pub AreFilesOf : Verb → List Row → List Text → Type 0
AreFilesOf command rows names = (names ≡ files_of command rows)
    ⊎ (IsDerivation command × (names ≡ files_of command rows ++ files_of command rows))

-- the second output of a command; only a selection can have one
abbrev pub second_of : Verb → List Row → Option Text
second_of verb.Select rows = output2_of rows
second_of command rows = None

-- the surroundings of a command: the given input, the given output, and what was requested of files so far
pub record Surroundings : Type 0 where
  pub input : Seen
  pub output : Written
  pub asked : List FileEvent

-- a task is done with these files, and its text goes to the file with this name. The file that takes it is opened
-- before anything is read, and closed after the sources
pub record WritesTo (name : Text) (task : Task) (input input_after : Seen) (files : List FileRead)
    (asked : List FileEvent) (outcome : Result Told ToolFault) : Type 0 where
  pub file : FileWritten
  pub fresh : file.before.history ≡ no_history
  pub path : Option Text
  pub opening : List FileEvent
  pub opened : OpensOutput name file.name path opening
  pub work : Result Told ToolFault
  pub done : Does task (stage_before task input files file.before) (stage_after task input_after files file.after) work
  pub closing : List FileEvent
  pub closed : ClosesOutput file.name path file.after.history work outcome closing
  pub log : asked ≡ opening ++ returned files ++ closing

-- a task is done with sources that were opened, and its text goes to the file with this name
pub record DoesTaskInto (name : Text) (sources : List (NamedSource Seen)) (task : Task) (input input_after : Seen)
    (asked asked_after : List FileEvent) (outcome : Result Told ToolFault) : Type 0 where
  pub files : List FileRead
  pub are : AreOf sources files
  pub input_kept : KeepsInput (sources_in task (map (λ file. file.before) files)) input input_after
  pub there : List FileEvent
  pub writes : WritesTo name task input input_after files there outcome
  pub log : asked_after ≡ asked ++ there

-- a task that writes to two outputs is done with these files, and its texts go to the files with these names. Both
-- files that take them are opened before anything is read, and both are closed after the sources
pub record WritesApart (name other : Text) (task : Task) (input input_after : Seen) (files : List FileRead)
    (asked : List FileEvent) (outcome : Result Told ToolFault) : Type 0 where
  pub first : FileWritten
  pub second : FileWritten
  pub first_fresh : first.before.history ≡ no_history
  pub second_fresh : second.before.history ≡ no_history
  pub path : Option Text
  pub second_path : Option Text
  pub opening : List FileEvent
  pub opened : OpensBoth name other first.name path second.name second_path opening
  pub work : Result Told ToolFault
  pub done : DoesApart task (given_of task input (map (λ file. file.before) files))
      (given_of task input_after (map (λ file. file.after) files)) (both first.before second.before)
      (both first.after second.after) work
  pub closing : List FileEvent
  pub closed : ClosesBoth (both (target first.name path first.after.history)
      (target second.name second_path second.after.history)) work outcome closing
  pub log : asked ≡ opening ++ returned files ++ closing

-- the same with sources that were opened
pub record DoesTaskApart (name other : Text) (sources : List (NamedSource Seen)) (task : Task)
    (input input_after : Seen) (asked asked_after : List FileEvent) (outcome : Result Told ToolFault) : Type 0 where
  pub files : List FileRead
  pub are : AreOf sources files
  pub input_kept : KeepsInput (sources_in task (map (λ file. file.before) files)) input input_after
  pub there : List FileEvent
  pub writes : WritesApart name other task input input_after files there outcome
  pub log : asked_after ≡ asked ++ there

-- there is no file for a text, or no two for two texts, and the reason is returned; the sources are given back
-- unchanged
pub record LacksOutput (Lacks : List FileEvent → ToolFault → Type 0) (sources : List (NamedSource Seen))
    (input input_after : Seen) (asked asked_after : List FileEvent) (outcome : Result Told ToolFault) : Type 0 where
  pub fault : ToolFault
  pub is : outcome ≡ Err fault
  pub unread : input_after ≡ input
  pub tried : List FileEvent
  pub why : Lacks tried fault
  pub log : asked_after ≡ asked ++ tried ++ given_back sources

-- the texts go to files, as `Writes`, and the given output is unchanged
abbrev pub IntoFiles : Surroundings → Surroundings → List FileRead → (List FileEvent → Type 0) → Type 0
IntoFiles old new files Writes = (new.output ≡ old.output)
    × ((there : List FileEvent) × (new.asked ≡ old.asked ++ openings files ++ there) × Writes there)

-- a task is done with these files, which were opened for it, or with the given input if there are none. It writes to
-- the given output; or to a file, if one is named for the output; or its two texts to two files, if two are named.
-- Nothing else is requested of files
abbrev pub DoesWith : Option Text → Option Text → Task → Surroundings → Surroundings → List FileRead
    → Result Told ToolFault → Type 0
DoesWith None second task old new files outcome = (new.asked ≡ old.asked ++ openings files ++ returned files)
    × Does task (stage_before task old.input files old.output) (stage_after task new.input files new.output) outcome
DoesWith (Some name) None task old new files outcome = IntoFiles old new files
    (λ there. WritesTo name task old.input new.input files there outcome)
DoesWith (Some name) (Some other) task old new files outcome = IntoFiles old new files
    (λ there. WritesApart name other task old.input new.input files there outcome)

-- a command reaches its task, with its files, and this is the outcome
pub record ComesToTask (command : Verb) (rows : List Row) (old new : Surroundings)
    (outcome : Result Told ToolFault) : Type 0 where
  pub task : Task
  pub asks : AsksForTask command rows task
  pub files : List FileRead
  pub opened : AreOpened (opened_by task (files_of command rows)) files
  pub input : KeepsInput (sources_in task (map (λ file. file.before) files)) old.input new.input
  pub done : DoesWith (output_of rows) (second_of command rows) task old new files outcome

-- there is no file for the text of the second output, which has this name
abbrev pub LacksSecondFile : Verb → List Row → Text → List FileEvent → Type 0
LacksSecondFile command rows name asked = (second_of command rows ≡ Some name)
    × LacksSecond (files_of command rows) (output_of rows) (λ none. OpensNoOutput name none) asked

-- memory was refused while a file for it was looked for
abbrev pub LacksSecondRoom : Verb → List Row → List FileEvent → Type 0
LacksSecondRoom command rows asked = (name : Text) × (second_of command rows ≡ Some name)
    × LacksSecond (files_of command rows) (output_of rows) (λ none. LacksRoomForOutput name none) asked

-- an option is refused, or there was no memory for the values of the options
abbrev pub IsRefusedOption : Verb → List Row → ToolFault → Type 0
IsRefusedOption command rows (BadOption name) = first_refused command rows ≡ Some name
IsRefusedOption command rows Memory = ⊤
IsRefusedOption command rows fault = ⊥

-- why a command does not reach its task, and what it requested of files: an option is refused, before everything else;
-- or a file can't be opened or created; or there was no memory, which may happen in any of these places
abbrev pub IsRefused : Verb → List Row → List FileEvent → ToolFault → Type 0
IsRefused command rows asked (BadOption name) = (first_refused command rows ≡ Some name) × (asked ≡ [])
IsRefused command rows asked (OpenFailed name) = (first_refused command rows ≡ None)
    × (((names : List Text) × AreFilesOf command rows names
    × LacksFile names (output_of rows) (string_bytes name) asked)
    ⊎ LacksSecondFile command rows (string_bytes name) asked)
IsRefused command rows asked Memory = (asked ≡ [])
    ⊎ ((names : List Text) × AreFilesOf command rows names
    × (((name : Text) × LacksFile names (output_of rows) name asked) ⊎ LacksRoom names (output_of rows) asked))
    ⊎ ((name : Text) × LacksSecondFile command rows name asked)
    ⊎ LacksSecondRoom command rows asked
IsRefused command rows asked fault = ⊥

-- a command does not reach its task: nothing was read, and nothing written
pub record IsLeft (command : Verb) (rows : List Row) (old new : Surroundings)
    (outcome : Result Told ToolFault) : Type 0 where
  pub fault : ToolFault
  pub is : outcome ≡ Err fault
  pub unread : new.input ≡ old.input
  pub unwritten : new.output ≡ old.output
  pub asked : List FileEvent
  pub log : new.asked ≡ old.asked ++ asked
  pub refused : IsRefused command rows asked fault

-- the effect of a command
abbrev pub EndsSo : Verb → List Row → Surroundings → Surroundings → Result Told ToolFault → Type 0
EndsSo command rows old new outcome =
    ComesToTask command rows old new outcome ⊎ IsLeft command rows old new outcome

-- The commands and their tasks.
use Rattle.std.proofs.Common.{◌≡◌, ◌≤◌, ◌∙◌, ◌++◌, Bor, List, [], ◌∷◌, Option, Some, None, length, map, take, refl, sym, ap, ap₂, subst, inl, inr, Result, Ok, Err, ℕ, true, false, arith, ⊎_elim}
use Rattle.std.proofs.Common.{append_assoc, append-nil}
use Rattle.std.specs.Prelude.{◌==◌, ◌⊎◌, unwrap_or, All, Bool, codes, if◌then◌else◌, is_some}
use Rattle.std.proofs.lemmas.List.{length-append, length-map, nil_from_length}
use Rattle.std.proofs.lemmas.Bool.Decides.{nat_tests}
use Rattle.clap.specs.Words.{Row, Text, first_of}
use Rattle.kc_io.specs.History.{no_history}
use Rattle.kc_io.specs.Sinks.{Written}
use Rattle.kc_io.specs.Sources.{Seen}
use Rattle.kc_tool.specs.Tallies.{TableSeen}
use Rattle.kc_tool.specs.FileEvents.{FileEvent, opened}
use Rattle.kc_tool.specs.NamedSources.{names_of, seen_of}
use Rattle.kc_combine.specs.CombinedTexts.{GiveTables}
use Rattle.kc_combine.specs.Derivations.{TakesTables}
use Rattle.kc_combine.specs.declared.derived.Derived.{Derived}
use Rattle.kc_combine.specs.declared.derived.Derived.TheVariants as derive
use Rattle.kc_command.specs.Arguments.{has_pairs, has_two_files, is_given, pairs_refusal, refusal_of_outputs, refusal_of_pairs, refusal_of_reads}
use Rattle.kc_command.specs.declared.pair_options.PairsRefusal.TheVariants as refusal
use Rattle.kc_select.specs.declared.sides.Sides.{Sides}
use Rattle.kc_tool.specs.Files.{AreOf, AreOpened, FailsToOpen, FileRead, HasNoOutput, HasNotBoth, LacksFile, OpensAll, TellsName}
use Rattle.kc_tool.specs.Files.{files_named, given_back, openings, output2_of, output_of, returned, tried_alone, unread}
use Rattle.kc_tool.specs.Outputs.{ClosesBoth, ClosesOutput, OpensBoth, OpensOutput, target}
use Rattle.kc_tool.specs.PairSelections.{both}
use Rattle.kc_tool.specs.Commands.{DoesByTally, HasFaultFor, HasNoAnswer, HasNoTallyFor, IsAnswer, Stage, told_about, told_of_count}
use Rattle.kc_tool.specs.Told.{counted_of}
use Rattle.kc_tool.specs.declared.told.CountedWords.{CountedWords}
use Rattle.kc_tool.specs.declared.told.Told.{Told}
use Rattle.kc_tool.specs.declared.told.Told.TheVariants as says
use Rattle.kc_tool.specs.Commands.{Answers, Does, HasFilesFor, IsTallyFor, behind_list, given_of, sources_in}
use Rattle.kc_tool.specs.Commands.{AreFilesOf, AsksForTask, DoesApart, DoesTaskApart, DoesTaskInto, EndsSo, GoTogether, IsRefused, IsRefusedOption, KeepsInput, LacksOutput, LacksSecondFile, WritesTwo, behind_table, second_of}
use Rattle.kc_tool.specs.Commands.{QueriesAll, QueriesBy, QueryWords, named_table, AsksForText, DerivesFiles, HasTablesFor, OpensOnce, Surroundings, files_of, sources_from, first_refused, opened_by, stage_after, stage_before}
use Rattle.kc_tool.specs.declared.named_sources.NamedSource.{NamedSource}
use Rattle.kc_tool.specs.declared.tool_faults.ToolFault.{ToolFault}
use Rattle.kc_tool.specs.declared.tool_faults.ToolFault.TheVariants.{Fastx, BadHeader, BadRow, BadEnd, TableTooLong, TableRead, Memory, BadOption, BadWord, Write, Run, OpenFailed, Unlike, TooLarge, BrokenTable, ShortTable, Unpaired}
use Rattle.kc_tool.specs.declared.commands.Task.{Task}
use Rattle.kc_tool.specs.declared.commands.Task.TheVariants.{Count, CountListed, Report, Query, QueryListed, Derive, DeriveFiles, Select, SelectPairs}
use Rattle.kc_tool.specs.declared.commands.Verb.{Verb}
use Rattle.kc_tool.specs.declared.commands.Verb.TheVariants as verb
use Rattle.kc_tool.specs.Reports.{ReportsOn, report_of, report_text}
use Rattle.kc_command.specs.Settings.{Settings}
use Rattle.kc_tool.proofs.FilesLemmas.{PairedTo, unread_back}
use Rattle.kc_tool.proofs.GivenLemmas.{same_input, some_from}
use Rattle.kc_tool.proofs.ReportsLemmas.{text_fault}
use Rattle.kc_tool.proofs.TwoPassesLemmas.{takes_some}

-- a task is done with sources that were opened, and they are given back
pub record DoesTask (sources : List (NamedSource Seen)) (task : Task) (old new : Surroundings)
    (outcome : Result Told ToolFault) : Type 0 where
  pub files : List FileRead
  pub are : AreOf sources files
  pub input : KeepsInput (sources_in task (map (λ file. file.before) files)) old.input new.input
  pub log : new.asked ≡ old.asked ++ returned files
  pub done : Does task (stage_before task old.input files old.output) (stage_after task new.input files new.output) outcome

-- a task is done with sources that were opened, and writes to the given output; or, if a file is named for the output,
-- or two are, to these, if they can be created, and the given output is unchanged
abbrev pub DoesTaskTo : Option Text → Option Text → List (NamedSource Seen) → Task → Surroundings → Surroundings
    → Result Told ToolFault → Type 0
DoesTaskTo None second sources task old new outcome = DoesTask sources task old new outcome
DoesTaskTo (Some name) None sources task old new outcome = (new.output ≡ old.output)
    × (DoesTaskInto name sources task old.input new.input old.asked new.asked outcome
    ⊎ LacksOutput (λ tried fault. HasNoOutput name tried fault) sources old.input new.input old.asked new.asked outcome)
DoesTaskTo (Some name) (Some other) sources task old new outcome = (new.output ≡ old.output)
    × (DoesTaskApart name other sources task old.input new.input old.asked new.asked outcome
    ⊎ LacksOutput (λ tried fault. HasNotBoth name other tried fault) sources old.input new.input old.asked new.asked outcome)

-- files of these names are opened, and a task is done with them and the outputs of these names, if they are given; or
-- not all could be opened, and nothing was read or written
abbrev pub OpensAndDoes : List Text → Option Text → Option Text → Task → Surroundings → Surroundings
    → Result Told ToolFault → Type 0
OpensAndDoes names output second task old new outcome =
    ((opened : List FileEvent) × (sources : List (NamedSource Seen)) × OpensAll names old.asked opened sources
    × DoesTaskTo output second sources task (record { input = old.input; output = old.output; asked = opened }) new outcome)
    ⊎ ((fault : ToolFault) × (outcome ≡ Err fault) × FailsToOpen names old.asked new.asked fault
    × (new.input ≡ old.input) × (new.output ≡ old.output))

-- The texts that were found.
pub texts_found : {found : Option (List Text)} {texts : List Text} → Some texts ≡ found → texts ≡ unwrap_or found []
texts_found e = ap (λ found. unwrap_or found []) e

-- None were found.
pub none_found : {found : Option (List Text)} → None ≡ found → [] ≡ unwrap_or found []
none_found e = ap (λ found. unwrap_or found []) e

module _ (rows : List Row) where
  -- Not more than one file is read.
  one_of : (names all : List Text) → names ≡ take 1 all → length names ≤ 1
  one_of names [] are = omega (arith, ap length are)
  one_of names (name ∷ all) are = omega (arith, ap length are)

  -- A list is read if one is named.
  has_list : (name : Text) (files names : List Text) → names ≡ name ∷ files → 1 ≤ length names
  has_list name files names are = omega (arith, ap length are)

  -- A table and two files are read if pairs are asked for.
  two_files : (names : List Text) → has_pairs rows ≡ true → pairs_refusal rows ≡ None → names ≡ behind_table rows → length names ≡ 3
  two_files names paired together are = pick (has_two_files rows) refl (ap (λ b. if b then refusal_of_pairs rows else refusal_of_reads rows) (sym paired) ∙ together) where
    pick : (two : Bool) → has_two_files rows ≡ two
        → (if two then refusal_of_outputs (first_of (codes "output") rows) (first_of (codes "output2") rows) else Some refusal.NotTwoFiles) ≡ None
        → length names ≡ 3
    pick true two e =
        let counted : length (files_named rows) ≡ 2 = grind (arith, nat_tests) in
        omega (arith, ap length are, counted)
    pick false two e = cc

  -- A command has the tables from which its text is derived.
  text_files : (command : Verb) (derived : Derived) (names : List Text) → AsksForText command rows derived
      → names ≡ files_of command rows → HasTablesFor derived (length names)
  text_files command (derive.Table combining) names asks are = tt
  text_files verb.Dump (derive.Dump dump) names asks are = one_of names (files_named rows) are
  text_files verb.Count (derive.Dump dump) names asks are = absurd asks
  text_files verb.Histo (derive.Dump dump) names asks are = absurd asks
  text_files verb.Stats (derive.Dump dump) names asks are = absurd asks
  text_files verb.Query (derive.Dump dump) names asks are = absurd asks
  text_files verb.Merge (derive.Dump dump) names asks are = absurd asks
  text_files verb.Intersect (derive.Dump dump) names asks are = absurd asks
  text_files verb.Subtract (derive.Dump dump) names asks are = absurd asks
  text_files verb.Filter (derive.Dump dump) names asks are = absurd asks
  text_files verb.Compare (derive.Dump dump) names asks are = absurd asks
  text_files verb.Select (derive.Dump dump) names asks are = absurd asks
  text_files verb.Profile (derive.Dump dump) names asks are = absurd asks
  text_files verb.Count (derive.Comparison solid) names asks are = absurd asks
  text_files verb.Dump (derive.Comparison solid) names asks are = absurd asks
  text_files verb.Histo (derive.Comparison solid) names asks are = absurd asks
  text_files verb.Stats (derive.Comparison solid) names asks are = absurd asks
  text_files verb.Query (derive.Comparison solid) names asks are = absurd asks
  text_files verb.Merge (derive.Comparison solid) names asks are = absurd asks
  text_files verb.Intersect (derive.Comparison solid) names asks are = absurd asks
  text_files verb.Subtract (derive.Comparison solid) names asks are = absurd asks
  text_files verb.Filter (derive.Comparison solid) names asks are = absurd asks
  text_files verb.Compare (derive.Comparison solid) names asks are = ap length are
  text_files verb.Select (derive.Comparison solid) names asks are = absurd asks
  text_files verb.Profile (derive.Comparison solid) names asks are = absurd asks
  text_files verb.Count (derive.Spectrum high) names asks are = absurd asks
  text_files verb.Dump (derive.Spectrum high) names asks are = absurd asks
  text_files verb.Histo (derive.Spectrum high) names asks are = absurd asks
  text_files verb.Stats (derive.Spectrum high) names asks are = absurd asks
  text_files verb.Query (derive.Spectrum high) names asks are = absurd asks
  text_files verb.Merge (derive.Spectrum high) names asks are = absurd asks
  text_files verb.Intersect (derive.Spectrum high) names asks are = absurd asks
  text_files verb.Subtract (derive.Spectrum high) names asks are = absurd asks
  text_files verb.Filter (derive.Spectrum high) names asks are = absurd asks
  text_files verb.Compare (derive.Spectrum high) names asks are = ap length are
  text_files verb.Select (derive.Spectrum high) names asks are = absurd asks
  text_files verb.Profile (derive.Spectrum high) names asks are = absurd asks

  -- A command has the files that its task wants, if it does not open them twice.
  pub has_files : (command : Verb) (task : Task) (names : List Text) → GoTogether command rows → AsksForTask command rows task
      → names ≡ files_of command rows → OpensOnce task → HasFilesFor task names
  has_files verb.Count (Count settings) names together asks are once = tt
  has_files verb.Count (CountListed settings) names together asks are once =
      has_list asks.1.0 (files_named rows) names (are ∙ ap (λ only. behind_list only (files_named rows)) asks.1.1)
  has_files verb.Count (Report report) names together asks are once = absurd asks
  has_files verb.Count (Query words) names together asks are once = absurd asks
  has_files verb.Count (QueryListed words) names together asks are once = absurd asks
  has_files verb.Count (Derive derived) names together asks are once = absurd asks
  has_files verb.Count (DeriveFiles derived) names together asks are once = absurd asks
  has_files verb.Count (Select rule tells) names together asks are once = absurd asks
  has_files verb.Count (SelectPairs pairing) names together asks are once = absurd asks
  has_files verb.Dump (Count settings) names together asks are once = absurd asks
  has_files verb.Dump (CountListed settings) names together asks are once = absurd asks
  has_files verb.Dump (Report report) names together asks are once = absurd asks
  has_files verb.Dump (Query words) names together asks are once = absurd asks
  has_files verb.Dump (QueryListed words) names together asks are once = absurd asks
  has_files verb.Dump (Derive derived) names together asks are once = text_files verb.Dump derived names asks are
  has_files verb.Dump (DeriveFiles derived) names together asks are once = absurd once
  has_files verb.Dump (Select rule tells) names together asks are once = absurd asks
  has_files verb.Dump (SelectPairs pairing) names together asks are once = absurd asks
  has_files verb.Histo (Count settings) names together asks are once = absurd asks
  has_files verb.Histo (CountListed settings) names together asks are once = absurd asks
  has_files verb.Histo (Report report) names together asks are once = one_of names (files_named rows) are
  has_files verb.Histo (Query words) names together asks are once = absurd asks
  has_files verb.Histo (QueryListed words) names together asks are once = absurd asks
  has_files verb.Histo (Derive derived) names together asks are once = absurd asks
  has_files verb.Histo (DeriveFiles derived) names together asks are once = absurd asks
  has_files verb.Histo (Select rule tells) names together asks are once = absurd asks
  has_files verb.Histo (SelectPairs pairing) names together asks are once = absurd asks
  has_files verb.Stats (Count settings) names together asks are once = absurd asks
  has_files verb.Stats (CountListed settings) names together asks are once = absurd asks
  has_files verb.Stats (Report report) names together asks are once = one_of names (files_named rows) are
  has_files verb.Stats (Query words) names together asks are once = absurd asks
  has_files verb.Stats (QueryListed words) names together asks are once = absurd asks
  has_files verb.Stats (Derive derived) names together asks are once = absurd asks
  has_files verb.Stats (DeriveFiles derived) names together asks are once = absurd asks
  has_files verb.Stats (Select rule tells) names together asks are once = absurd asks
  has_files verb.Stats (SelectPairs pairing) names together asks are once = absurd asks
  has_files verb.Query (Count settings) names together asks are once = absurd asks
  has_files verb.Query (CountListed settings) names together asks are once = absurd asks
  has_files verb.Query (Report report) names together asks are once = absurd asks
  has_files verb.Query (Query words) names together asks are once =
      let one = ap length are ∙ ap (λ list. length (behind_list list (named_table rows ∷ []))) asks.1 in omega (arith, one)
  has_files verb.Query (QueryListed words) names together asks are once =
      ap length are ∙ ap (λ list. length (behind_list list (named_table rows ∷ []))) asks.1.1
  has_files verb.Query (Derive derived) names together asks are once = absurd asks
  has_files verb.Query (DeriveFiles derived) names together asks are once = absurd asks
  has_files verb.Query (Select rule tells) names together asks are once = absurd asks
  has_files verb.Query (SelectPairs pairing) names together asks are once = absurd asks
  has_files verb.Merge (Count settings) names together asks are once = absurd asks
  has_files verb.Merge (CountListed settings) names together asks are once = absurd asks
  has_files verb.Merge (Report report) names together asks are once = absurd asks
  has_files verb.Merge (Query words) names together asks are once = absurd asks
  has_files verb.Merge (QueryListed words) names together asks are once = absurd asks
  has_files verb.Merge (Derive derived) names together asks are once = text_files verb.Merge derived names asks are
  has_files verb.Merge (DeriveFiles derived) names together asks are once = absurd once
  has_files verb.Merge (Select rule tells) names together asks are once = absurd asks
  has_files verb.Merge (SelectPairs pairing) names together asks are once = absurd asks
  has_files verb.Intersect (Count settings) names together asks are once = absurd asks
  has_files verb.Intersect (CountListed settings) names together asks are once = absurd asks
  has_files verb.Intersect (Report report) names together asks are once = absurd asks
  has_files verb.Intersect (Query words) names together asks are once = absurd asks
  has_files verb.Intersect (QueryListed words) names together asks are once = absurd asks
  has_files verb.Intersect (Derive derived) names together asks are once = text_files verb.Intersect derived names asks are
  has_files verb.Intersect (DeriveFiles derived) names together asks are once = absurd once
  has_files verb.Intersect (Select rule tells) names together asks are once = absurd asks
  has_files verb.Intersect (SelectPairs pairing) names together asks are once = absurd asks
  has_files verb.Subtract (Count settings) names together asks are once = absurd asks
  has_files verb.Subtract (CountListed settings) names together asks are once = absurd asks
  has_files verb.Subtract (Report report) names together asks are once = absurd asks
  has_files verb.Subtract (Query words) names together asks are once = absurd asks
  has_files verb.Subtract (QueryListed words) names together asks are once = absurd asks
  has_files verb.Subtract (Derive derived) names together asks are once = text_files verb.Subtract derived names asks are
  has_files verb.Subtract (DeriveFiles derived) names together asks are once = absurd once
  has_files verb.Subtract (Select rule tells) names together asks are once = absurd asks
  has_files verb.Subtract (SelectPairs pairing) names together asks are once = absurd asks
  has_files verb.Filter (Count settings) names together asks are once = absurd asks
  has_files verb.Filter (CountListed settings) names together asks are once = absurd asks
  has_files verb.Filter (Report report) names together asks are once = absurd asks
  has_files verb.Filter (Query words) names together asks are once = absurd asks
  has_files verb.Filter (QueryListed words) names together asks are once = absurd asks
  has_files verb.Filter (Derive derived) names together asks are once = text_files verb.Filter derived names asks are
  has_files verb.Filter (DeriveFiles derived) names together asks are once = absurd once
  has_files verb.Filter (Select rule tells) names together asks are once = absurd asks
  has_files verb.Filter (SelectPairs pairing) names together asks are once = absurd asks
  has_files verb.Compare (Count settings) names together asks are once = absurd asks
  has_files verb.Compare (CountListed settings) names together asks are once = absurd asks
  has_files verb.Compare (Report report) names together asks are once = absurd asks
  has_files verb.Compare (Query words) names together asks are once = absurd asks
  has_files verb.Compare (QueryListed words) names together asks are once = absurd asks
  has_files verb.Compare (Derive derived) names together asks are once = text_files verb.Compare derived names asks are
  has_files verb.Compare (DeriveFiles derived) names together asks are once = absurd once
  has_files verb.Compare (Select rule tells) names together asks are once = absurd asks
  has_files verb.Compare (SelectPairs pairing) names together asks are once = absurd asks
  has_files verb.Select (Count settings) names together asks are once = absurd asks
  has_files verb.Select (CountListed settings) names together asks are once = absurd asks
  has_files verb.Select (Report report) names together asks are once = absurd asks
  has_files verb.Select (Query words) names together asks are once = absurd asks
  has_files verb.Select (QueryListed words) names together asks are once = absurd asks
  has_files verb.Select (Derive derived) names together asks are once = absurd asks
  has_files verb.Select (DeriveFiles derived) names together asks are once = absurd asks
  has_files verb.Select (Select rule tells) names together asks are once = has_list _ (files_named rows) names are
  has_files verb.Select (SelectPairs pairing) names together asks are once = two_files names asks.2.0 together are
  has_files verb.Profile (Count settings) names together asks are once = absurd asks
  has_files verb.Profile (CountListed settings) names together asks are once = absurd asks
  has_files verb.Profile (Report report) names together asks are once = absurd asks
  has_files verb.Profile (Query words) names together asks are once = absurd asks
  has_files verb.Profile (QueryListed words) names together asks are once = absurd asks
  has_files verb.Profile (Derive derived) names together asks are once = absurd asks
  has_files verb.Profile (DeriveFiles derived) names together asks are once = absurd asks
  has_files verb.Profile (Select rule tells) names together asks are once = has_list _ (files_named rows) names are
  has_files verb.Profile (SelectPairs pairing) names together asks are once = absurd asks

-- If a second output is named, pairs are asked for.
no_reads : (rows : List Row) (other : Text) → has_pairs rows ≡ false → output2_of rows ≡ Some other → pairs_refusal rows ≡ None → ⊥
no_reads rows other unpaired named together = pick (is_given (codes "keep") rows) (sym (ap (λ b. if b then refusal_of_pairs rows else refusal_of_reads rows) unpaired) ∙ together) where
  second : is_given (codes "output2") rows ≡ true
  second = ap is_some named

  pick : (keep : Bool)
      → (if keep then Some refusal.KeepAlone else if is_given (codes "output2") rows then Some refusal.Output2Alone else None) ≡ None → ⊥
  pick true e = cc
  pick false e =
      let given : Some refusal.Output2Alone ≡ None = sym (ap (λ b. if b then Some refusal.Output2Alone else None) second) ∙ e in
      cc

pub writes_two : (rows : List Row) (command : Verb) (task : Task) (other : Text) → GoTogether command rows → AsksForTask command rows task
    → second_of command rows ≡ Some other → WritesTwo task
writes_two rows verb.Count task other together asks named = let none : ⊥ = cc in absurd none
writes_two rows verb.Dump task other together asks named = let none : ⊥ = cc in absurd none
writes_two rows verb.Histo task other together asks named = let none : ⊥ = cc in absurd none
writes_two rows verb.Stats task other together asks named = let none : ⊥ = cc in absurd none
writes_two rows verb.Query task other together asks named = let none : ⊥ = cc in absurd none
writes_two rows verb.Merge task other together asks named = let none : ⊥ = cc in absurd none
writes_two rows verb.Intersect task other together asks named = let none : ⊥ = cc in absurd none
writes_two rows verb.Subtract task other together asks named = let none : ⊥ = cc in absurd none
writes_two rows verb.Filter task other together asks named = let none : ⊥ = cc in absurd none
writes_two rows verb.Compare task other together asks named = let none : ⊥ = cc in absurd none
writes_two rows verb.Profile task other together asks named = let none : ⊥ = cc in absurd none
writes_two rows verb.Select (Count settings) other together asks named = absurd asks
writes_two rows verb.Select (CountListed settings) other together asks named = absurd asks
writes_two rows verb.Select (Report report) other together asks named = absurd asks
writes_two rows verb.Select (Query words) other together asks named = absurd asks
writes_two rows verb.Select (QueryListed words) other together asks named = absurd asks
writes_two rows verb.Select (Derive derived) other together asks named = absurd asks
writes_two rows verb.Select (DeriveFiles derived) other together asks named = absurd asks
writes_two rows verb.Select (Select rule tells) other together asks named = absurd (no_reads rows other asks.2 named together)
writes_two rows verb.Select (SelectPairs pairing) other together asks named = tt

-- As many others are such files too.
as_many : {X Y : Type 0} (task : Task) (files : List X) (others : List Y) → length files ≡ length others
    → HasFilesFor task files → HasFilesFor task others
as_many (Count settings) files others same h = tt
as_many (CountListed settings) files others same h = rw same at h
as_many (Report report) files others same h = rw same at h
as_many (Query words) files others same h = rw same at h
as_many (QueryListed words) files others same h = rw same at h
as_many (Derive derived) files others same h = rw same at h
as_many (DeriveFiles derived) files others same h = rw same at h
as_many (Select rule tells) files others same h = rw same at h
as_many (SelectPairs pairing) files others same h = rw same at h

-- So are the files of these names.
as_named : (task : Task) (names : List (Bor Text)) (sources : List (NamedSource Seen))
    → names_of sources ≡ map (λ name. name.now) names → HasFilesFor task names → HasFilesFor task (seen_of (λ seen. seen) sources)
as_named task names sources are h =
    let asked = length-map names (λ (name : Bor Text). name.now) in
    let named = length-map sources (λ (source : NamedSource Seen). source.name.now) in
    let seen = length-map sources (λ (source : NamedSource Seen). source.source) in
    as_many task names (seen_of (λ seen. seen) sources) (omega (arith, ap length are, asked, named, seen)) h

-- A task that opens each file once opens those of its command.
pub opens_them : (task : Task) (names : List Text) → OpensOnce task → names ≡ opened_by task names
opens_them (Count settings) names once = refl
opens_them (CountListed settings) names once = refl
opens_them (Report report) names once = refl
opens_them (Query words) names once = refl
opens_them (QueryListed words) names once = refl
opens_them (Derive derived) names once = refl
opens_them (DeriveFiles derived) names once = absurd once
opens_them (Select rule tells) names once = refl
opens_them (SelectPairs pairing) names once = refl

-- The files that were opened are such as the task wants.
pub has_opened : (task : Task) (names : List (Bor Text)) {asked mid : List FileEvent} {sources : List (NamedSource Seen)}
    → HasFilesFor task names → OpensAll (map (λ name. name.now) names) asked mid sources
    → HasFilesFor task (seen_of (λ seen. seen) sources)
has_opened task names {sources = sources} wanted opens =
    let many = length-map names (λ (name : Bor Text). name.now) in
    as_named task names sources opens.named wanted

-- So are those of these names.
pub wants_names : (task : Task) (names : List (Bor Text)) → HasFilesFor task (map (λ name. name.now) names) → HasFilesFor task names
wants_names task names wanted = as_many task (map (λ (name : Bor Text). name.now) names) names (length-map names (λ (name : Bor Text). name.now)) wanted

-- So many files, of which there is at least one, have the tables that are taken.
pub takes_files : (derived : Derived) (n : ℕ) → HasTablesFor derived n → 1 ≤ n → TakesTables derived n
takes_files (derive.Table combining) n h some = some
takes_files (derive.Comparison solid) n h some = h
takes_files (derive.Spectrum high) n h some = h
takes_files (derive.Dump dump) n h some = omega (arith, h, some)

-- So do the sources: these files, or the given input if there are none.
pub takes_sources : (derived : Derived) (input : Seen) (files : List Seen) → HasTablesFor derived (length files)
    → TakesTables derived (length (sources_from input files))
takes_sources (derive.Table combining) input [] h = omega arith
takes_sources (derive.Comparison solid) input [] h = let none : ⊥ = omega (arith, h) in absurd none
takes_sources (derive.Spectrum high) input [] h = let none : ⊥ = omega (arith, h) in absurd none
takes_sources (derive.Dump dump) input [] h = refl
takes_sources (derive.Table combining) input (file ∷ files) h = omega arith
takes_sources (derive.Comparison solid) input (file ∷ files) h = h
takes_sources (derive.Spectrum high) input (file ∷ files) h = h
takes_sources (derive.Dump dump) input (file ∷ files) h = omega (arith, h)

-- As many tables were given as there are sources.
pub given_long : (limit : ℕ) (olds news : List Seen) (tables : List TableSeen) → GiveTables limit olds news tables → length olds ≡ length tables
given_long limit [] [] [] given = refl
given_long limit [] [] (table ∷ tables) given = absurd given
given_long limit [] (new ∷ news) tables given = absurd given
given_long limit (old ∷ olds) [] tables given = absurd given
given_long limit (old ∷ olds) (new ∷ news) [] given = absurd given
given_long limit (old ∷ olds) (new ∷ news) (table ∷ tables) given = let rest = given_long limit olds news tables given.1 in omega (arith, rest)

-- Files that are opened twice are such as a derivation from files wants.
pub wants_twice : (derived : Derived) (names : List (Bor Text)) (both : List (Bor Text)) → TakesTables derived (length names)
    → map (λ name. name.now) both ≡ map (λ name. name.now) names ++ map (λ name. name.now) names → HasFilesFor (DeriveFiles derived) both
wants_twice derived names both takes are =
    let all = length-map both (λ (name : Bor Text). name.now) in
    let once = length-map names (λ (name : Bor Text). name.now) in
    let twice = length-append (map (λ (name : Bor Text). name.now) names) (map (λ (name : Bor Text). name.now) names) in
    (length names, takes, omega (arith, ap length are, all, once, twice))

module _ (task : Task) (old new : Stage) where
  -- Nothing was written.
  undone : (fault : ToolFault) → (fault ≡ Write → ⊥) → new.output ≡ old.output → HasFaultFor old.given new.given task fault
      → DoesByTally task old new (Err fault)
  undone Write other same why = absurd (other refl)
  undone (Fastx number fault) other same why = (same, why)
  undone BadHeader other same why = (same, why)
  undone (BadRow line) other same why = (same, why)
  undone BadEnd other same why = (same, why)
  undone TableTooLong other same why = (same, why)
  undone TableRead other same why = (same, why)
  undone Memory other same why = (same, why)
  undone (BadOption name) other same why = (same, why)
  undone (BadWord number) other same why = (same, why)
  undone (Run fault) other same why = (same, why)
  undone (OpenFailed name) other same why = (same, why)
  undone Unlike other same why = (same, why)
  undone TooLarge other same why = (same, why)
  undone (BrokenTable place) other same why = (same, why)
  undone (ShortTable place) other same why = (same, why)
  undone (Unpaired number) other same why = (same, why)

  -- The text for the tally was written, or a beginning of it, or nothing.
  pub answered : (table : TableSeen) (outcome : Result Told ToolFault) → IsTallyFor old.given new.given task table
      → Answers task table old.output new.output outcome → DoesByTally task old new outcome
  answered table (Ok told) is h = (h.0, (table, is, h.1, h.3), h.2)
  answered table (Err Write) is h = (h.0, told_about task table, (table, is, h.1, refl), h.2)
  answered table (Err (Fastx number fault)) is h = (h.0, inr (table, is, h.1))
  answered table (Err BadHeader) is h = (h.0, inr (table, is, h.1))
  answered table (Err (BadRow line)) is h = (h.0, inr (table, is, h.1))
  answered table (Err BadEnd) is h = (h.0, inr (table, is, h.1))
  answered table (Err TableTooLong) is h = (h.0, inr (table, is, h.1))
  answered table (Err TableRead) is h = (h.0, inr (table, is, h.1))
  answered table (Err Memory) is h = (h.0, inr (table, is, h.1))
  answered table (Err (BadOption name)) is h = (h.0, inr (table, is, h.1))
  answered table (Err (BadWord number)) is h = (h.0, inr (table, is, h.1))
  answered table (Err (Run fault)) is h = (h.0, inr (table, is, h.1))
  answered table (Err (OpenFailed name)) is h = (h.0, inr (table, is, h.1))
  answered table (Err Unlike) is h = (h.0, inr (table, is, h.1))
  answered table (Err TooLarge) is h = (h.0, inr (table, is, h.1))
  answered table (Err (BrokenTable place)) is h = (h.0, inr (table, is, h.1))
  answered table (Err (ShortTable place)) is h = (h.0, inr (table, is, h.1))
  answered table (Err (Unpaired number)) is h = (h.0, inr (table, is, h.1))

  -- So it is of the report on what was counted.
  pub reported : (settings : Settings) → ((table : TableSeen) → IsAnswer task table (report_text (report_of settings) table))
      → ((table : TableSeen) → says.Counted (counted_of table) ≡ told_about task table)
      → ((table : TableSeen) → HasNoAnswer task table Memory) → (HasNoTallyFor old.given new.given task Write → ⊥)
      → (outcome : Result CountedWords ToolFault)
      → ReportsOn (λ table. IsTallyFor old.given new.given task table) (λ fault. HasNoTallyFor old.given new.given task fault)
      settings old.output new.output outcome
      → DoesByTally task old new (told_of_count outcome)
  reported settings text said memory tallied (Ok words) (inl h) =
      (report_text (report_of settings) h.0, (h.0, h.1, text h.0, ap says.Counted h.3 ∙ said h.0), h.2)
  reported settings text said memory tallied (Err fault) (inl h) =
      ⊎_elim (λ begun. subst (λ v. DoesByTally task old new (Err v)) (sym begun.0)
      (report_text (report_of settings) h.0, told_about task h.0, (h.0, h.1, text h.0, refl), begun.1))
      (λ none. subst (λ v. DoesByTally task old new (Err v)) (sym none.0) (none.1, inr (h.0, h.1, memory h.0)))
      (text_fault CountedWords _ old.output new.output fault h.2)
  reported settings text said memory tallied outcome (inr h) =
      subst (λ v. DoesByTally task old new (told_of_count v)) (sym h.1)
      (undone h.0 (λ is. tallied (subst (λ v. HasNoTallyFor old.given new.given task v) is h.2)) h.3 (inl h.2))

-- A task with files that are opened twice is done.
pub done_from_files : {S : Type 0} (seen : S → Seen) (derived : Derived) (input : Seen) (olds news : List (NamedSource S)) (start now : Written)
    (outcome : Result Told ToolFault) → HasFilesFor (DeriveFiles derived) (seen_of seen olds) → names_of news ≡ names_of olds
    → DerivesFiles derived (seen_of seen olds) (seen_of seen news) start now outcome
    → Does (DeriveFiles derived) (record { given = given_of (DeriveFiles derived) input (seen_of seen olds); output = start })
    (record { given = given_of (DeriveFiles derived) input (seen_of seen news); output = now }) outcome
done_from_files seen derived input olds news start now outcome has named done =
    let some = takes_some derived has.0 has.1 in
    let long = has.2 in
    let views = length-map olds (λ (file : NamedSource _). seen file.source) in
    let later_views = length-map news (λ (file : NamedSource _). seen file.source) in
    let names = length-map olds (λ (file : NamedSource _). file.name.now) in
    let later_names = length-map news (λ (file : NamedSource _). file.name.now) in
    let same = ap length named in
    let first : 1 ≤ length (seen_of seen olds) = omega (arith, some, long) in
    let later : 1 ≤ length (seen_of seen news) = omega (arith, first, views, later_views, names, later_names, same) in
    rw (some_from input (seen_of seen olds) first, some_from input (seen_of seen news) later) done

-- Sources that were lent are given back as they were left.
pub back_as_left : (asked : List FileEvent) {asked_after : List FileEvent} {lent left : List (NamedSource Seen)} → asked_after ≡ asked ++ given_back lent → lent ≡ left
    → asked_after ≡ asked ++ given_back left
back_as_left asked back same = back ∙ ap (λ v. asked ++ given_back v) same

-- The files of a task were read, and are given back.
pub task_done : {sources later : List (NamedSource Seen)} {task : Task} {old new : Surroundings} {outcome : Result Told ToolFault} (files : List FileRead)
    → PairedTo sources later files → KeepsInput (sources_in task (seen_of (λ seen. seen) sources)) old.input new.input → new.asked ≡ old.asked ++ given_back later
    → Does task (record { given = given_of task old.input (seen_of (λ seen. seen) sources); output = old.output })
    (record { given = given_of task new.input (seen_of (λ seen. seen) later); output = new.output }) outcome
    → DoesTask sources task old new outcome
task_done {sources} {later} {task} {old} {new} {outcome} files paired kept log done = record {
  files = files;
  are = paired.are;
  input = subst (λ v. KeepsInput (sources_in task v) old.input new.input) (sym paired.are.before) kept;
  log = log ∙ ap (λ v. old.asked ++ v) (sym paired.log);
  done = subst (λ v. Does task v (stage_after task new.input files new.output) outcome)
      (ap (λ (v : List Seen). record { given = given_of task old.input v; output = old.output }) (sym paired.are.before))
      (subst (λ v. Does task (record { given = given_of task old.input (seen_of (λ seen. seen) sources); output = old.output }) v outcome)
      (ap (λ (v : List Seen). record { given = given_of task new.input v; output = new.output }) (sym paired.after)) done);
}

module _ (command : Verb) (rows : List Row) where
  -- An option was refused, or there was no memory, before anything was asked of files.
  pub option_left : {old : Surroundings} {outcome : Result Told ToolFault} (fault : ToolFault) → outcome ≡ Err fault → IsRefusedOption command rows fault
      → EndsSo command rows old old outcome
  option_left {old} fault is refused = inr (record {
    fault = fault;
    is = is;
    unread = refl;
    unwritten = refl;
    asked = [];
    log = sym (append-nil old.asked);
    refused = unasked fault refused;
  }) where
    unasked : (fault : ToolFault) → IsRefusedOption command rows fault → IsRefused command rows [] fault
    unasked (BadOption name) refused = (refused, refl)
    unasked Memory refused = inl refl
    unasked (Fastx number fault) refused = absurd refused
    unasked BadHeader refused = absurd refused
    unasked (BadRow line) refused = absurd refused
    unasked BadEnd refused = absurd refused
    unasked TableTooLong refused = absurd refused
    unasked TableRead refused = absurd refused
    unasked (BadWord number) refused = absurd refused
    unasked Write refused = absurd refused
    unasked (Run fault) refused = absurd refused
    unasked (OpenFailed name) refused = absurd refused
    unasked Unlike refused = absurd refused
    unasked TooLarge refused = absurd refused
    unasked (BrokenTable place) refused = absurd refused
    unasked (ShortTable place) refused = absurd refused
    unasked (Unpaired number) refused = absurd refused

  -- a file is lacking, for one of the two outputs or for another use
  abbrev Lacking : Text → List FileEvent → Type 0
  Lacking name asked = ((names : List Text) × AreFilesOf command rows names × LacksFile names (output_of rows) name asked)
      ⊎ LacksSecondFile command rows name asked

  told_so : (name : Text) (asked : List FileEvent) (fault : ToolFault) → first_refused command rows ≡ None → Lacking name asked
      → TellsName name fault → IsRefused command rows asked fault
  told_so name asked (OpenFailed told) lawful lacks tells = (lawful, subst (λ v. Lacking v asked) (sym tells) lacks)
  told_so name asked Memory lawful (inl lacks) tells = inr (inl (lacks.0, lacks.1, inl (name, lacks.2)))
  told_so name asked Memory lawful (inr lacks) tells = inr (inr (inl (name, lacks)))
  told_so name asked (Fastx number fault) lawful lacks tells = absurd tells
  told_so name asked BadHeader lawful lacks tells = absurd tells
  told_so name asked (BadRow line) lawful lacks tells = absurd tells
  told_so name asked BadEnd lawful lacks tells = absurd tells
  told_so name asked TableTooLong lawful lacks tells = absurd tells
  told_so name asked TableRead lawful lacks tells = absurd tells
  told_so name asked (BadOption option) lawful lacks tells = absurd tells
  told_so name asked (BadWord number) lawful lacks tells = absurd tells
  told_so name asked Write lawful lacks tells = absurd tells
  told_so name asked (Run fault) lawful lacks tells = absurd tells
  told_so name asked Unlike lawful lacks tells = absurd tells
  told_so name asked TooLarge lawful lacks tells = absurd tells
  told_so name asked (BrokenTable place) lawful lacks tells = absurd tells
  told_so name asked (ShortTable place) lawful lacks tells = absurd tells
  told_so name asked (Unpaired number) lawful lacks tells = absurd tells

  -- The files that a task opens are those of its command.
  files_by : (command : Verb) (task : Task) → AsksForTask command rows task → AreFilesOf command rows (opened_by task (files_of command rows))
  files_by command (Count settings) asks = inl refl
  files_by command (CountListed settings) asks = inl refl
  files_by command (Report report) asks = inl refl
  files_by command (Query words) asks = inl refl
  files_by command (QueryListed words) asks = inl refl
  files_by command (Derive derived) asks = inl refl
  files_by command (Select rule tells) asks = inl refl
  files_by command (SelectPairs pairing) asks = inl refl
  files_by verb.Count (DeriveFiles derived) asks = absurd asks
  files_by verb.Dump (DeriveFiles derived) asks = inr (tt, refl)
  files_by verb.Histo (DeriveFiles derived) asks = absurd asks
  files_by verb.Stats (DeriveFiles derived) asks = absurd asks
  files_by verb.Query (DeriveFiles derived) asks = absurd asks
  files_by verb.Merge (DeriveFiles derived) asks = inr (tt, refl)
  files_by verb.Intersect (DeriveFiles derived) asks = inr (tt, refl)
  files_by verb.Subtract (DeriveFiles derived) asks = inr (tt, refl)
  files_by verb.Filter (DeriveFiles derived) asks = inr (tt, refl)
  files_by verb.Compare (DeriveFiles derived) asks = inr (tt, refl)
  files_by verb.Select (DeriveFiles derived) asks = absurd asks
  files_by verb.Profile (DeriveFiles derived) asks = absurd asks

  -- A command with two outputs opens its files once.
  opens_once : (command : Verb) {other : Text} {names : List Text} → second_of command rows ≡ Some other → AreFilesOf command rows names
      → names ≡ files_of command rows
  opens_once command second (inl are) = are
  opens_once verb.Merge second (inr both) = let none : ⊥ = cc in absurd none
  opens_once verb.Intersect second (inr both) = let none : ⊥ = cc in absurd none
  opens_once verb.Subtract second (inr both) = let none : ⊥ = cc in absurd none
  opens_once verb.Filter second (inr both) = let none : ⊥ = cc in absurd none
  opens_once verb.Compare second (inr both) = let none : ⊥ = cc in absurd none
  opens_once verb.Count second (inr both) = absurd both.0
  opens_once verb.Dump second (inr both) = let none : ⊥ = cc in absurd none
  opens_once verb.Histo second (inr both) = absurd both.0
  opens_once verb.Stats second (inr both) = absurd both.0
  opens_once verb.Query second (inr both) = absurd both.0
  opens_once verb.Select second (inr both) = absurd both.0
  opens_once verb.Profile second (inr both) = absurd both.0

  module _ (names : List Text) (are : AreFilesOf command rows names) where
    -- There is no file for a text that is to go to the one of this name.
    no_output : {name : Text} (tried : List FileEvent) (fault : ToolFault) → output_of rows ≡ Some name → first_refused command rows ≡ None
        → HasNoOutput name tried fault → IsRefused command rows (tried_alone names tried) fault
    no_output {name} tried fault named lawful (inl tells) =
        told_so name (tried_alone names tried) fault lawful (inl (names, are, inr (named, (tried, tells.1, refl)))) tells.0
    no_output {name} tried fault named lawful (inr lacks) =
        subst (λ fault. IsRefused command rows (tried_alone names tried) fault) (sym lacks.0)
        (inr (inl (names, are, inr (name, named, (tried, lacks.1, refl)))))

    -- There are no files for two texts that are to go to these.
    not_both : {name other : Text} (tried : List FileEvent) (fault : ToolFault) → output_of rows ≡ Some name → second_of command rows ≡ Some other → first_refused command rows ≡ None
        → HasNotBoth name other tried fault → IsRefused command rows (tried_alone names tried) fault
    not_both {name} {other} tried fault named second lawful (inl first) = no_output tried fault named lawful first
    not_both {name} {other} tried fault named second lawful (inr (file, path, opening, none, closing, opens, why, gives, all)) =
        subst (λ v. IsRefused command rows (tried_alone v tried) fault) (sym (opens_once command second are)) (pick why) where
          pick : HasNoOutput other none fault → IsRefused command rows (tried_alone (files_of command rows) tried) fault
          pick (inl tells) =
              told_so other (tried_alone (files_of command rows) tried) fault lawful (inr (second, (name, named, (tried, (file, path, opening, none, closing, opens, tells.1, gives, all), refl)))) tells.0
          pick (inr lacks) =
              subst (λ fault. IsRefused command rows (tried_alone (files_of command rows) tried) fault) (sym lacks.0)
              (inr (inr (inr (other, second, (name, named, (tried, (file, path, opening, none, closing, opens, lacks.1, gives, all), refl))))))

  -- A file can't be opened for reading.
  pub file_left : {old : Surroundings} {log : List FileEvent} {outcome : Result Told ToolFault} (fault : ToolFault) → outcome ≡ Err fault
      → first_refused command rows ≡ None → {names : List Text} → AreFilesOf command rows names → FailsToOpen names old.asked log fault
      → EndsSo command rows old (record { input = old.input; output = old.output; asked = log }) outcome
  file_left {old} {log} fault is lawful {names} are (inl fails) = inr (record {
    fault = fault;
    is = is;
    unread = refl;
    unwritten = refl;
    asked = fails.1;
    log = fails.3;
    refused = told_so fails.0 fails.1 fault lawful (inl (names, are, inl fails.2)) fails.4;
  })
  file_left {old} {log} fault is lawful {names} are (inr fails) = inr (record {
    fault = fault;
    is = is;
    unread = refl;
    unwritten = refl;
    asked = [];
    log = fails.1 ∙ sym (append-nil old.asked);
    refused = subst (λ fault. IsRefused command rows [] fault) (sym fails.0) (inl refl);
  })

  opened_files : {names : List Text} {asked mid : List FileEvent} {sources : List (NamedSource Seen)} → OpensAll names asked mid sources
      → (files : List FileRead) → AreOf sources files → AreOpened names files
  opened_files opens files are = record {
    named = are.named ∙ opens.named;
    fresh = subst (All (λ (seen : Seen). seen.history ≡ no_history)) (sym are.before) opens.fresh;
  }

  opening_log : {names : List Text} {asked mid : List FileEvent} {sources : List (NamedSource Seen)} → OpensAll names asked mid sources
      → (files : List FileRead) → AreOf sources files → mid ≡ asked ++ openings files
  opening_log {names} {asked} opens files are = opens.log ∙ ap (λ v. asked ++ map opened v) (sym (are.named ∙ opens.named))

  module _ (task : Task) {sources : List (NamedSource Seen)} {outcome : Result Told ToolFault} (asks : AsksForTask command rows task)
      {old : Surroundings} {mid : List FileEvent} (opens : OpensAll (opened_by task (files_of command rows)) old.asked mid sources) where
    -- The output has the text.
    pub to_output : {new : Surroundings} → output_of rows ≡ None → DoesTask sources task (record { input = old.input; output = old.output; asked = mid }) new outcome
        → EndsSo command rows old new outcome
    to_output {new} named does = inl (record {
      task = task;
      asks = asks;
      files = does.files;
      opened = opened_files opens does.files does.are;
      input = does.input;
      done = rw named (
        does.log ∙ ap (λ v. v ++ returned does.files) (opening_log opens does.files does.are),
        does.done,
      );
    })

    -- The file that is named for the output has it.
    to_file : {name : Text} {input : Seen} {log : List FileEvent} → output_of rows ≡ Some name → second_of command rows ≡ None
        → DoesTaskInto name sources task old.input input mid log outcome
        → EndsSo command rows old (record { input = input; output = old.output; asked = log }) outcome
    to_file {name} {input} {log} named second does =
        inl (record {
          task = task;
          asks = asks;
          files = does.files;
          opened = opened_files opens does.files does.are;
          input = does.input_kept;
          done = rw (named, second) (
            refl,
            (
              does.there,
              does.log ∙ ap (λ v. v ++ does.there) (opening_log opens does.files does.are),
              does.writes,
            ),
          );
        })

    -- The two files that are named for the outputs have it.
    to_files : {name other : Text} {input : Seen} {log : List FileEvent} → output_of rows ≡ Some name → second_of command rows ≡ Some other
        → DoesTaskApart name other sources task old.input input mid log outcome
        → EndsSo command rows old (record { input = input; output = old.output; asked = log }) outcome
    to_files {name} {other} {input} {log} named second does =
        inl (record {
          task = task;
          asks = asks;
          files = does.files;
          opened = opened_files opens does.files does.are;
          input = does.input_kept;
          done = rw (named, second) (
            refl,
            (
              does.there,
              does.log ∙ ap (λ v. v ++ does.there) (opening_log opens does.files does.are),
              does.writes,
            ),
          );
        })

    -- There is no file for its text, or there are none for its two texts.
    output_left : {Lacks : List FileEvent → ToolFault → Type 0} {input : Seen} {log : List FileEvent}
        → ((tried : List FileEvent) (fault : ToolFault) → Lacks tried fault → IsRefused command rows (tried_alone (opened_by task (files_of command rows)) tried) fault)
        → LacksOutput Lacks sources old.input input mid log outcome
        → EndsSo command rows old (record { input = input; output = old.output; asked = log }) outcome
    output_left {Lacks} {input} {log} refuses lacks =
        let names = opened_by task (files_of command rows) in
        let back : given_back sources ≡ unread names = unread_back sources opens.fresh ∙ ap unread opens.named in
        inr (record {
          fault = lacks.fault;
          is = lacks.is;
          unread = lacks.unread;
          unwritten = refl;
          asked = tried_alone names lacks.tried;
          log = lacks.log ∙ ap₂ (λ v w. v ++ lacks.tried ++ w) opens.log back
              ∙ ap (λ v. v ++ unread names) (append_assoc old.asked (map opened names) lacks.tried)
              ∙ append_assoc old.asked (map opened names ++ lacks.tried) (unread names);
          refused = refuses lacks.tried lacks.fault lacks.why;
        })

    -- The file that is named for the output has it, or can't be created.
    into_ends : {name : Text} {input : Seen} {log : List FileEvent} → output_of rows ≡ Some name → second_of command rows ≡ None → first_refused command rows ≡ None
        → DoesTaskInto name sources task old.input input mid log outcome
        ⊎ LacksOutput (λ tried fault. HasNoOutput name tried fault) sources old.input input mid log outcome
        → EndsSo command rows old (record { input = input; output = old.output; asked = log }) outcome
    into_ends named second lawful (inl does) = to_file named second does
    into_ends named second lawful (inr lacks) = output_left (λ tried fault why. no_output (opened_by task (files_of command rows)) (files_by command task asks) tried fault named lawful why) lacks

    -- The two files that are named for the outputs have it, or can't be created.
    apart_ends : {name other : Text} {input : Seen} {log : List FileEvent} → output_of rows ≡ Some name → second_of command rows ≡ Some other → first_refused command rows ≡ None
        → DoesTaskApart name other sources task old.input input mid log outcome
        ⊎ LacksOutput (λ tried fault. HasNotBoth name other tried fault) sources old.input input mid log outcome
        → EndsSo command rows old (record { input = input; output = old.output; asked = log }) outcome
    apart_ends named second lawful (inl does) = to_files named second does
    apart_ends named second lawful (inr lacks) = output_left (λ tried fault why. not_both (opened_by task (files_of command rows)) (files_by command task asks) tried fault named second lawful why) lacks

    -- The output, or the files that are named for it, have the text.
    done_to : {new : Surroundings} (output second : Option Text) → output_of rows ≡ output → second_of command rows ≡ second → first_refused command rows ≡ None
        → DoesTaskTo output second sources task (record { input = old.input; output = old.output; asked = mid }) new outcome
        → EndsSo command rows old new outcome
    done_to None second named more lawful does = to_output named does
    done_to {new} (Some name) None named more lawful does =
        subst (λ v. EndsSo command rows old (record { input = new.input; output = v; asked = new.asked }) outcome) (sym does.0)
        (into_ends named more lawful does.1)
    done_to {new} (Some name) (Some other) named more lawful does =
        subst (λ v. EndsSo command rows old (record { input = new.input; output = v; asked = new.asked }) outcome) (sym does.0)
        (apart_ends named more lawful does.1)

  -- The task of a command was done, or not all its files could be opened.
  pub command_ends : {old new : Surroundings} (task : Task) {names : List Text} {output second : Option Text} {outcome : Result Told ToolFault}
      → AsksForTask command rows task → first_refused command rows ≡ None → names ≡ opened_by task (files_of command rows) → output_of rows ≡ output → second_of command rows ≡ second
      → OpensAndDoes names output second task old new outcome → EndsSo command rows old new outcome
  command_ends {old} {new} task {names} {output} {second} {outcome} asks lawful named same more (inl does) =
      done_to task asks (subst (λ v. OpensAll v old.asked does.0 does.1) named does.2) output second same more lawful does.3
  command_ends {old} {new} task {names} {output} {second} {outcome} asks lawful named same more (inr fails) =
      let left = file_left fails.0 fails.1 lawful (files_by command task asks) (subst (λ v. FailsToOpen v old.asked new.asked fails.0) named fails.2) in
      subst (λ v. EndsSo command rows old (record { input = v; output = new.output; asked = new.asked }) outcome) (sym fails.3)
      (subst (λ v. EndsSo command rows old (record { input = old.input; output = v; asked = new.asked }) outcome) (sym fails.4) left)

-- Whether a list is empty, by its length.
pub nothing_named : {X : Type 0} (names : List X) (n : ℕ) → (n == 0) ≡ true → n ≡ length names → names ≡ []
nothing_named names n is counted = nil_from_length names (let zero : n ≡ 0 = grind (arith, nat_tests) in sym counted ∙ zero)

pub something_named : {X : Type 0} (names : List X) (n : ℕ) → (n == 0) ≡ false → n ≡ length names → names ≡ [] → ⊥
something_named names n not counted none =
    let zero : n ≡ 0 = counted ∙ ap length none in
    let same : (n == 0) ≡ true = rw zero refl in
    cc

-- A task was done, and its text went to the file of this name.
pub done_into : {sources : List (NamedSource Seen)} {task : Task} {input input_after : Seen} {asked mid back asked_after : List FileEvent} (opening closing : List FileEvent) {file : Text} (name : Text)
    (path : Option Text) {before after : Written} {work outcome : Result Told ToolFault} → mid ≡ asked ++ opening → OpensOutput file name path opening → before.history ≡ no_history
    → DoesTask sources task (record { input = input; output = before; asked = mid }) (record { input = input_after; output = after; asked = back }) work
    → asked_after ≡ back ++ closing → ClosesOutput name path after.history work outcome closing → DoesTaskInto file sources task input input_after asked asked_after outcome
done_into {sources} {task} {input} {input_after} {asked} {mid} {back} {asked_after} opening closing {file} name path {before} {after} {work} {outcome}
    opens goes fresh does closes closed =
    let given = returned does.files in
    record {
      files = does.files;
      are = does.are;
      input_kept = does.input;
      there = opening ++ given ++ closing;
      writes = record {
        file = record { name = name; before = before; after = after };
        fresh = fresh;
        path = path;
        opening = opening;
        opened = goes;
        work = work;
        done = does.done;
        closing = closing;
        closed = closed;
        log = refl;
      };
      log = closes ∙ ap (λ v. v ++ closing) (does.log ∙ ap (λ v. v ++ given) opens ∙ append_assoc asked opening given)
          ∙ append_assoc asked (opening ++ given) closing;
    }

-- A task was done, and its two texts went to the files of these names.
pub done_apart : {sources later : List (NamedSource Seen)} {task : Task} {input : Seen} {asked mid back asked_after : List FileEvent} (files : List FileRead) (opening closing : List FileEvent)
    {file other : Text} (name : Text) (path : Option Text) (second : Text) (second_path : Option Text) (from to : Sides Written) (work : Result Told ToolFault) {outcome : Result Told ToolFault} → PairedTo sources later files
    → mid ≡ asked ++ opening → OpensBoth file other name path second second_path opening → from.first.history ≡ no_history → from.second.history ≡ no_history
    → DoesApart task (given_of task input (seen_of (λ seen. seen) sources)) (given_of task input (seen_of (λ seen. seen) later)) from to work
    → back ≡ mid ++ given_back later → asked_after ≡ back ++ closing → ClosesBoth (both (target name path to.first.history) (target second second_path to.second.history)) work outcome closing
    → DoesTaskApart file other sources task input input asked asked_after outcome
done_apart {sources} {later} {task} {input} {asked} {mid} {back} {asked_after} files opening closing name path second second_path from to work {outcome}
    paired opens goes first_fresh second_fresh done gives closes closed =
    let given = returned files in
    let log : back ≡ mid ++ given = gives ∙ ap (λ v. mid ++ v) (sym paired.log) in
    record {
      files = files;
      are = paired.are;
      input_kept = same_input input _;
      there = opening ++ given ++ closing;
      writes = record {
        first = record { name = name; before = from.first; after = to.first };
        second = record { name = second; before = from.second; after = to.second };
        first_fresh = first_fresh;
        second_fresh = second_fresh;
        path = path;
        second_path = second_path;
        opening = opening;
        opened = goes;
        work = work;
        done = subst (λ v. DoesApart task (given_of task input v) (given_of task input (map (λ file. file.after) files)) from to work) (sym paired.are.before)
            (subst (λ v. DoesApart task (given_of task input (seen_of (λ seen. seen) sources)) (given_of task input v) from to work) (sym paired.after) done);
        closing = closing;
        closed = closed;
        log = refl;
      };
      log = closes ∙ ap (λ v. v ++ closing) (log ∙ ap (λ v. v ++ given) opens ∙ append_assoc asked opening given)
          ∙ append_assoc asked (opening ++ given) closing;
    }

-- There is no file for its text, or there are none for its two texts.
pub not_into : {Lacks : List FileEvent → ToolFault → Type 0} {sources : List (NamedSource Seen)} {input : Seen} {asked mid asked_after : List FileEvent} (tried : List FileEvent) (fault : ToolFault)
    → mid ≡ asked ++ tried → Lacks tried fault → asked_after ≡ mid ++ given_back sources
    → LacksOutput Lacks sources input input asked asked_after (Err fault)
not_into {Lacks} {sources} {input} {asked} {mid} {asked_after} tried fault opens why back = record {
  fault = fault;
  is = refl;
  unread = refl;
  tried = tried;
  why = why;
  log = back ∙ ap (λ v. v ++ given_back sources) opens;
}

-- All words of a query with a list were queried.
pub queried : (words : QueryWords) (old new : Stage) (outcome : Result Told ToolFault)
    → QueriesAll words old new outcome → QueriesBy words old new outcome
queried words old new (Ok told) h = h
queried words old new (Err fault) h = inl h

-- How a command line ends.
use Rattle.std.proofs.Common.{◌≡◌, ◌≤◌, ◌∙◌, arith, ℕ, refl, sym, ap, subst, List, [], ◌∷◌, inl, inr, Option, Some, None, Result, Ok, Err, IfOk, IfErr, Bool, true, codes, ◌++◌, append_assoc, append-nil}
use Rattle.std.specs.Prelude.{◌⊎◌, option_map, Box, IsErrAnd, MatchResult}
use Rattle.std.specs.Box.{box_value}
use Rattle.clap.specs.declared.parser.matches.ArgMatches.TheViews.{out-ArgMatches, out-SubCommand}
use Rattle.clap.specs.declared.parser.matches.SubCommand.{SubCommand}
use Rattle.clap.specs.Faults.{fault_of, is_simple_and_free}
use Rattle.clap.specs.Kinds.{FailsBy, HasKind, IsAmong, Kinds}
use Rattle.clap.specs.Words.{App, HasMatchesOf, Row, Text, kind_of, one_of, subcommand_name_of, subcommand_of, subcommand_rows, subcommand_rows_of}
use Rattle.clap.specs.declared.parser.matches.ArgMatches.{ArgMatches}
use Rattle.clap.specs.declared.error.Error.{Error}
use Rattle.clap.specs.declared.error.kind.ErrorKind.{ErrorKind}
use Rattle.clap.specs.declared.error.kind.ErrorKind.TheVariants.{DisplayHelp, DisplayVersion, OutOfMemory}
use Rattle.kc_io.specs.Sources.{Seen}
use Rattle.kc_command.specs.Command.{IsCommand, kcount_app}
use Rattle.kc_tool.specs.declared.option_tips.Conflict.{Conflict}
use Rattle.kc_tool.specs.CommandLine.{AreApart, AreTaken, AskFor, AskForHelp, CarriesOut, DoesCommand, EndsWell, FailsSo}
use Rattle.kc_tool.specs.CommandLine.{IsHelp, RefusesSo, IsTold, MayExplain, SaysText, ShowsSo, WantsMore, status_of}
use Rattle.kc_tool.specs.FaultLines.{fault_line}
use Rattle.kc_tool.specs.Process.{Ends}
use Rattle.kc_tool.specs.Told.{IsClosing, closing_line}
use Rattle.kc_tool.specs.declared.told.Told.{Told}
use Rattle.kc_tool.specs.Commands.{AreNotTogether, EndsSo, GoTogether, Surroundings, name_of, verb_named}
use Rattle.kc_tool.specs.FileEvents.{FileEvent}
use Rattle.kc_tool.specs.declared.commands.Verb.{Verb}
use Rattle.kc_tool.specs.declared.commands.Verb.TheVariants as verb
use Rattle.kc_io.specs.Sinks.{HasBegun, HasWritten, Written, Writes}
use Rattle.kc_io.proofs.SinksLemmas.{Pending, began_front}
use Rattle.kc_command.specs.Arguments.{IsFlag}
use Rattle.kc_tool.specs.declared.tool_faults.ToolFault.{ToolFault}
use Rattle.kc_tool.specs.declared.tool_faults.ToolFault.TheVariants.{
  Fastx,
  BadHeader,
  BadRow,
  BadEnd,
  TableTooLong,
  TableRead,
  Memory,
  BadOption,
  BadWord,
  Write,
  Run,
  OpenFailed,
  Unlike,
  TooLarge,
  BrokenTable,
  ShortTable,
  Unpaired,
}
use Rattle.kc_tool.specs.declared.command_line.Ending.{Ending}
use Rattle.kc_tool.specs.declared.command_line.Ending.TheVariants.{Fault, Refused}
use Rattle.kc_command.proofs.CommandLemmas.{names_command}

among : (kinds : Kinds) (error : Error) (kind : ErrorKind) → HasKind kinds error → kind_of error ≡ kind → (kind ≡ OutOfMemory → ⊥) → IsAmong kind kinds
among kinds error kind (inl none) is other = absurd (other (sym is ∙ none))
among kinds error kind (inr found) is other = subst (λ k. IsAmong k kinds) is found

asks_for_help : (arguments : List Text) (error : Error) → HasKind (fault_of kcount_app arguments) error → IsHelp error → AskForHelp arguments
asks_for_help arguments error h (inl is) = inl (among (fault_of kcount_app arguments) error DisplayHelp h is (λ e. cc))
asks_for_help arguments error h (inr is) = inr (among (fault_of kcount_app arguments) error DisplayVersion h is (λ e. cc))

-- the command that has a name
has_verb : (name : Text) → IsCommand name → (command : Verb) × (name ≡ name_of command)
has_verb name (inl is) = (verb.Count, is)
has_verb name (inr (inl is)) = (verb.Dump, is)
has_verb name (inr (inr (inl is))) = (verb.Histo, is)
has_verb name (inr (inr (inr (inl is)))) = (verb.Stats, is)
has_verb name (inr (inr (inr (inr (inl is))))) = (verb.Query, is)
has_verb name (inr (inr (inr (inr (inr (inl is)))))) = (verb.Merge, is)
has_verb name (inr (inr (inr (inr (inr (inr (inl is))))))) = (verb.Intersect, is)
has_verb name (inr (inr (inr (inr (inr (inr (inr (inl is)))))))) = (verb.Subtract, is)
has_verb name (inr (inr (inr (inr (inr (inr (inr (inr (inl is))))))))) = (verb.Filter, is)
has_verb name (inr (inr (inr (inr (inr (inr (inr (inr (inr (inl is)))))))))) = (verb.Compare, is)
has_verb name (inr (inr (inr (inr (inr (inr (inr (inr (inr (inr (inl is))))))))))) = (verb.Select, is)
has_verb name (inr (inr (inr (inr (inr (inr (inr (inr (inr (inr (inr is))))))))))) = (verb.Profile, is)

-- `clap` takes the arguments if nothing fails
taken : (arguments : List Text) (matches : ArgMatches) → fault_of kcount_app arguments ≡ [] → subcommand_rows_of matches ≡ subcommand_of kcount_app arguments
    → AreTaken arguments matches
taken arguments matches none is =
    let named = names_command arguments none in
    let found = has_verb named.0 named.2 in
    let asked : subcommand_of kcount_app arguments ≡ Some (name_of found.0, named.1) = named.3 ∙ ap (λ (name : Text). Some (name, named.1)) found.1 in
    record { command = found.0; options = named.1; asked = record { accepted = none; named = asked }; entered = is ∙ asked }

ends : (arguments : List Text) (r : Result ArgMatches Error) → FailsBy (fault_of kcount_app arguments) r → IfOk r (HasMatchesOf kcount_app arguments)
    → IfOk r (AreTaken arguments) × IfErr r (HasKind (fault_of kcount_app arguments))
ends arguments (Ok matches) none h = (taken arguments matches none (h refl).1, tt)
ends arguments (Err error) kinds h = (tt, kinds)

-- what a parse of the command line comes to
pub parse_ends : (command : App) (arguments : List Text) (r : Result ArgMatches Error) → command ≡ kcount_app
    → (is_simple_and_free command ≡ true → FailsBy (fault_of command arguments) r) → IfOk r (HasMatchesOf command arguments)
    → IfOk r (AreTaken arguments) × IfErr r (HasKind (fault_of kcount_app arguments))
parse_ends command arguments r is kinds matches =
    ends arguments r (subst (λ (a : App). FailsBy (fault_of a arguments) r) is (kinds (ap is_simple_and_free is)))
    (subst (λ (a : App). IfOk r (HasMatchesOf a arguments)) is matches)

-- a command is found by its name
pub verb_found : (command : Verb) → verb_named (name_of command) ≡ Some command
verb_found verb.Count = refl
verb_found verb.Dump = refl
verb_found verb.Histo = refl
verb_found verb.Stats = refl
verb_found verb.Query = refl
verb_found verb.Merge = refl
verb_found verb.Intersect = refl
verb_found verb.Subtract = refl
verb_found verb.Filter = refl
verb_found verb.Compare = refl
verb_found verb.Select = refl
verb_found verb.Profile = refl

module _ {Z : Type 0} where
  name_with_rows : (sub : Option (Box SubCommand Z)) → option_map (λ b. (out-SubCommand (box_value b)).name.now) sub ≡ option_map (λ p. p.0) (subcommand_rows sub)
  name_with_rows None = refl
  name_with_rows (Some b) = refl

same_name : {name : Text} (met : Text × List Row) → Some name ≡ option_map (λ p. p.0) (Some met) → name ≡ met.0
same_name met e = cc

same_rows : {rows : List Row} (met : Text × List Row) → Some rows ≡ option_map (λ p. p.1) (Some met) → rows ≡ met.1
same_rows met e = cc

same_verb : {found command : Verb} → Some found ≡ Some command → found ≡ command
same_verb e = cc

-- the arguments ask for the command that was found, with the options that were found
pub asked_for : {arguments : List Text} {matches : ArgMatches} {name : Text} {rows : List Row} {command : Verb} → AreTaken arguments matches
    → Some name ≡ subcommand_name_of matches → Some rows ≡ option_map (λ p. p.1) (subcommand_rows_of matches) → Some command ≡ verb_named name
    → AskFor arguments command rows
asked_for {arguments} {matches} {name} {rows} {command} taken named found is =
    let name_is : name ≡ name_of taken.command = same_name (name_of taken.command, taken.options) (named ∙ name_with_rows (out-ArgMatches matches).subcommand ∙ ap (option_map (λ p. p.0)) taken.entered) in
    let rows_are : rows ≡ taken.options = same_rows (name_of taken.command, taken.options) (found ∙ ap (option_map (λ p. p.1)) taken.entered) in
    let command_is : command ≡ taken.command = same_verb (is ∙ ap verb_named name_is ∙ verb_found taken.command) in
    subst (λ v. AskFor arguments v rows) (sym command_is) (subst (λ v. AskFor arguments taken.command v) (sym rows_are) taken.asked)

-- a command was carried out
pub command_done : {arguments : List Text} {old new : Surroundings} {outcome : Result Told ToolFault} {rows : List Row} {command : Verb}
    → AskFor arguments command rows → GoTogether command rows → EndsSo command rows old new outcome → DoesCommand arguments old new outcome
command_done {rows = rows} {command} asked together ends = (command, rows, asked, together, ends)

-- arguments that conflict
pub are_apart : {arguments : List Text} {rows : List Row} (why : Conflict) (command : Verb) → AskFor arguments command rows
    → AreNotTogether command rows why → AreApart arguments
are_apart {rows = rows} why command asked apart =
    record { command = command; options = rows; asked = asked; reason = why; is = apart }

-- they refuse the arguments
pub refused_apart : {arguments : List Text} (old : Surroundings) (ending : Ending) → AreApart arguments → RefusesSo ending → CarriesOut arguments old old (Err ending)
refused_apart old (Refused text) apart so = (inr apart, refl)
refused_apart old (Fault fault) apart so = inr (inr (so, refl))

-- a name that `clap` takes is that of a command
pub verb_known : {arguments : List Text} {matches : ArgMatches} {name : Text} → AreTaken arguments matches
    → Some name ≡ subcommand_name_of matches → verb_named name ≡ None → ⊥
verb_known {matches = matches} {name} taken named none =
    let name_is : name ≡ name_of taken.command = same_name (name_of taken.command, taken.options) (named ∙ name_with_rows (out-ArgMatches matches).subcommand ∙ ap (option_map (λ p. p.0)) taken.entered) in
    let found : verb_named name ≡ Some taken.command = ap verb_named name_is ∙ verb_found taken.command in
    cc

-- what a command returns, its fault as the end of a command line
pub command_ended : {arguments : List Text} {old new : Surroundings} (outcome : Result Told ToolFault) (r : Result Told Ending)
    → MatchResult outcome (λ told. r ≡ Ok told) (λ fault. IsErrAnd r (λ ending. ending ≡ Fault fault)) → DoesCommand arguments old new outcome
    → CarriesOut arguments old new r
command_ended {arguments} {old} {new} (Ok told) r is done = subst (λ (r : Result Told Ending). CarriesOut arguments old new r) (sym is) (inl done)
command_ended {arguments} {old} {new} (Err fault) (Ok told) is done = absurd is
command_ended {arguments} {old} {new} (Err fault) (Err ending) is done = subst (λ (e : Ending). CarriesOut arguments old new (Err e)) (sym is) (inl done)

-- the output alone may have changed
abbrev with_output : Seen → List FileEvent → Written → Surroundings
with_output input asked output = record { input = input; output = output; asked = asked }

-- a result of `clap` was shown
pub shown : (input : Seen) (asked : List FileEvent) (arguments : List Text) (error : Error) (old new : Written) (r : Result Told Ending)
    → HasKind (fault_of kcount_app arguments) error → ShowsSo error old new r
    → CarriesOut arguments (record { input = input; output = old; asked = asked }) (record { input = input; output = new; asked = asked }) r
shown input asked arguments error old new (Ok told) h s =
    inr ((s.1.0, asks_for_help arguments error h s.1.1, record { unread = refl; unasked = refl; happens = s.1.2 }), s.0)
shown input asked arguments error old new (Err (Fault Write)) h s =
    inr (inl (s.0, asks_for_help arguments error h s.1, refl, record { unread = refl; unasked = refl; happens = s.2 }))
shown input asked arguments error old new (Err (Fault Memory)) h s = inr (inr (refl, ap (with_output input asked) s))
shown input asked arguments error old new (Err (Fault (Fastx number fault))) h s = absurd s
shown input asked arguments error old new (Err (Fault BadHeader)) h s = absurd s
shown input asked arguments error old new (Err (Fault (BadRow line))) h s = absurd s
shown input asked arguments error old new (Err (Fault BadEnd)) h s = absurd s
shown input asked arguments error old new (Err (Fault TableTooLong)) h s = absurd s
shown input asked arguments error old new (Err (Fault TableRead)) h s = absurd s
shown input asked arguments error old new (Err (Fault (BadOption name))) h s = absurd s
shown input asked arguments error old new (Err (Fault (BadWord number))) h s = absurd s
shown input asked arguments error old new (Err (Fault (Run fault))) h s = absurd s
shown input asked arguments error old new (Err (Fault (OpenFailed name))) h s = absurd s
shown input asked arguments error old new (Err (Fault Unlike)) h s = absurd s
shown input asked arguments error old new (Err (Fault TooLarge)) h s = absurd s
shown input asked arguments error old new (Err (Fault (BrokenTable place))) h s = absurd s
shown input asked arguments error old new (Err (Fault (ShortTable place))) h s = absurd s
shown input asked arguments error old new (Err (Fault (Unpaired number))) h s = absurd s
shown input asked arguments error old new (Err (Refused text)) h s = (
  inl (record {
    reason = kind_of error;
    among = among (fault_of kcount_app arguments) error (kind_of error) h refl s.1;
    no_help = s.2;
    no_version = s.3;
  }),
  ap (with_output input asked) s.0,
)

-- a text went to the errors, whether all of it could be written or not
pub told : {A E : Type 0} (old new : Written) (r : Result A E) (text : List ℕ) → Writes old new r text → IsTold old new text
told old new (Ok done) text w = inl w
told old new (Err fault) text w = inr w

-- a fault ends with status 1, or with status 2
pub some_status : (fault : ToolFault) → 1 ≤ status_of fault
some_status (BadOption name) = omega arith
some_status (Fastx number fault) = omega arith
some_status BadHeader = omega arith
some_status (BadRow line) = omega arith
some_status BadEnd = omega arith
some_status TableTooLong = omega arith
some_status TableRead = omega arith
some_status Memory = omega arith
some_status (BadWord number) = omega arith
some_status Write = omega arith
some_status (Run fault) = omega arith
some_status (OpenFailed name) = omega arith
some_status Unlike = omega arith
some_status TooLarge = omega arith
some_status (BrokenTable place) = omega arith
some_status (ShortTable place) = omega arith
some_status (Unpaired number) = omega arith

pub small_status : (fault : ToolFault) → status_of fault ≤ 2
small_status (BadOption name) = omega arith
small_status (Fastx number fault) = omega arith
small_status BadHeader = omega arith
small_status (BadRow line) = omega arith
small_status BadEnd = omega arith
small_status TableTooLong = omega arith
small_status TableRead = omega arith
small_status Memory = omega arith
small_status (BadWord number) = omega arith
small_status Write = omega arith
small_status (Run fault) = omega arith
small_status (OpenFailed name) = omega arith
small_status Unlike = omega arith
small_status TooLarge = omega arith
small_status (BrokenTable place) = omega arith
small_status (ShortTable place) = omega arith
small_status (Unpaired number) = omega arith

-- How the program ends, by its status.
module _ (watched : Bool) {arguments : List Text} {old new : Surroundings} {errors errors_after : Written}
    (explained : Text) where
  pub ends_well : EndsWell watched arguments old new errors errors_after explained
      → Ends watched arguments old new errors errors_after explained 0
  ends_well well = record { done = λ status. well; fault = λ status. cc; refused = λ status. cc; within = omega arith }

  pub ends_in_fault : (fault : ToolFault) (status : ℕ) → status ≡ status_of fault → FailsSo arguments old new fault
      → IsTold errors errors_after (fault_line fault ++ explained) → Ends watched arguments old new errors errors_after explained status
  ends_in_fault fault status exit failed told = record {
    done = λ is. absurd (omega (arith, is, exit, some_status fault));
    fault = λ is. record { fault = fault; exit = sym is ∙ exit; failed = failed; told = told };
    refused = λ is. inl (record { fault = fault; exit = sym is ∙ exit; failed = failed; told = told });
    within = rw exit (small_status fault);
  }

-- What a fault may be explained by, if the command and its options are those that were asked for.
pub may_explain : {watched : Bool} {arguments : List Text} (matches : ArgMatches) (options : List Row) (text : Text) → AreTaken arguments matches
    → Some options ≡ option_map (λ p. p.1) (subcommand_rows_of matches)
    → (text ≡ []) ⊎ (watched ≡ true) ⊎ IsFlag options (codes "explain") true → MayExplain watched arguments text
may_explain matches options text taken found (inl none) = inl none
may_explain matches options text taken found (inr (inl watched)) = inr (inl watched)
may_explain {arguments = arguments} matches options text taken found (inr (inr asked)) =
    let same = same_rows (name_of taken.command, taken.options) (found ∙ ap (option_map (λ p. p.1)) taken.entered) in
    inr (inr (taken.command, taken.options, taken.asked, subst (λ v. IsFlag v (codes "explain") true) same asked))

-- The sink failed in the first of two texts.
pub begun_first : {a b : Written} {x : List ℕ} (y : List ℕ) → HasBegun a b x → HasBegun a b (x ++ y)
begun_first {x = x} y begun = record {
  front = begun.front;
  rest = begun.rest ++ y;
  whole = ap (λ v. v ++ y) begun.whole ∙ append_assoc begun.front begun.rest y;
  bytes = begun.bytes;
  taken = begun.taken;
  failures = begun.failures;
}

-- It failed in the second.
pub begun_second : {a b c : Written} {x y : List ℕ} → HasWritten a b x → HasBegun b c y → HasBegun a c (x ++ y)
begun_second {a} {b} {c} {x} {y} first begun =
    let pending : Pending a b (x ++ y) (y ++ []) = record { front = x; whole = ap (λ v. x ++ v) (sym (append-nil y)); taken = first.taken } in
    began_front a b c (x ++ y) y [] pending begun

-- A text that is there went to the errors.
pub says : (text : List ℕ) {old new : Written} → (text ≡ [] → ⊥) → IsTold old new text → SaysText text old new
says [] some told = absurd (some refl)
says (byte ∷ text) some told = told

-- Nothing is printed of help and the version, and a fault needs no closing line.
pub unsaid : (error : Error) (old new : Written) (watched : Bool) (arguments : List Text) (r : Result Told Ending)
    → ShowsSo error old new r → IfOk r (λ told. WantsMore watched arguments → IsClosing told [])
unsaid error old new watched arguments (Ok told) shows = λ wants. (None, sym (ap (λ v. closing_line v None) shows.0))
unsaid error old new watched arguments (Err ending) shows = tt

-- If more is wanted, the errors are read by a person, or the options that were taken ask for it.
wants : {watched : Bool} {arguments : List Text} (matches : ArgMatches) (options : List Row) → AreTaken arguments matches
    → Some options ≡ option_map (λ p. p.1) (subcommand_rows_of matches) → WantsMore watched arguments
    → (watched ≡ true) ⊎ (one_of (codes "explain") options ≡ Some (codes "true"))
wants matches options taken found (inl watched) = inl watched
wants matches options taken found (inr asked) =
    let named : Text × List Row = (name_of taken.command, taken.options) in
    let here = same_rows named (found ∙ ap (option_map (λ p. p.1)) taken.entered) in
    let there = same_rows named (ap (option_map (λ p. p.1)) (sym asked.2.named ∙ taken.asked.named)) in
    inr (subst (λ v. one_of (codes "explain") v ≡ Some (codes "true")) (there ∙ sym here) asked.3)

-- What closes a command closes the command line.
pub still_closing : (watched : Bool) (arguments : List Text) (matches : ArgMatches) (options : List Row)
    → AreTaken arguments matches → Some options ≡ option_map (λ p. p.1) (subcommand_rows_of matches) → (text : List ℕ)
    (outcome : Result Told ToolFault) (r : Result Told Ending)
    → MatchResult outcome (λ told. r ≡ Ok told) (λ fault. IsErrAnd r (λ ending. ending ≡ Fault fault))
    → IfOk outcome (λ told. (watched ≡ true) ⊎ (one_of (codes "explain") options ≡ Some (codes "true"))
    → IsClosing told text)
    → IfOk r (λ told. WantsMore watched arguments → IsClosing told text)
still_closing watched arguments matches options taken found text (Ok told) r is closes =
    subst (λ (r : Result Told Ending). IfOk r (λ told. WantsMore watched arguments → IsClosing told text)) (sym is)
    (λ more. closes (wants matches options taken found more))
still_closing watched arguments matches options taken found text (Err fault) (Ok told) is closes = absurd is
still_closing watched arguments matches options taken found text (Err fault) (Err ending) is closes = tt

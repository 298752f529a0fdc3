-- The reads of all sources of one count, the words of its list, and their tally: source, our formats page.
use Rattle.std.specs.Prelude.{◌≡◌, ◌≤◌, ◌<◌, ◌⊎◌, ◌+◌, ◌-◌, ◌*◌, ◌^◌, Result, Ok, Err, ℕ, List, [], ◌∷◌, ◌++◌, length}
use Rattle.std.specs.Prelude.{map, max, sum_by, ⊤, Bool, true, false, Option, Some, None, IfSome, is_some, option_map}
use Rattle.std.specs.List.{concat}
use Rattle.kc_io.specs.Sources.{Seen}
use Rattle.kc_gzip.specs.Intakes.{TakesAll}
use Rattle.kc_fastx.specs.Parsing.{GivesReads, HaveReads, RefusesFor, most_bytes}
use Rattle.kc_fastx.specs.Reads.{Read}
use Rattle.kc_fastx.specs.declared.read_faults.FastxFault.{FastxFault}
use Rattle.kc_fastx.specs.declared.read_faults.FastxFault.TheVariants.{Memory as NoMemory}
use Rattle.kc_word.specs.Cutting.{NumberedPieces, cleaned, cutting}
use Rattle.kc_word.specs.OpenCutting.{OpenCutting, HasTaken}
use Rattle.kc_word.specs.Only.{WordList, IsListOf}
use Rattle.kc_kmer.specs.Rule.{CountingRule, with_list}
use Rattle.kc_tally.specs.Tally.{TallySeen, IsTallyOf}
use Rattle.kc_report.specs.declared.origin.Origin.{Origin}
use Rattle.kc_table.specs.Sizes.{most_log}
use Rattle.kc_run.specs.Runs.{IsRunFault}
use Rattle.kc_run.specs.declared.run_fault.RunFault.{RunFault}
use Rattle.kc_command.specs.Settings.{Settings, rule_of}
use Rattle.kc_tool.specs.declared.counted_sources.ReadsInCutting.{ReadsInCutting}
use Rattle.kc_tool.specs.declared.tool_faults.ToolFault.{ToolFault}
use Rattle.kc_tool.specs.declared.tool_faults.ToolFault.TheVariants.{Fastx, Memory, Run}

-- each source gave its bytes in this call, up to its end, and their text is its input: gzip is decompressed, other
-- bytes are their own text. All inputs together have at most `limit` bytes. The first list has the views of the sources
-- before the call, the second those after it
abbrev pub GaveInputs : ℕ → List Seen → List Seen → List (List ℕ) → Type 0
GaveInputs limit [] [] [] = Unit {0}
GaveInputs limit (old ∷ olds) (new ∷ news) (input ∷ inputs) =
    TakesAll old new limit input × GaveInputs (limit - length input) olds news inputs
GaveInputs limit _ _ _ = ⊥

-- the sources gave inputs with these reads, joined in order
pub record GaveReads (old new : List Seen) (inputs : List (List ℕ)) (reads : List Read) : Type 0 where
  pub gave : GaveInputs most_bytes old new inputs
  pub within : length (concat inputs) ≤ most_bytes
  pub has_reads : HaveReads inputs reads

-- the sources gave these reads
abbrev pub ReadsSources : List Seen → List Seen → List Read → Type 0
ReadsSources old new reads = (inputs : List (List ℕ)) × GaveReads old new inputs reads

-- the pieces of the reads, in order
abbrev pub pieces_of : CountingRule → List Read → List (List ℕ)
pieces_of rule reads = map (λ read. cleaned rule read) reads

-- the pieces of the reads were cut by this rule into batches of so many positions, and have at most as many letters
-- together as the sources of one count may have bytes
pub record IsCuttingOf (rule : CountingRule) (batch : ℕ) (reads : List Read) (cutting : OpenCutting) : Type 0 where
  pub length_of_words : cutting.k ≡ rule.k
  pub size : cutting.size ≡ batch
  pub taken : HasTaken cutting (pieces_of rule reads)
  pub few : sum_by (λ piece. length piece) (pieces_of rule reads) ≤ most_bytes

-- the sources gave `count` reads, and their pieces were cut
pub record CutsSources (old new : List Seen) (rule : CountingRule) (batch : ℕ) (cutting : OpenCutting) (count : ℕ)
    : Type 0 where
  pub reads : List Read
  pub are : ReadsSources old new reads
  pub cut : IsCuttingOf rule batch reads cutting
  pub counted : count ≡ length reads
  pub few : count ≤ most_bytes

-- the source gave `bytes` bytes with `count` reads, and their pieces were cut after those that were cut before
pub record CutsPieces (old new : Seen) (limit : ℕ) (rule : CountingRule) (bytes count : ℕ) (before after : OpenCutting)
    : Type 0 where
  pub reads : List Read
  pub given : GivesReads old new limit reads bytes
  pub counted : count ≡ length reads
  pub few : count ≤ bytes
  pub length_of_words : after.k ≡ before.k
  pub size : after.size ≡ before.size
  pub behind : (pieces : List (List ℕ)) → HasTaken before pieces → HasTaken after (pieces ++ pieces_of rule reads)

-- one more source was read: it gave no more bytes than were left, and the pieces of its reads were cut
pub record CutsNext (old new : Seen) (rule : CountingRule) (before after : ReadsInCutting) : Type 0 where
  pub bytes : ℕ
  pub count : ℕ
  pub pieces : CutsPieces old new before.left rule bytes count before.cutting after.cutting
  pub left : after.left ≡ before.left - bytes
  pub sources : after.sources ≡ before.sources + 1
  pub reads : after.reads ≡ before.reads + count

-- why no pieces of source `number` were cut; lack of memory outside its reader has no further condition
abbrev pub RefusesSource : Seen → Seen → ℕ → ℕ → ToolFault → Type 0
RefusesSource old new number limit (Fastx source fault) = (source ≡ number) × RefusesFor old new limit fault
RefusesSource old new number limit Memory = ⊤
RefusesSource old new number limit _ = ⊥

-- why the source of a list, which is number 0, gave no list; if memory was refused outside its reader, it had given all
-- its reads
abbrev pub RefusesList : Seen → Seen → ToolFault → Type 0
RefusesList old new Memory = (reads : List Read) × (bytes : ℕ) × GivesReads old new most_bytes reads bytes
RefusesList old new fault = RefusesSource old new 0 most_bytes fault

-- one more source may be read: there are not too many bytes or sources so far
pub record MayCutNext (cut : ReadsInCutting) : Type 0 where
  pub few : cut.reads + cut.left ≤ most_bytes
  pub numbered : cut.sources < 2 ^ 64 - 1

-- it was read, or it was refused
abbrev pub CutsNextOrRefuses : Seen → Seen → CountingRule → ReadsInCutting → ReadsInCutting
    → Result (Unit {0}) ToolFault → Type 0
CutsNextOrRefuses old new rule before after (Ok done) = CutsNext old new rule before after
CutsNextOrRefuses old new rule before after (Err fault) =
    RefusesSource old new (before.sources + 1) before.left fault

-- a place among the sources: source `number`, from 1, after those before it, and before others, which are unchanged
pub record SourcePlace (old new : List Seen) (number : ℕ) : Type 0 where
  pub before : List Seen
  pub given : List Seen
  pub here : Seen
  pub left : Seen
  pub behind : List Seen
  pub were : old ≡ before ++ here ∷ behind
  pub are : new ≡ given ++ left ∷ behind
  pub counted : number ≡ length before + 1

-- source `number` is the first without reads: those before it gave theirs, and this one was refused in this call for
-- this fault
pub record FailsAt (old new : List Seen) (number : ℕ) (fault : FastxFault) : Type 0 where
  pub place : SourcePlace old new number
  pub inputs : List (List ℕ)
  pub reads : List Read
  pub earlier : GaveReads place.before place.given inputs reads
  pub fails : RefusesFor place.here place.left (most_bytes - length (concat inputs)) fault

-- there are more words than slots in the largest hash tables, one for each stripe
abbrev pub TablesMayBeFull : Settings → Type 0
TablesMayBeFull settings = 2 ^ most_log * settings.stripes < 4 ^ settings.k

-- an error that a run with these settings may return: it names one of their threads or stripes, and a full stripe only
-- if tables may be full
abbrev pub MayFail : Settings → RunFault → Type 0
MayFail settings fault = IsRunFault (TablesMayBeFull settings) settings.workers settings.stripes fault

-- why the sources were not counted: one has no reads; or all gave reads, and the run over them was refused. Lack of
-- memory outside the readers has no further condition
abbrev pub RefusesSources : Settings → List Seen → List Seen → ToolFault → Type 0
RefusesSources settings old new (Fastx number fault) = FailsAt old new number fault
RefusesSources settings old new (Run fault) = (reads : List Read) × ReadsSources old new reads × MayFail settings fault
RefusesSources settings old new Memory = ⊤
RefusesSources settings old new _ = ⊥

-- there was no memory for the reader of a source
abbrev pub reader_lacks_memory : ToolFault → Bool
reader_lacks_memory (Fastx source NoMemory) = true
reader_lacks_memory _ = false

-- a tally, and its origin if that is known
abbrev pub TableSeen : Type 0
TableSeen = TallySeen × Option Origin

-- the rule of a count, restricted to a list of words if one is given
abbrev pub kept_to : Option (List ℕ) → CountingRule → CountingRule
kept_to None rule = rule
kept_to (Some words) rule = with_list rule words

-- a list fits a rule: its words have the same length, and the same strands count
pub record IsListUnder (rule : CountingRule) (list : WordList) : Type 0 where
  pub k : list.k ≡ rule.k
  pub both : list.both ≡ rule.both

-- the words of a list, if one is given
abbrev pub words_of : Option WordList → Option (List ℕ)
words_of list = option_map (λ list. list.words) list

-- the origin of a count: its floor, the number of all reads, and whether a list was given
abbrev pub origin_of : Settings → Option (List ℕ) → ℕ → Origin
origin_of settings list count = record { floor = settings.floor; reads = count; listed = is_some list }

-- the tally is that of all reads that the sources gave, restricted to the words of the list if one is given, with its
-- origin
abbrev pub TalliesSources : List Seen → List Seen → Settings → Option (List ℕ) → TableSeen → Type 0
TalliesSources old new settings list table = (reads : List Read) × ReadsSources old new reads
    × IsTallyOf (kept_to list (rule_of settings)) reads table.0
    × (table.1 ≡ Some (origin_of settings list (length reads)))

-- the sources gave reads, and these are the batches of their pieces, with at least as many positions as were asked for
-- and at most that or 4,000,000; this is the origin of a count of them
pub record CutsBatches (old new : List Seen) (settings : Settings) (list : Option (List ℕ))
    (batches : List NumberedPieces) (origin : Origin) : Type 0 where
  pub reads : List Read
  pub are : ReadsSources old new reads
  pub size : ℕ
  pub some : 1 ≤ size
  pub at_least : settings.batch ≤ size
  pub at_most : size ≤ max settings.batch 4000000
  pub long : 1 ≤ settings.k
  pub cut : batches ≡ cutting settings.k size (pieces_of (rule_of settings) reads)
  pub told : origin ≡ origin_of settings list (length reads)

-- ---- a list

-- what a count is given: the source of its list of words, if there is one, and its sources
pub record Given : Type 0 where
  pub list : Option Seen
  pub sources : List Seen

abbrev pub given : Option Seen → List Seen → Given
given list sources = record { list = list; sources = sources }

-- the words are those that occur under the rule in the reads that the source of the list gave
pub record GivesWords (rule : CountingRule) (old new : Seen) (list : WordList) : Type 0 where
  pub reads : List Read
  pub bytes : ℕ
  pub given : GivesReads old new most_bytes reads bytes
  pub is_list : IsListOf rule reads list

-- the words of the list, if one is given
abbrev pub GivesList : CountingRule → Option Seen → Option Seen → Option (List ℕ) → Type 0
GivesList rule None None None = ⊤
GivesList rule (Some old) (Some new) (Some words) =
    (list : WordList) × GivesWords rule old new list × (list.words ≡ words)
GivesList rule _ _ _ = ⊥

-- the same for a list, with some later state of its source
abbrev pub GivesListOf : CountingRule → Option Seen → Option WordList → Type 0
GivesListOf rule source list = (later : Option Seen) × GivesList rule source later (words_of list)
    × IfSome list (IsListUnder rule)

-- the source of the list is refused for this reason, with some later state of it; it is number 0
abbrev pub ListFailsIn : Option Seen → ToolFault → Type 0
ListFailsIn None fault = ⊥
ListFailsIn (Some source) fault = (later : Seen) × RefusesList source later fault

-- the table that is counted: the list, if one is given, and then the sources gave their reads
pub record Counts (old new : Given) (settings : Settings) (table : TableSeen) : Type 0 where
  pub list : Option (List ℕ)
  pub listed : GivesList (rule_of settings) old.list new.list list
  pub tallied : TalliesSources old.sources new.sources settings list table

-- the source of the list has no reads: its number is 0, and the sources are unchanged
abbrev pub ListFails : Given → Given → ToolFault → Type 0
ListFails old new (Fastx number fault) = (before : Seen) × (after : Seen) × (old.list ≡ Some before)
    × (new.list ≡ Some after) × (number ≡ 0) × RefusesFor before after most_bytes fault × (new.sources ≡ old.sources)
ListFails old new _ = ⊥

-- the list, if one is given, gave its reads, and the sources were not counted
pub record SourcesFail (old new : Given) (settings : Settings) (fault : ToolFault) : Type 0 where
  pub list : Option (List ℕ)
  pub listed : GivesList (rule_of settings) old.list new.list list
  pub refused : RefusesSources settings old.sources new.sources fault

-- the source of a list, if there is one, gave all its reads
abbrev pub ListGave : Option Seen → Option Seen → Type 0
ListGave None new = ⊤
ListGave (Some old) (Some new) = (reads : List Read) × (bytes : ℕ) × GivesReads old new most_bytes reads bytes
ListGave (Some old) None = ⊥

-- why nothing was counted. For lack of memory outside the readers the only condition is that a list had given its reads
abbrev pub RefusesCount : Given → Given → Settings → ToolFault → Type 0
RefusesCount old new settings Memory = ListGave old.list new.list
RefusesCount old new settings fault = ListFails old new fault ⊎ SourcesFail old new settings fault

-- the table that is counted of what was given, or why nothing was counted of it, with some later state of it
abbrev pub IsCountOf : Given → Settings → TableSeen → Type 0
IsCountOf given settings table = (later : Given) × Counts given later settings table

abbrev pub IsRefusedCountOf : Given → Settings → ToolFault → Type 0
IsRefusedCountOf given settings fault = (later : Given) × RefusesCount given later settings fault

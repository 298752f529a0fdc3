-- The effect of selecting pairs of reads: record n of one source and record n of another.
use Rattle.std.specs.Prelude.{◌≡◌, ◌⊎◌, ℕ, ◌+◌, false, List, [], ◌∷◌, ◌++◌, length, Result, Ok, Err}
use Rattle.kc_io.specs.Sources.{Seen}
use Rattle.kc_io.specs.Sinks.{Written, HasWritten, HasBegun, Drains}
use Rattle.kc_fastx.specs.declared.read_faults.FastxFault.{FastxFault}
use Rattle.kc_fastx.specs.Reading.{Stand, MeetsFault, ComesBehind}
use Rattle.kc_fastx.specs.Titles.{Record, HasGivenRecords, GivesRecords, reads_in}
use Rattle.kc_select.specs.declared.pair_fault.PairFault.{PairFault}
use Rattle.kc_select.specs.declared.pair_fault.PairFault.TheVariants.{Reads, Unpaired, Write}
use Rattle.kc_select.specs.declared.selection_counts.Selected.{Selected}
use Rattle.kc_select.specs.declared.sides.Side.{Side}
use Rattle.kc_select.specs.declared.sides.Side.TheVariants.{First, Second}
use Rattle.kc_select.specs.declared.sides.Sides.{Sides}
use Rattle.kc_select.specs.Pairs.{Pair, PairsSelector, firsts, seconds, are_mates, AreMates, counts_of_pairs}
use Rattle.kc_select.specs.Pairs.{first_text, second_text, interleaved_text}

-- the parameters: how pairs are selected, and how many bytes each source may give
pub record PairsTask : Type 0 where
  pub selector : PairsSelector
  pub limit : ℕ

-- both sources gave these pairs, with the titles of mates
pub record HaveGivenPairs (start now : Sides Seen) (limit : ℕ) (these : List Pair) (stands : Sides Stand) : Type 0 where
  pub first : HasGivenRecords start.first now.first limit (firsts these) stands.first
  pub second : HasGivenRecords start.second now.second limit (seconds these) stands.second
  pub mates : AreMates these

-- all bytes of both sources were taken, and they have these pairs
pub record GivePairs (start now : Sides Seen) (limit : ℕ) (these : List Pair) : Type 0 where
  pub first : GivesRecords start.first now.first limit (firsts these)
  pub second : GivesRecords start.second now.second limit (seconds these)
  pub mates : AreMates these

-- these pairs came first, whatever may come after them
abbrev pub BeginWithPairs : Sides Seen → ℕ → List Pair → Type 0
BeginWithPairs start limit these =
    (now : Sides Seen) × (stands : Sides Stand) × HaveGivenPairs start now limit these stands

-- the source gave these records first
abbrev pub GivesFirst : Seen → Seen → ℕ → List Record → Type 0
GivesFirst start now limit records = (stand : Stand) × HasGivenRecords start now limit records stand

-- after these records the source gave this one
abbrev pub GivesNext : Seen → Seen → ℕ → List Record → Record → Type 0
GivesNext start now limit records next = GivesFirst start now limit (records ++ next ∷ [])

-- after them it gave one more, or they are all
abbrev pub GivesMore : Seen → Seen → ℕ → List Record → Type 0
GivesMore start now limit records = (next : Record) × GivesNext start now limit records next

abbrev pub MeetsNone : Seen → Seen → ℕ → List Record → Type 0
MeetsNone start now limit records = GivesMore start now limit records ⊎ GivesRecords start now limit records

-- after them its reads meet this fault; if it is one of lines, it is that of the next record
abbrev pub MeetsBehind : Seen → Seen → ℕ → List Record → FastxFault → Type 0
MeetsBehind start now limit records fault =
    (stand : Stand) × MeetsFault start now limit stand fault × ComesBehind (reads_in records) stand fault

-- After these pairs the reads of one side meet this fault, and the other side gave its records of the pairs. A fault of
-- the second side counts only if the first side has none at the same record.
abbrev pub MeetAt : Side → Sides Seen → Sides Seen → ℕ → List Pair → FastxFault → Type 0
MeetAt First start now limit these fault = MeetsBehind start.first now.first limit (firsts these) fault
    × GivesFirst start.second now.second limit (seconds these)
MeetAt Second start now limit these fault = MeetsNone start.first now.first limit (firsts these)
    × MeetsBehind start.second now.second limit (seconds these) fault

-- the next records of both sources are not mates
abbrev pub AreStrangers : Sides Seen → Sides Seen → ℕ → List Pair → Type 0
AreStrangers start now limit these =
    (next : Pair) × GivesNext start.first now.first limit (firsts these) next.first
    × GivesNext start.second now.second limit (seconds these) next.second
    × (are_mates next.first.title next.second.title ≡ false)

-- one source has one more record than the other
abbrev pub IsLonger : Sides Seen → Sides Seen → ℕ → List Pair → Type 0
IsLonger start now limit these =
    let one = firsts these in
    let other = seconds these in
    (GivesMore start.first now.first limit one × GivesRecords start.second now.second limit other)
    ⊎ (GivesRecords start.first now.first limit one × GivesMore start.second now.second limit other)

-- after these pairs comes a record without a mate
abbrev pub IsUnpaired : Sides Seen → Sides Seen → ℕ → List Pair → Type 0
IsUnpaired start now limit these = AreStrangers start now limit these ⊎ IsLonger start now limit these

-- Why no pair is given after these: the reads have a fault, or the record with this number, from 1, has no mate.
abbrev pub PairingFails : Sides Seen → Sides Seen → ℕ → List Pair → PairFault → Type 0
PairingFails start now limit these (Reads side fault) = MeetAt side start now limit these fault
PairingFails start now limit these (Unpaired number) =
    (number ≡ length these + 1) × IsUnpaired start now limit these
PairingFails start now limit these Write = ⊥

-- the sources gave these pairs, or no pair is given after them
abbrev pub CameSoFar : Sides Seen → Sides Seen → ℕ → List Pair → Type 0
CameSoFar start now limit these = ((stands : Sides Stand) × HaveGivenPairs start now limit these stands)
    ⊎ ((fault : PairFault) × PairingFails start now limit these fault)

-- the result for the bytes of both sources, which have these pairs
abbrev pub selected_of_pairs : PairsTask → List ℕ → List ℕ → List Pair → Selected
selected_of_pairs task first second these =
    record { bytes = length first + length second; counts = counts_of_pairs task.selector these }

-- Ok: `Was` holds for all pairs of the sources, their text was written, and they were counted. If no pair is given
-- after some pairs, `Was` holds for these. If a writer failed, `Began` holds for those that had come.
abbrev pub SelectsPairs : PairsTask → Sides Seen → Sides Seen → (List Pair → Type 0) → (List Pair → Type 0)
    → Result Selected PairFault → Type 0
SelectsPairs task old new Was Began (Ok selected) =
    (these : List Pair) × (gives : GivePairs old new task.limit these) × Was these
    × (selected ≡ selected_of_pairs task gives.first.0 gives.second.0 these)
SelectsPairs task old new Was Began (Err Write) =
    (these : List Pair) × BeginWithPairs old task.limit these × CameSoFar old new task.limit these × Began these
SelectsPairs task old new Was Began (Err fault) =
    (these : List Pair) × BeginWithPairs old task.limit these × PairingFails old new task.limit these fault × Was these

-- the pairs are written to one sink, the first record of each followed by its mate
abbrev pub SelectsInterleaved : PairsTask → Sides Seen → Sides Seen → Written → Written
    → Result Selected PairFault → Type 0
SelectsInterleaved task old new from to answer = SelectsPairs task old new
    (λ these. HasWritten from to (interleaved_text task.selector these))
    (λ these. HasBegun from to (interleaved_text task.selector these)) answer

-- a sink took a prefix of a text
abbrev pub HasFront : Written → Written → List ℕ → Type 0
HasFront old new text = (left : List ℕ) × Drains old new text left

-- both sinks took their texts
abbrev pub HaveWritten : Sides Written → Sides Written → List ℕ → List ℕ → Type 0
HaveWritten from to first second = HasWritten from.first to.first first × HasWritten from.second to.second second

-- one of two sinks failed, and took a beginning of its text; the other took a prefix of its own
abbrev pub HaveBegun : Sides Written → Sides Written → List ℕ → List ℕ → Type 0
HaveBegun from to first second = (HasBegun from.first to.first first × HasFront from.second to.second second)
    ⊎ (HasFront from.first to.first first × HasBegun from.second to.second second)

-- the first records of the pairs are written to one sink, and their mates to another
abbrev pub SelectsApart : PairsTask → Sides Seen → Sides Seen → Sides Written → Sides Written
    → Result Selected PairFault → Type 0
SelectsApart task old new from to answer = SelectsPairs task old new
    (λ these. HaveWritten from to (first_text task.selector these) (second_text task.selector these))
    (λ these. HaveBegun from to (first_text task.selector these) (second_text task.selector these)) answer

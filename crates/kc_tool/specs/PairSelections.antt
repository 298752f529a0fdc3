-- The pairs of reads of two sources that a table selects: source, our formats page.
use Rattle.std.specs.Prelude.{◌≡◌, ◌⊎◌, List, [], ◌∷◌, Result, Ok, Err}
use Rattle.kc_io.specs.Sources.{Seen}
use Rattle.kc_fastx.specs.Parsing.{most_bytes}
use Rattle.kc_select.specs.SelectingPairs.{PairsTask}
use Rattle.kc_select.specs.Solid.{SelectionRule}
use Rattle.kc_select.specs.declared.pair_fault.PairFault.{PairFault}
use Rattle.kc_select.specs.declared.pair_fault.PairFault.TheVariants as why
use Rattle.kc_select.specs.declared.pair_rule.PairRule.{PairRule}
use Rattle.kc_select.specs.declared.selection_counts.Selected.{Selected}
use Rattle.kc_select.specs.declared.selection_counts.SelectionCounts.{SelectionCounts}
use Rattle.kc_select.specs.declared.sides.Side.TheVariants.{First, Second}
use Rattle.kc_select.specs.declared.sides.Sides.{Sides}
use Rattle.kc_tally.specs.Tally.{TallySeen}
use Rattle.kc_tool.specs.declared.tool_faults.ToolFault.{ToolFault}
use Rattle.kc_tool.specs.declared.tool_faults.ToolFault.TheVariants.{Fastx, Memory, Unpaired, Write}

-- the task for two sources: the table and the rule that judge their reads, and how many of a pair have to be solid;
-- each may give as many bytes as the sources of one count
abbrev pub pairs_task : TallySeen → SelectionRule → PairRule → PairsTask
pairs_task tally rule asked = record {
  selector = record { by = record { tally = tally; rule = rule }; asked = asked };
  limit = most_bytes;
}

-- the fault of two sources, as a fault of the program: the first source is number 1, and the second is number 2
abbrev pub pair_fault : PairFault → ToolFault
pair_fault (why.Reads First fault) = Fastx 1 fault
pair_fault (why.Reads Second fault) = Fastx 2 fault
pair_fault (why.Unpaired number) = Unpaired number
pair_fault why.Write = Write

-- the numbers of both reads of each pair, or the fault
abbrev pub counts_of_pairs : Result Selected PairFault → Result SelectionCounts ToolFault
counts_of_pairs (Ok selected) = Ok selected.counts
counts_of_pairs (Err fault) = Err (pair_fault fault)

-- the same value for both sides
abbrev pub both : {A : Type 0} → A → A → Sides A
both one other = record { first = one; second = other }

-- there are two sources, which are read together. The first list has their views before the call, the second those
-- after it
abbrev pub AreReadTogether : (Sides Seen → Sides Seen → Type 0) → List Seen → List Seen → Type 0
AreReadTogether Read (first ∷ second ∷ []) (first_after ∷ second_after ∷ []) =
    Read (both first second) (both first_after second_after)
AreReadTogether Read old new = ⊥

-- How a task selects pairs of two sources, with what result, and where they are written.
abbrev pub Selecting : Type 1
Selecting = PairsTask → Sides Seen → Sides Seen → Result Selected PairFault → Type 0

-- The pairs of two sources were selected, and counted. Or memory was refused before the first read: then nothing was
-- read, and `Kept` holds for the output.
abbrev pub SelectsPairsFrom : Selecting → Type 0 → PairsTask → List Seen → List Seen
    → Result SelectionCounts ToolFault → Type 0
SelectsPairsFrom Selects Kept task old new outcome =
    ((answer : Result Selected PairFault) × (outcome ≡ counts_of_pairs answer)
    × AreReadTogether (λ before after. Selects task before after answer) old new)
    ⊎ ((outcome ≡ Err Memory) × (new ≡ old) × Kept)

use Rattle.std.proofs.Common.{◌∙◌, List, ap}
use Rattle.kc_kmer.specs.Rule.{CountingRule}
use Rattle.kc_word.specs.Cutting.{NumberedPieces}
use Rattle.kc_gather.specs.Parts.{AreSorted, list_rows}
use Rattle.kc_gather.proofs.PartLemmas.{in_column}
use Rattle.kc_gather.specs.Gathering.{AreAllParts, HasRowsOf}
use Rattle.kc_gather.proofs.Taken.{rows-taken}
use Rattle.kc_gather.proofs.Tallies.{IsGathering, parts-taken, AreRows-gathered, IsTallyOf-gathered}
use Rattle.kc_gather.proofs.gatherer.TallySummary.of_parts.Goals as goal

pub columns_of-requires : goal.columns_of-requires
columns_of-requires g c =
    let (batches, are) = c.requires.parts in
    parts-taken c.args.setup.now batches c.in_ok-taken.taken.items c.k.result (rows-taken c.args.setup.now batches c.args.parts.items c.in_ok-taken.taken.items c.in_ok-taken.ensures are)
    (c.k.ensures ∙ ap (λ (rule : CountingRule). rule.k) c.rule.ensures)

-- the rows that were gathered
gathered : (g : _) (c : goal.In_ok-sorted g) (batches : List NumberedPieces) → AreAllParts (λ s b n part. HasRowsOf s b n part.rows) c.args.setup.now batches c.args.parts.items
    → IsGathering c.args.setup.now batches (list_rows c.in_ok-sorted.sorted)
gathered g c batches are =
    let sorted_are : AreSorted in_column c.in_ok-columns.columns.items (list_rows c.in_ok-sorted.sorted) = c.requires.sorts _ _ c.in_ok-sorted.ensures in
    record {
      taken = c.in_ok-taken.taken.items;
      columns = c.in_ok-columns.columns.items;
      k = c.k.result;
      parts_are = rows-taken c.args.setup.now batches c.args.parts.items c.in_ok-taken.taken.items c.in_ok-taken.ensures are;
      parted = c.in_ok-columns.ensures.columns;
      same = c.in_ok-columns.ensures.rows;
      sorted_are = sorted_are;
    }

pub tally_of-requires : goal.tally_of-requires
tally_of-requires g c =
    let (batches, are) = c.requires.parts in
    AreRows-gathered c.args.setup.now batches (list_rows c.in_ok-sorted.sorted) (gathered g c batches are)

pub returns : goal.returns
returns g c = λ batches are.
    IsTallyOf-gathered c.args.setup.now batches (list_rows c.in_ok-sorted.sorted) c.in_ok-tally.tally c.in_ok-tally.ensures (gathered g c.before.before.before batches are)

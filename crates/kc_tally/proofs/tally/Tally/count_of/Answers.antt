use Rattle.std.proofs.Common.{rules, sym, ◌∙◌, ap, subst, arith, map, List}
use Rattle.std.specs.Prelude.{nat_lt}
use Rattle.std.specs.List.Sorted.{IsStrictlyIncreasing}
use Rattle.std.proofs.lemmas.List.Sorted.{IsPartitionPoint-from_clause}
use Rattle.kc_tally.specs.declared.row.Row.{Row}
use Rattle.kc_tally.specs.Tally.{count_of}
use Rattle.kc_tally.specs.Searching.{last_word}
use Rattle.kc_tally.proofs.Searches.{ArePartsThatRise, IsPartedAt, part-rises, count-in-part, count-in-none, parted-at}
use Rattle.kc_tally.proofs.tally.Tally.count_of.Goals as goal
use Rattle.kc_tally.proofs.tally.Tally.count_of.Goals.{After-len}

rise : (c : After-len) → ArePartsThatRise c.self.inside.parts.items
rise c = record { rising = c.self.invariant.0.ordered.rising; some = c.self.invariant.3 }

parted : (c : After-len) → IsPartedAt c.args.word c.self.inside.parts.items c.partition_point-index.result
parted c =
    subst (λ parts. IsPartedAt c.args.word parts c.partition_point-index.result) c.deref.ensures.value
    (IsPartitionPoint-from_clause (λ (part : List Row). nat_lt (last_word part) c.args.word) c.deref.result.now c.partition_point-index.result
    c.partition_point-index.ensures.partitioned
    (parted-at c.deref.result.now c.args.word (subst ArePartsThatRise (sym c.deref.ensures.value) (rise c)))
    (λ a r f called. search rules))

pub count_of-requires : goal.count_of-requires
count_of-requires c =
    let parts = c.self.inside.parts.items in
    let i = c.partition_point-index.result in
    subst (λ rows. IsStrictlyIncreasing (map (λ row. row.word) rows)) (sym c.index.ensures)
    (part-rises parts i c.index.result.now (rise (goal.at.count_of-requires c).After-len) (omega arith))

pub returns-then-index-len : goal.returns-then-index-len
returns-then-index-len c =
    let shared = (goal.at.returns-then-index-len c).After-len in
    let parts = c.self.inside.parts.items in
    let i = c.partition_point-index.result in
    c.count_of.ensures ∙ ap (λ rows. count_of rows c.args.word) c.index.ensures
    ∙ count-in-part parts c.args.word i c.index.result.now (rise shared) (parted shared) (omega arith)
    ∙ ap (λ tally. count_of tally.rows c.args.word) c.self.view_is

pub returns-else-index-len : goal.returns-else-index-len
returns-else-index-len c =
    let shared = (goal.at.returns-else-index-len c).After-len in
    count-in-none c.self.inside.parts.items c.args.word c.partition_point-index.result (rise shared) (parted shared) (omega arith) (omega arith)
    ∙ ap (λ tally. count_of tally.rows c.args.word) c.self.view_is

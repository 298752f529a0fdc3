use Rattle.std.proofs.Common.{◌≡◌, ◌∙◌, ◌++◌, length, drop, ap, sym, arith}
use Rattle.std.proofs.lemmas.List.{take-append-drop}
use Rattle.kc_tally.specs.Packing.{rows_of}
use Rattle.kc_tally.proofs.Fronts.{length-rows_of, rows-cut}
use Rattle.kc_tally.proofs.part_rows.PartRows.take_front.Goals as goal

pub split_at-requires : goal.split_at-requires
split_at-requires c =
    let long = length-rows_of c.self.inside.layout c.self.inside.packed.now c.self.inside.large.now in
    let seen = ap length c.self.view_is in
    omega (arith, long, seen, c.requires)

pub returns-clause-rows : goal.returns-clause-rows
returns-clause-rows c =
    let layout = c.self.inside.layout in
    let packed = c.self.inside.packed.now in
    let front = c.split_at.result.0.now in
    let rest = c.split_at.result.1.now in
    let left = c.large_behind-self-inside.result.now in
    let cut : packed ≡ front ++ rest =
    sym (take-append-drop c.args.count packed) ∙ ap (λ v. v ++ drop c.args.count packed) (sym c.split_at.ensures.front)
    ∙ ap (λ v. front ++ v) (sym c.split_at.ensures.back) in
    ap (λ v. v ++ rows_of layout rest left) c.new-taken.ensures
    ∙ rows-cut layout packed front rest c.self.inside.large.now left cut c.large_behind-self-inside.ensures
    ∙ c.self.view_is

pub returns-clause-count : goal.returns-clause-count
returns-clause-count c =
    let taken = ap length c.new-taken.ensures in
    let long = length-rows_of c.self.inside.layout c.split_at.result.0.now c.self.inside.large.now in
    taken ∙ long ∙ c.split_at.ensures.front_len

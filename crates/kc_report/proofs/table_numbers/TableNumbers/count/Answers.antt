use Rattle.std.proofs.Common.{◌≡◌, ◌+◌, ◌-◌, ◌^◌, ◌<◌, ◌≤◌, ◌++◌, ◌∷◌, [], cond, eqb, ⊎_elim, length, set, ap, sym, subst, arith}
use Rattle.std.proofs.lemmas.Bool.{cases_Bool}
use Rattle.std.proofs.lemmas.List.{get_or_read}
use Rattle.kc_report.specs.Numbers.{IsCountOf, NumbersSeen}
use Rattle.kc_report.proofs.NumbersLemmas.{counts_inside, counts_past, distinct_few, one_most, place_fits, unique_few, with_one}
use Rattle.kc_report.proofs.table_numbers.TableNumbers.count.Goals as goal

pub overflow_add-statistics : goal.overflow_add-statistics
overflow_add-statistics c =
    let (high, rows, is) = c.self.invariant in
    let one : c.from.result ≡ cond (eqb c.args.row.count 1) 1 0 =
    ⊎_elim (λ t. rw t (rw t at c.from.ensures)) (λ f. rw f (rw f at c.from.ensures)) (cases_Bool (eqb c.args.row.count 1)) in
    record { fits = omega (arith, unique_few is, one_most (eqb c.args.row.count 1), one) }

pub overflow_add-statistics-2 : goal.overflow_add-statistics-2
overflow_add-statistics-2 c =
    let (high, rows, is) = c.self.invariant in record { fits = omega (arith, distinct_few is) }

pub overflow_add-index_mut : goal.overflow_add-index_mut
overflow_add-index_mut c =
    let (high, rows, is) = c.self.invariant in
    let i = c.args.row.count - 1 in
    let within : i < length c.self.inside.words.items = omega (arith, c.if-count-len.true, c.len.ensures, c.requires.present) in
    let read = get_or_read c.self.inside.words.items i c.index_mut.result.now within c.index_mut.ensures.value 0 in
    record { fits = omega (arith, read, place_fits i 0 is within) }

pub invariant_of-self : goal.invariant_of-self
invariant_of-self c =
    let one : c.from.result ≡ cond (eqb c.args.row.count 1) 1 0 =
    ⊎_elim (λ t. rw t (rw t at c.from.ensures)) (λ f. rw f (rw f at c.from.ensures)) (cases_Bool (eqb c.args.row.count 1)) in
    let (high, rows, is) = c.self.invariant in
    let i = c.args.row.count - 1 in
    let items = c.self.inside.words.items in
    let within : i < length items = omega (arith, c.if-count-len.true, c.len.ensures, c.requires.present) in
    let read = get_or_read items i c.index_mut.result.now within c.index_mut.ensures.value 0 in
    let small = subst (λ (n : NumbersSeen). n.statistics.total + c.args.row.count ≤ 2 ^ 62) (sym c.self.view_is) c.requires.small in (
      high,
      rows ++ c.args.row ∷ [],
      counts_inside _ _ (record { is = is; some = c.requires.present; small = small })
          (omega (arith, within)) (ap (λ n. set items i (n + 1)) read)
          (with_one c.self.inside.statistics c.args.row.count one c.max-statistics.ensures),
    )

pub invariant_of-self-else-count-len : goal.invariant_of-self-else-count-len
invariant_of-self-else-count-len c =
    let one : c.from.result ≡ cond (eqb c.args.row.count 1) 1 0 =
    ⊎_elim (λ t. rw t (rw t at c.from.ensures)) (λ f. rw f (rw f at c.from.ensures)) (cases_Bool (eqb c.args.row.count 1)) in
    let (high, rows, is) = c.self.invariant in
    let small = subst (λ (n : NumbersSeen). n.statistics.total + c.args.row.count ≤ 2 ^ 62) (sym c.self.view_is) c.requires.small in (
      high,
      rows ++ c.args.row ∷ [],
      counts_past _ (record { is = is; some = c.requires.present; small = small })
          (omega (arith, c.if-count-len.false, c.len.ensures))
          (with_one c.self.inside.statistics c.args.row.count one c.max-statistics.ensures),
    )

pub returns-then-count-len : goal.returns-then-count-len
returns-then-count-len c high rows counted =
    let one : c.from.result ≡ cond (eqb c.args.row.count 1) 1 0 =
    ⊎_elim (λ t. rw t (rw t at c.from.ensures)) (λ f. rw f (rw f at c.from.ensures)) (cases_Bool (eqb c.args.row.count 1)) in
    let is = subst (IsCountOf high rows) (sym c.self.view_is) counted in
    let i = c.args.row.count - 1 in
    let items = c.self.inside.words.items in
    let within : i < length items = omega (arith, c.if-count-len.true, c.len.ensures, c.requires.present) in
    let read = get_or_read items i c.index_mut.result.now within c.index_mut.ensures.value 0 in
    let small = subst (λ (n : NumbersSeen). n.statistics.total + c.args.row.count ≤ 2 ^ 62) (sym c.self.view_is) c.requires.small in
    counts_inside _ _ (record { is = is; some = c.requires.present; small = small })
    (omega (arith, within)) (ap (λ n. set items i (n + 1)) read)
    (with_one c.self.inside.statistics c.args.row.count one c.max-statistics.ensures)

pub returns-else-count-len : goal.returns-else-count-len
returns-else-count-len c high rows counted =
    let one : c.from.result ≡ cond (eqb c.args.row.count 1) 1 0 =
    ⊎_elim (λ t. rw t (rw t at c.from.ensures)) (λ f. rw f (rw f at c.from.ensures)) (cases_Bool (eqb c.args.row.count 1)) in
    let is = subst (IsCountOf high rows) (sym c.self.view_is) counted in
    let small = subst (λ (n : NumbersSeen). n.statistics.total + c.args.row.count ≤ 2 ^ 62) (sym c.self.view_is) c.requires.small in
    counts_past _ (record { is = is; some = c.requires.present; small = small })
    (omega (arith, c.if-count-len.false, c.len.ensures))
    (with_one c.self.inside.statistics c.args.row.count one c.max-statistics.ensures)

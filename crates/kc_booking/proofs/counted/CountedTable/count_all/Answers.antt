use Rattle.std.proofs.Common.{◌∙◌, ap, arith, take}
use Rattle.kc_table.specs.Counts.{KeyCounts, count_at}
use Rattle.kc_booking.specs.Counted.{IsCounted}
use Rattle.kc_booking.proofs.CountedTables.{count_at-all_added, counted-same}
use Rattle.kc_booking.proofs.counted.CountedTable.count_all.Goals as goal

pub returns-in_default-clause-counts : goal.returns-in_default-clause-counts
returns-in_default-clause-counts g c = λ q.
    ap (λ (m : KeyCounts). count_at m q) c.in_default.ensures.all ∙ count_at-all_added c.args.keys.now _ q

pub take_back-requires-clause-there : goal.take_back-requires-clause-there
take_back-requires-clause-there g c = λ q.
    let counted = ap (λ (m : KeyCounts). count_at m q) c.in-Err.ensures.front ∙ count_at-all_added (take c.in-Err.refusal.counted c.args.keys.now) _ q in
    omega (arith, counted)

pub returns-clause-same_counts : goal.returns-clause-same_counts
returns-clause-same_counts g c = λ q.
    let counted = ap (λ (m : KeyCounts). count_at m q) c.in-Err.ensures.front ∙ count_at-all_added (take c.in-Err.refusal.counted c.args.keys.now) _ q in
    omega (arith, counted, c.take_back.ensures.counts q)

pub returns-clause-same_bins : goal.returns-clause-same_bins
returns-clause-same_bins g c =
    let old = c.args.self.now in
    let was : IsCounted (g.C.Counts.bits old.table) (g.C.Counts.counts old.table) old.bins old.total = rw (← c.self.view_is) c.self.invariant.counted in
    let bits = c.take_back.ensures.limits.same_bits ∙ c.in-Err.ensures.limits.same_bits in
    (counted-same bits (returns-clause-same_counts g c) was c.take_back.ensures.counted).0

pub returns-clause-same_total : goal.returns-clause-same_total
returns-clause-same_total g c =
    let old = c.args.self.now in
    let was : IsCounted (g.C.Counts.bits old.table) (g.C.Counts.counts old.table) old.bins old.total = rw (← c.self.view_is) c.self.invariant.counted in
    let bits = c.take_back.ensures.limits.same_bits ∙ c.in-Err.ensures.limits.same_bits in
    (counted-same bits (returns-clause-same_counts g c) was c.take_back.ensures.counted).1

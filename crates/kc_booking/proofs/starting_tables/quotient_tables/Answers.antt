use Rattle.std.proofs.Common.{◌≡◌, ◌+◌, ◌/◌, ◌++◌, ◌∷◌, [], All, List, ap, arith, rules, subst, sym}
use Rattle.std.specs.FinMap.{empty}
use Rattle.std.proofs.lemmas.List.Elements.{All-push}
use Rattle.kc_table.specs.QuotientTable.{counts_in}
use Rattle.kc_table.specs.declared.quotient_table.QuotientTable.{QuotientTable}
use Rattle.kc_booking.specs.Setup.{stripe_count, key_bits}
use Rattle.kc_booking.specs.Tables.{IsLeastLog, IsStartLog}
use Rattle.kc_booking.proofs.Logs.{IsLeastLog-zero, IsLeastLog-more}
use Rattle.kc_booking.proofs.starting_tables.quotient_tables.Goals as goal
use Rattle.kc_booking.proofs.starting_tables.quotient_tables.Goals.{then-last-eq0, else-last-eq0}

-- one more table with the same property
pushed : (P : QuotientTable → Type 0) (old new : List QuotientTable) (table : QuotientTable) → new ≡ old ++ table ∷ [] → All P old → P table → All P new
pushed P old new table is all one = subst (All P) (sym is) (All-push P old table all one)

pub loop-preserved : goal.loop-preserved
loop-preserved c =
    let old = c.loop.tables.items in
    let new = c.push.new.self.items in
    let is : new ≡ old ++ c.in_ok-new.field-0 ∷ [] = c.in_ok-push.ensures.items in
    record {
      one_each = search rules;
      bits = pushed (λ table. table.bits ≡ c.key_bits-bits.result) old new c.in_ok-new.field-0 is c.loop.invariant.bits c.in_ok-new.ensures.bits;
      max_log = pushed (λ table. table.max_log ≡ c.min-max_log.result) old new c.in_ok-new.field-0 is c.loop.invariant.max_log c.in_ok-new.ensures.max_log;
      log = pushed (λ table. table.log ≡ c.clamp-log.result) old new c.in_ok-new.field-0 is c.loop.invariant.log c.in_ok-new.ensures.log;
      empty = pushed (λ table. counts_in table.slots ≡ empty) old new c.in_ok-new.field-0 is c.loop.invariant.empty c.in_ok-new.ensures.empty;
    }

pub returns-clause-log : goal.returns-clause-log
returns-clause-log c =
    let stripes = c.stripes.ensures.value in
    let setup = c.args.setup.now in
    let last = ap (λ n. n / c.stripes.result) c.saturating_sub.ensures in
    let start : IsStartLog (stripe_count setup) c.args.size (key_bits setup) c.clamp-log.result = elim c.if-last-eq0.branch [
      | then-last-eq0 w ↦ (
        0,
        subst (λ n. IsLeastLog n c.args.size 0) stripes (IsLeastLog-zero c.args.size c.stripes.result _ c.stripes.ensures.some last w.if-last-eq0.true),
        omega (arith, c.clamp-log.ensures, w.least_log-is, c.min.ensures, c.min-max_log.ensures, c.key_bits-bits.ensures.value),
      )
      | else-last-eq0 w ↦ (
        w.ilog2.result + 1,
        subst (λ n. IsLeastLog n c.args.size (w.ilog2.result + 1)) stripes
            (IsLeastLog-more c.args.size c.stripes.result _ w.ilog2.result c.stripes.ensures.some last w.ilog2.ensures.power_le w.ilog2.ensures.next_power_gt),
        omega (arith, c.clamp-log.ensures, w.least_log-is, c.min.ensures, c.min-max_log.ensures, c.key_bits-bits.ensures.value),
      )
    ] in
    λ k d within. subst (IsStartLog (stripe_count setup) c.args.size (key_bits setup)) (sym (c.loop.invariant.log k d within)) start

use Rattle.std.proofs.Common.{◌≡◌, [], ◌∷◌, ◌++◌, ap, ◌∙◌, arith}
use Rattle.std.proofs.lemmas.List.Elements.{All-push, All-same}
use Rattle.std.specs.FinMap.{empty}
use Rattle.kc_booking.specs.Setup.{key_bits}
use Rattle.kc_table.specs.declared.limited_counts.LimitedCounts.{LimitedCounts}
use Rattle.kc_run_tests.proofs.whole_runs.refusing_tables.Goals as goal

pub loop-preserved : goal.loop-preserved
loop-preserved c =
    let i = c.loop.invariant in
    let new = c.new.ensures in
    record {
      one_each = omega (arith, c.in_ok-push.ensures.len, i.one_each);
      tables = All-same (λ (table : LimitedCounts). (table.counts ≡ empty) × (table.bits ≡ key_bits c.args.setup.now)) c.push.new.self.items (c.loop.tables.items ++ c.new.result ∷ []) c.in_ok-push.ensures.items
          (All-push (λ (table : LimitedCounts). (table.counts ≡ empty) × (table.bits ≡ key_bits c.args.setup.now)) c.loop.tables.items c.new.result i.tables
          (ap (λ (table : LimitedCounts). table.counts) new, ap (λ (table : LimitedCounts). table.bits) new ∙ c.key_bits.ensures.value));
    }

use Rattle.std.proofs.Common.{sym, subst, ◌≤◌, ◌^◌}
use Rattle.kc_command.specs.Settings.{AreStripes}
use Rattle.kc_command.proofs.SettingsLemmas.{lowered_stripes, lowered-few}
use Rattle.kc_command.proofs.settings.Options.with_stripes.Goals as goal

pub invariant_of-result : goal.invariant_of-result
invariant_of-result c =
    let k = c.options.inside.k in
    let kept = c.options.invariant in
    record {
      size_low = kept.size_low;
      size_high = kept.size_high;
      workers_low = kept.workers_low;
      workers_high = kept.workers_high;
      floor_low = kept.floor_low;
      floor_high = kept.floor_high;
      stripes = subst AreStripes (sym c.lowered_stripes.ensures) (lowered_stripes k c.args.stripes c.requires);
      stripes_few = subst (λ n. n ≤ 4 ^ k) (sym c.lowered_stripes.ensures) (lowered-few k c.args.stripes);
      batch_low = kept.batch_low;
      batch_high = kept.batch_high;
      lower = kept.lower;
      upper = kept.upper;
      high_low = kept.high_low;
      high_high = kept.high_high;
    }

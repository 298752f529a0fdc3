use Rattle.std.proofs.Common.{sym, subst, refl, lit≤, ◌≤◌, ◌^◌}
use Rattle.kc_report.specs.declared.dump.Dump.{Dump}
use Rattle.kc_command.specs.Settings.{AreStripes}
use Rattle.kc_command.proofs.SettingsLemmas.{lowered_stripes, lowered-few}
use Rattle.kc_command.proofs.settings.Options.new.Goals as goal

pub invariant_of-result : goal.invariant_of-result
invariant_of-result c = record {
  size_low = lit≤ tt;
  size_high = lit≤ tt;
  workers_low = lit≤ tt;
  workers_high = lit≤ tt;
  floor_low = lit≤ tt;
  floor_high = lit≤ tt;
  stripes = subst AreStripes (sym c.lowered_stripes.ensures) (lowered_stripes c.args.k 16 (record { power = (4, refl); at_most = lit≤ tt }));
  stripes_few = subst (λ n. n ≤ 4 ^ c.args.k) (sym c.lowered_stripes.ensures) (lowered-few c.args.k 16);
  batch_low = lit≤ tt;
  batch_high = lit≤ tt;
  lower = subst (λ (d : Dump). d.lower ≤ 2 ^ 62) (sym c.in_lines.ensures) (lit≤ tt);
  upper = subst (λ (d : Dump). d.upper ≤ 2 ^ 62) (sym c.in_lines.ensures) (lit≤ tt);
  high_low = lit≤ tt;
  high_high = lit≤ tt;
}

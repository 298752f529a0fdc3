use Rattle.std.proofs.Common.{◌≡◌, ◌≢◌, ℕ, ◌-◌, ◌<◌, ◌≤◌, length}
use Rattle.kc_table.specs.GreatCounts.{place_at, bucket_of}
use Rattle.kc_table.proofs.great_counts.entry_of.Given as goal

abbrev pub invariant-loop-link : goal.invariant-loop-link
invariant-loop-link l = record {
  within : l.link ≤ length l.entries;
  same : l.link ≢ 0 → bucket_of (length l.heads) (place_at l.entries (l.link - 1)) ≡ bucket_of (length l.heads) l.place;
  none : (i : ℕ) → l.link ≤ i → i < length l.entries → place_at l.entries i ≢ l.place;
}

abbrev pub decreases-loop-link : goal.decreases-loop-link
decreases-loop-link l = l.link

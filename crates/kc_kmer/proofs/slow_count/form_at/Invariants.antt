use Rattle.std.proofs.Common.{◌≡◌, ◌-◌, true}
use Rattle.std.specs.List.{list_all, range_with_len}
use Rattle.kc_kmer.specs.Occurrences.{is_usable}
use Rattle.kc_kmer.proofs.slow_count.form_at.Given as goal

abbrev pub invariant-loop-i : goal.invariant-loop-i
invariant-loop-i l = list_all (λ j. is_usable l.rule l.read j) (range_with_len l.position (l.i - l.position)) ≡ true

use Rattle.std.proofs.Common.{◌≡◌, ◌≤◌, length, vec_capacity}
use Rattle.kc_word.proofs.list_starts.starts_in.Given as goal

abbrev pub invariant-loop-prefix : goal.invariant-loop-prefix
invariant-loop-prefix l = record {
  within : l.start ≤ length l.words;
  long : length l.starts.items ≡ l.prefix;
  room : vec_capacity l.starts ≡ l.fn.prefixes;
}

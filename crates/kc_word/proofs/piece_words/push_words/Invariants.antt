use Rattle.std.proofs.Common.{◌≡◌, ◌++◌, ◌-◌, length}
use Rattle.kc_word.specs.Walking.{words_left}
use Rattle.kc_word.proofs.piece_words.push_words.Given as goal

abbrev pub invariant-loop-roll : goal.invariant-loop-roll
invariant-loop-roll l = record {
  words : l.words.items ++ words_left l.roll ≡ l.fn.words.items ++ words_left l.fn.roll;
  bytes : l.roll.bytes ≡ l.fn.roll.bytes;
}

abbrev pub decreases-loop-roll : goal.decreases-loop-roll
decreases-loop-roll l = length l.roll.bytes - l.roll.taken

use Rattle.std.proofs.Common.{◌≡◌, ◌-◌, length}
use Rattle.kc_word.specs.Walking.{words_left}
use Rattle.kc_word.proofs.piece_words.Roll.next_word.Given as goal

abbrev pub invariant-loop-self : goal.invariant-loop-self
invariant-loop-self l = record {
  rule : l.self.rule ≡ l.fn.self.rule;
  words : words_left l.self ≡ words_left l.fn.self;
}

abbrev pub decreases-loop-self : goal.decreases-loop-self
decreases-loop-self l = length l.self.bytes - l.self.taken

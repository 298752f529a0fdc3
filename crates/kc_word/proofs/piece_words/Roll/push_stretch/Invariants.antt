use Rattle.std.proofs.Common.{◌≡◌, ◌+◌, ◌++◌}
use Rattle.kc_word.specs.Walking.{words_left, IsWalking}
use Rattle.kc_word.proofs.piece_words.Roll.push_stretch.Given as goal

abbrev pub invariant-loop-i : goal.invariant-loop-i
invariant-loop-i l = record {
  walks : IsWalking (record { rule = l.fn.self.rule; bytes = l.fn.self.bytes; taken = l.fn.self.taken + l.i }) l.rolled;
  words : l.words.items ++ words_left (record { rule = l.fn.self.rule; bytes = l.fn.self.bytes; taken = l.fn.self.taken + l.i })
      ≡ l.fn.words.items ++ words_left l.fn.self;
}

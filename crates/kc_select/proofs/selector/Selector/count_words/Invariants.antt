use Rattle.std.proofs.Common.{◌≡◌, length, ◌+◌, ◌≤◌, ◌<◌, ◌^◌}
use Rattle.kc_word.specs.Walking.{words_left}
use Rattle.kc_select.specs.Solid.{words_for, solid_count, solid_in}
use Rattle.kc_select.proofs.selector.Selector.count_words.Given as goal

abbrev pub invariant-words : goal.invariant-words
invariant-words l =
    let tally = l.fn.self.tally in
    let rule = l.fn.self.rule in
    record {
      words : l.counted.words + length (words_left l.walk) ≡ length (words_for tally rule l.fn.read);
      solid : l.counted.solid + solid_count tally rule (words_left l.walk) ≡ solid_in tally rule l.fn.read;
      fewer : l.counted.solid ≤ l.counted.words;
      few : l.counted.words + length (words_left l.walk) < 2 ^ 64;
      k : l.walk.rule.k ≡ tally.k;
    }

abbrev pub decreases-words : goal.decreases-words
decreases-words l = length (words_left l.walk)

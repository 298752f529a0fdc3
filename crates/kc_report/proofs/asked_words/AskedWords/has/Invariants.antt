use Rattle.std.proofs.Common.{◌≡◌, ◌<◌, ◌-◌, length, take}
use Rattle.std.specs.Prelude.{All}
use Rattle.kc_report.proofs.asked_words.AskedWords.has.Given as goal

abbrev pub invariant-lesser : goal.invariant-lesser
invariant-lesser l = record {
  below : All (λ asked. asked < l.word) (take l.self-inside.passed l.self-inside.words.items);
  same : l.self-inside.words.items ≡ l.fn.self.words;
}

abbrev pub decreases-lesser : goal.decreases-lesser
decreases-lesser l = length l.self-inside.words.items - l.self-inside.passed

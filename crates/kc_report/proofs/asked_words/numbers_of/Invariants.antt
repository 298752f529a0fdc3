use Rattle.std.proofs.Common.{map}
use Rattle.std.specs.Prelude.{string_bytes}
use Rattle.kc_report.proofs.AskedLemmas.{Numbered}
use Rattle.kc_report.proofs.asked_words.numbers_of.Given as goal

abbrev pub invariant-loop-word : goal.invariant-loop-word
invariant-loop-word l = Numbered l.k l.both (map string_bytes l.asked) l.word-index l.numbers.items

use Rattle.std.proofs.Common.{◌≡◌, ◌++◌, length, map}
use Rattle.std.specs.Prelude.{string_bytes}
use Rattle.kc_report.specs.WordList.{words_in}
use Rattle.kc_report.proofs.word_list.push_words.Given as goal

abbrev pub invariant-lines : goal.invariant-lines
invariant-lines l = map string_bytes l.words.items ++ words_in l.rest
    ≡ map string_bytes l.fn.words.items ++ words_in l.text

abbrev pub decreases-lines : goal.decreases-lines
decreases-lines l = length l.rest

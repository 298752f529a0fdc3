use Rattle.std.proofs.Common.{◌≡◌, ◌-◌, ◌++◌, length, drop}
use Rattle.kc_kmer.specs.Occurrences.{words_of}
use Rattle.kc_word.specs.Cutting.{as_reads}
use Rattle.kc_word.specs.Walking.{words_left}
use Rattle.kc_word.proofs.walk.WalkIterator.next.Given as goal

abbrev pub invariant-loop-word : goal.invariant-loop-word
invariant-loop-word l =
    words_left l.self-inside.roll ++ words_of l.self-inside.roll.rule (as_reads (drop l.self-inside.next l.self-inside.pieces.now)) ≡ l.fn.self

abbrev pub decreases-loop-word : goal.decreases-loop-word
decreases-loop-word l = length l.self-inside.pieces.now - l.self-inside.next

use Rattle.std.proofs.Common.{take}
use Rattle.kc_word.proofs.OnlyLemmas.{HasWords}
use Rattle.kc_word.proofs.only.words_in_reads.Given as goal

abbrev pub invariant-loop-read : goal.invariant-loop-read
invariant-loop-read l = HasWords l.rule (take l.read-index l.reads) l.words.items

-- Reads that are taken from a source while those before them are cut: this project's own.
use Rattle.std.specs.Prelude.{◌≡◌, ◌≤◌, ◌+◌, ℕ, Bool, true, false, Result, Ok, Err, IfOk, None, List, ◌++◌, length}
use Rattle.kc_io.specs.Sources.{Seen}
use Rattle.kc_fastx.specs.Reads.{Read}
use Rattle.kc_fastx.specs.Reading.{Stand, HasGiven, GivesNext, MeetsFault}
use Rattle.kc_fastx.specs.declared.read_faults.FastxFault.{FastxFault}
use Rattle.kc_kmer.specs.Rule.{CountingRule}
use Rattle.kc_word.specs.OpenCutting.{OpenCutting, HasTaken}
use Rattle.kc_tool.specs.Tallies.{pieces_of}

-- what became of a reader that gave these reads: more may come; or they are all reads of all bytes; or a fault
abbrev pub GivesSome : Seen → Seen → ℕ → List Read → Stand → Result Bool FastxFault → Type 0
GivesSome start now limit reads stand (Ok true) = HasGiven start now limit reads stand
GivesSome start now limit reads stand (Ok false) = GivesNext start now limit reads stand (Ok None)
GivesSome start now limit reads stand (Err fault) = MeetsFault start now limit stand fault

-- A reader gave these reads after those that it had given. If more may come, it gave some.
pub record ReadsMore (before after : Seen) (old new : Stand) (more : List Read) (result : Result Bool FastxFault)
    : Type 0 where
  pub given : (start : Seen) (limit : ℕ) (reads : List Read) → HasGiven start before limit reads old
      → GivesSome start after limit (reads ++ more) new result
  pub used : IfOk result (λ any. old.used + length more ≤ new.used)
  pub some : result ≡ Ok true → 1 ≤ length more

-- the pieces of the reads were cut by this rule after those that were cut before
pub record TakesReads (rule : CountingRule) (reads : List Read) (before after : OpenCutting) : Type 0 where
  pub length_of_words : after.k ≡ before.k
  pub size : after.size ≡ before.size
  pub behind : (pieces : List (List ℕ)) → HasTaken before pieces → HasTaken after (pieces ++ pieces_of rule reads)

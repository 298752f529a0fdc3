-- A read as it is packed: the codes of its usable bases, and where bases are not usable.
-- Source: this project's own.
use Rattle.std.specs.Prelude.{◌≡◌, ℕ, Bool, false, ◌+◌, ◌%◌, ◌<◌, List, map, slice_index, nat_le, if◌then◌else◌}
use Rattle.std.specs.List.{range_with_len}
use Rattle.std.specs.Char.{to_ascii_uppercase}
use Rattle.kc_fastx.specs.Reads.{Read}
use Rattle.kc_kmer.specs.Letter.{code}
use Rattle.kc_kmer.specs.Rule.{CountingRule}
use Rattle.kc_kmer.specs.Occurrences.{is_usable}
use Rattle.kc_word.specs.Packed.{code_in}
use Rattle.kc_word.specs.declared.runs.Run.{Run}
use Rattle.kc_word.specs.Runs.{is_in_runs, AreRuns}

-- the code of base j if it is usable, otherwise 4
abbrev pub usable_code : CountingRule → Read → ℕ → ℕ
usable_code rule read j = if is_usable rule read j then code (to_ascii_uppercase (slice_index read.bases j)) else 4

-- the first n codes, 0 for a base that is not usable
unfoldable pub packed_codes : CountingRule → Read → ℕ → List ℕ
packed_codes rule read n = map (λ j. usable_code rule read j % 4) (range_with_len 0 n)

-- a number has `count` codes from index `from` on; if `has_gap` is false, all of these bases are usable
pub record IsCodeBlock (rule : CountingRule) (read : Read) (from count number : ℕ) (has_gap : Bool) : Type 0 where
  pub codes : (i : ℕ) → i < count → code_in number i ≡ usable_code rule read (from + i) % 4
  pub usable : has_gap ≡ false → (i : ℕ) → i < count → usable_code rule read (from + i) < 4

-- the runs are those of the bases that are not usable among the first n
pub record AreGaps (rule : CountingRule) (read : Read) (n : ℕ) (runs : List Run) : Type 0 where
  pub rising : AreRuns 0 n runs
  pub gaps : (i : ℕ) → i < n → is_in_runs runs i ≡ nat_le 4 (usable_code rule read i)

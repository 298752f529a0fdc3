-- Lines that end with line feeds, and the search for one in the text of a source.
use Rattle.std.specs.Prelude.{◌≡◌, ◌≢◌, ◌⊎◌, ℕ, ◌≤◌, List, [], ◌∷◌, ◌++◌, length, take, Result, Ok, Err}
use Rattle.std.specs.Prelude.{Option, Some, None}
use Rattle.kc_gzip.specs.declared.unpacked_intakes.TakeFault.{TakeFault}
use Rattle.kc_io.specs.Sources.{Seen}
use Rattle.kc_gzip.specs.Intakes.{Ended, Filled, FillingFails, Unread}
use Rattle.kc_report.specs.Bytes.{line_feed}
use Rattle.kc_report.specs.Table.{ended}
use Rattle.kc_report.specs.TableReading.{HasLine}

-- none of the bytes is `stop`
abbrev pub Without : ℕ → List ℕ → Type 0
Without stop [] = Unit {0}
Without stop (b ∷ bs) = (b ≢ stop) × Without stop bs

-- one line with its line feed, and no other line feed
pub record IsLine (line : List ℕ) : Type 0 where
  pub bytes : List ℕ
  pub whole : line ≡ ended bytes
  pub one : Without line_feed bytes

-- how many bytes a block has
abbrev pub block_size : ℕ
block_size = 65536

-- except for at most a block at their end, the bytes have no whole line
pub record EndsWithBlock (bytes : List ℕ) : Type 0 where
  pub front : List ℕ
  pub block : List ℕ
  pub split : bytes ≡ front ++ block
  pub no_line : ¬ HasLine front
  pub few : length block ≤ block_size

-- Bytes were taken only if there was no whole line, block by block until there was one.
abbrev pub CameForLine : Seen → Seen → Unread → Unread → Type 0
CameForLine old new before after =
    ((new ≡ old) × (after ≡ before)) ⊎ ((¬ HasLine before.bytes) × EndsWithBlock after.bytes)

-- The search for a line in the unread bytes, for which more may have been taken. Ok(Some(n)): the first n of them are a
-- line. Ok(None): the whole text of the source came, and has no line. Otherwise, why no more could be taken, while
-- there was no line.
abbrev pub FindsLine : Seen → Seen → Unread → Unread → Result (Option ℕ) TakeFault → Type 0
FindsLine old new before after (Ok (Some n)) = Filled old new before after × (n ≤ length after.bytes)
    × IsLine (take n after.bytes) × CameForLine old new before after
FindsLine old new before after (Ok None) = Filled old new before after × Ended after × (¬ HasLine after.bytes)
FindsLine old new before after (Err why) = FillingFails old new before why × (¬ HasLine before.bytes)

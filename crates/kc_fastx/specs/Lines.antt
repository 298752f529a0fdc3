-- The lines of a byte string (our formats page).
use Rattle.std.specs.Prelude.{◌≡◌, ℕ, ◌+◌, ◌≤◌, ◌<◌, Bool, true, false, ◌==◌, List, [], ◌∷◌, ◌++◌, length, map}
use Rattle.std.specs.Prelude.{slice_index, MatchBool}
use Rattle.std.specs.List.{slice_split}
use Rattle.std.specs.Str.Lines.{strip_carriage_return}

-- the byte that ends a line
abbrev pub line_feed : ℕ
line_feed = 10

-- a line, without its line end
abbrev pub Line : Type 0
Line = List ℕ

-- the parts without an empty last one
abbrev pub without_empty_last : List (List ℕ) → List (List ℕ)
without_empty_last [] = []
without_empty_last ([] ∷ []) = []
without_empty_last ((b ∷ bs) ∷ []) = (b ∷ bs) ∷ []
without_empty_last (part ∷ next ∷ more) = part ∷ without_empty_last (next ∷ more)

-- the parts between line feeds, without an empty last one; each loses one carriage return at its end
abbrev pub lines : List ℕ → List Line
lines bytes = map strip_carriage_return (without_empty_last (slice_split (λ b. b == line_feed) bytes))

-- whether the line begins with this byte
abbrev pub begins_with : ℕ → Line → Bool
begins_with byte [] = false
begins_with byte (b ∷ bs) = b == byte

-- whether a line is left, and begins with this byte
abbrev pub next_begins_with : ℕ → List Line → Bool
next_begins_with byte [] = false
next_begins_with byte (line ∷ ls) = begins_with byte line

-- whether no line is left, or the next one begins with the byte
abbrev pub ends_or_begins_with : ℕ → List Line → Bool
ends_or_begins_with byte [] = true
ends_or_begins_with byte (line ∷ ls) = begins_with byte line

-- the lines from the first one that isn't blank
abbrev pub skip_blanks : List Line → List Line
skip_blanks [] = []
skip_blanks ([] ∷ ls) = skip_blanks ls
skip_blanks ((b ∷ bs) ∷ ls) = (b ∷ bs) ∷ ls

-- whether the bytes are none, or the last of them is a line feed
abbrev pub ends_lines : List ℕ → Bool
ends_lines [] = true
ends_lines (b ∷ []) = b == line_feed
ends_lines (b ∷ c ∷ bs) = ends_lines (c ∷ bs)

-- a prefix of the bytes whose lines are known to be whole: all bytes if no more can come, otherwise up to a line feed
pub record HasWhole (ended : Bool) (bytes whole : List ℕ) : Type 0 where
  pub tail : List ℕ
  pub split : bytes ≡ whole ++ tail
  pub closed : MatchBool ended (tail ≡ []) (ends_lines whole ≡ true)

-- the prefix up to the last line feed
pub record HasLongestWhole (bytes whole : List ℕ) : Type 0 where
  pub has_whole : HasWhole false bytes whole
  pub last : (i : ℕ) → length whole ≤ i → i < length bytes → ¬ (slice_index bytes i ≡ line_feed)

-- the byte is at none of the first `count` places
abbrev pub IsNotAmong : ℕ → List ℕ → ℕ → Type 0
IsNotAmong byte bytes count = (i : ℕ) → i < count → ¬ (slice_index bytes i ≡ byte)

-- the state of a reader of lines: how many lines it has taken, the lines that are left, and their bytes
pub record Cursor : Type 0 where
  pub taken : ℕ
  pub left : List Line
  pub bytes : List ℕ

-- the rest follows some of the bytes
pub record IsBehind (bytes rest : List ℕ) : Type 0 where
  pub front : List ℕ
  pub split : bytes ≡ front ++ rest

-- from `old` to `new`, no more lines than bytes were taken
pub record Passes (old new : Cursor) : Type 0 where
  pub behind : IsBehind old.bytes new.bytes
  pub few : new.taken ≤ old.taken + length behind.front

-- how many lines there are, with those that were taken
abbrev pub line_count : Cursor → ℕ
line_count cursor = cursor.taken + length cursor.left

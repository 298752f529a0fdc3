-- What a source has answered since a reader took it over.
use Rattle.std.specs.Prelude.{◌≡◌, ◌≢◌, ◌+◌, [], ◌++◌, length, map, IfSome}
use Rattle.std.specs.Io.KnownBytes.{Consumes}
use Rattle.kc_io.specs.History.{History}
use Rattle.kc_io.specs.Sources.{Seen}

-- the history of a source that had the history `before`, and then answered `since`
abbrev pub joined : History → History → History
joined before since = record {
  bytes = before.bytes ++ since.bytes;
  ends = before.ends ++ map (λ n. length before.bytes + n) since.ends;
  failures = before.failures + since.failures;
  flushed = before.flushed;
  asked = before.asked ++ since.asked;
}

-- A source that was seen as `old` is now seen as `new`, and has answered `since` in between. It gave a prefix of the
-- bytes that it had left; all of them, if it returned an end.
pub record HasAnswered (old new : Seen) (since : History) : Type 0 where
  pub history : new.history ≡ joined old.history since
  pub consumed : Consumes old.left new.left since.bytes
  pub whole : since.ends ≢ [] → IfSome old.left (λ bytes. since.bytes ≡ bytes)

-- what the source has answered in between follows what it had answered before
abbrev pub Continues : Seen → History → Seen → History → Type 0
Continues old before new after = (start : Seen) → HasAnswered start old before → HasAnswered start new after

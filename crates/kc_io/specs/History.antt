-- The history of a stream of bytes: it records each call of a source or a sink, and what it returned. It exists only in
-- contracts, and records what went through a stream whose bytes are not known.
use Rattle.std.specs.Prelude.{ℕ, ◌+◌, ◌&&◌, ◌==◌, Bool, List, [], ◌∷◌, ◌++◌, length, take, nat_lt, if◌then◌else◌}
use Rattle.std.specs.Prelude.{Result, Ok, Err}
use Rattle.kc_io.specs.declared.failures.Failed.{Failed}

pub record History : Type 0 where
  -- the bytes that a source gave or a sink took, in order
  pub bytes : List ℕ
  -- for each end, the number of bytes before it; an end is a call that moved no byte although it asked for some
  pub ends : List ℕ
  -- how many calls failed
  pub failures : ℕ
  -- how many of the bytes were flushed
  pub flushed : ℕ
  -- how many bytes each read or write asked for
  pub asked : List ℕ

-- before the first call
abbrev pub no_history : History
no_history = record { bytes = []; ends = []; failures = 0; flushed = 0; asked = [] }

-- a read or a write moved no byte although it asked for some
abbrev pub is_end : ℕ → List ℕ → Bool
is_end n slice = n == 0 && nat_lt 0 (length slice)

-- after a read into this slice, or a write from it: Ok(n) moved its first n bytes
abbrev pub after : History → Result ℕ Failed → List ℕ → History
after h (Ok n) slice = record {
  bytes = h.bytes ++ take n slice;
  ends = if is_end n slice then h.ends ++ length h.bytes ∷ [] else h.ends;
  failures = h.failures;
  flushed = h.flushed;
  asked = h.asked ++ length slice ∷ [];
}
after h (Err failed) slice = record {
  bytes = h.bytes;
  ends = h.ends;
  failures = h.failures + 1;
  flushed = h.flushed;
  asked = h.asked ++ length slice ∷ [];
}

-- after a flush: if it succeeded, all bytes taken so far are flushed
abbrev pub after_flush : History → Result (Unit {0}) Failed → History
after_flush h (Ok done) = record h { flushed = length h.bytes }
after_flush h (Err failed) = record h { failures = h.failures + 1 }

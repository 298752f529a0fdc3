-- How a reader or a writer of std answers a call. Source: the documentation of std's `io::ErrorKind::Interrupted`
-- ("interrupted operations can typically be retried").
use Rattle.std.specs.Prelude.{◌≡◌, ◌⊎◌, ℕ, ◌+◌, ◌-◌, ◌<◌, ◌^◌, ◌&&◌, Bool, true, false, nat_lt, Option, None, Some}
use Rattle.std.specs.Prelude.{Result, Ok, Err, IsErr, if◌then◌else◌}
use Rattle.std.specs.IoError.{error_kind}
use Rattle.std.specs.declared.io.Error.{Error}
use Rattle.std.specs.declared.io.ErrorKind.{ErrorKind}
use Rattle.std.specs.declared.io.ErrorKind.TheVariants.{Interrupted}
use Rattle.kc_io.specs.declared.failures.Failed.{Failed}
use Rattle.kc_io.specs.Sinks.{Written}
use Rattle.kc_io.specs.Sources.{Seen}

abbrev pub is_interrupted : ErrorKind → Bool
is_interrupted Interrupted = true
is_interrupted _ = false

-- The answer; or None if the call was interrupted and is repeated, which may happen `tries` times more.
abbrev pub settled : {A : Type 0} → Result A Error → ℕ → Option (Result A Failed)
settled (Ok x) tries = Some (Ok x)
settled (Err error) tries = if is_interrupted (error_kind error) && nat_lt 0 tries then None else Some (Err (record {}))

-- how a stream answered the calls of an adapter
pub record Calls : Type 0 where
  -- how many were interrupted
  pub interrupted : ℕ
  -- how many were not
  pub answered : ℕ

-- before the first call of the stream
abbrev pub no_calls : Calls
no_calls = record { interrupted = 0; answered = 0 }

abbrev pub and_interruption : Calls → Calls
and_interruption calls = record calls { interrupted = calls.interrupted + 1 }

abbrev pub and_answer : Calls → Calls
and_answer calls = record calls { answered = calls.answered + 1 }

-- after a call with this answer
abbrev pub after_call : {A : Type 0} → Calls → Result A Error → Calls
after_call calls (Ok x) = and_answer calls
after_call calls (Err error) = if is_interrupted (error_kind error) then and_interruption calls else and_answer calls

-- how many interruptions in a row are tolerated
abbrev pub most_tries : ℕ
most_tries = 2 ^ 64 - 1

-- One call of the stream, with `tries` interruptions still tolerated. Either it was interrupted and is repeated, with
-- one interruption fewer tolerated; or it was answered otherwise, or was interrupted once too often and has failed, and
-- the number tolerated starts again.
abbrev pub Hears : {A : Type 0} → Calls → ℕ → Calls → ℕ → Option (Result A Failed) → Type 0
Hears old tries new left None = (new ≡ and_interruption old) × (left + 1 ≡ tries)
Hears old tries new left (Some answer) =
    ((new ≡ and_answer old) ⊎ ((new ≡ and_interruption old) × (tries ≡ 0) × IsErr answer)) × (left ≡ most_tries)

-- One call of an adapter. It called its stream until a call wasn't interrupted, after fewer than 2^64 that were; or
-- 2^64 calls were interrupted, and it failed.
pub record Settles {A : Type 0} (old new : Calls) (answer : Result A Failed) : Type 0 where
  pub more : ℕ
  pub interrupted : new.interrupted ≡ old.interrupted + more
  pub settled : ((more < 2 ^ 64) × (new.answered ≡ old.answered + 1))
      ⊎ ((more ≡ 2 ^ 64) × (new.answered ≡ old.answered) × IsErr answer)

-- what proofs see of a source over a reader of std, and the history of its reader's calls
pub record ReaderSeen : Type 0 where
  pub seen : Seen
  pub calls : Calls

-- what proofs see of a sink over a writer of std, and the history of its writer's calls
pub record WriterSeen : Type 0 where
  pub seen : Written
  pub calls : Calls

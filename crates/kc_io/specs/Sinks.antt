-- What a sink has taken. Source: our formats page ("Refusals").
use Rattle.std.specs.Prelude.{◌≡◌, ℕ, ◌<◌, ◌++◌, List, length, Option, Result, Ok, Err, if◌then◌else◌}
use Rattle.std.specs.Io.KnownBytes.{Appends}
use Rattle.kc_io.specs.declared.failures.Failed.{Failed}
use Rattle.kc_io.specs.History.{History, is_end}

pub record Written : Type 0 where
  -- the bytes written to the sink, if they are known
  pub bytes : Option (List ℕ)
  pub history : History

-- The result of a write: it fails if it takes no byte of a text that has bytes.
abbrev pub write_answer : Result ℕ Failed → List ℕ → Result ℕ Failed
write_answer (Ok n) text = if is_end n text then Err (record {}) else Ok n
write_answer (Err failed) text = Err failed

-- The sink took the text, after what it took before, and nothing failed.
pub record HasTaken (old new : Written) (text : List ℕ) : Type 0 where
  pub bytes : Appends old.bytes new.bytes text
  pub taken : new.history.bytes ≡ old.history.bytes ++ text
  pub failures : new.history.failures ≡ old.history.failures

-- The text is written: the sink took it, and a flush covered all bytes taken so far.
pub record HasWritten (old new : Written) (text : List ℕ) : Type 0 where
  pub taken : HasTaken old new text
  pub flushed : new.history.flushed ≡ length new.history.bytes

-- The sink failed after it took a beginning of the text, after what it took before.
pub record HasBegun (old new : Written) (text : List ℕ) : Type 0 where
  pub front : List ℕ
  pub rest : List ℕ
  pub whole : text ≡ front ++ rest
  pub bytes : Appends old.bytes new.bytes front
  pub taken : new.history.bytes ≡ old.history.bytes ++ front
  pub failures : old.history.failures < new.history.failures

-- A call that hands a text to the sink: if it returns Ok, the sink took the text; otherwise the sink failed in this
-- call, and took a beginning of the text.
abbrev pub HandsOver : {A E : Type 0} → Written → Written → Result A E → List ℕ → Type 0
HandsOver old new (Ok done) text = HasTaken old new text
HandsOver old new (Err fault) text = HasBegun old new text

-- A call that writes a text: if it returns Ok, the text is written; otherwise the sink failed in this call, and took a
-- beginning of the text.
abbrev pub Writes : {A E : Type 0} → Written → Written → Result A E → List ℕ → Type 0
Writes old new (Ok done) text = HasWritten old new text
Writes old new (Err fault) text = HasBegun old new text

-- The sink took a prefix of the bytes, and the rest is left.
pub record Drains (old new : Written) (bytes left : List ℕ) : Type 0 where
  pub front : List ℕ
  pub taken : HasTaken old new front
  pub split : bytes ≡ front ++ left

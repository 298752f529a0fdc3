-- What proofs see of a source of bytes.
use Rattle.std.specs.Prelude.{ℕ, List, Option}
use Rattle.kc_io.specs.History.{History}

pub record Seen : Type 0 where
  -- the bytes that are left, if they are known
  pub left : Option (List ℕ)
  pub history : History

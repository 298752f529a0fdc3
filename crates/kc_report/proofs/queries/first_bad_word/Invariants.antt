use Rattle.std.proofs.Common.{map, take}
use Rattle.std.specs.List.{All}
use Rattle.std.specs.Prelude.{string_bytes}
use Rattle.kc_report.specs.Querying.{IsAskable}
use Rattle.kc_report.proofs.queries.first_bad_word.Given as goal

abbrev pub invariant-loop-i : goal.invariant-loop-i
invariant-loop-i l = All (IsAskable l.k) (take l.i (map string_bytes l.words))

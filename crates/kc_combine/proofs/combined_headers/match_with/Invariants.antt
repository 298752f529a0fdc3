use Rattle.std.proofs.Common.{All, take}
use Rattle.kc_combine.specs.CombinedHeaders.{Match}
use Rattle.kc_combine.proofs.combined_headers.match_with.Given as goal

abbrev pub invariant-headers : goal.invariant-headers
invariant-headers l = All (λ other. Match l.combining l.header other) (take l.other-index l.headers)

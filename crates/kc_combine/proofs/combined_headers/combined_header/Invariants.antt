use Rattle.std.proofs.Common.{All, take}
use Rattle.kc_combine.specs.CombinedHeaders.{Match}
use Rattle.kc_combine.proofs.combined_headers.combined_header.Given as goal

abbrev pub invariant-headers : goal.invariant-headers
invariant-headers l = All (λ header. All (λ other. Match l.combining header other) l.headers) (take l.header-index l.headers)

use Rattle.std.proofs.Common.{◌≢◌, All, None, take}
use Rattle.kc_combine.proofs.combined_headers.have_origins.Given as goal

abbrev pub invariant-headers : goal.invariant-headers
invariant-headers l = All (λ header. header.origin ≢ None) (take l.header-index l.headers)

use Rattle.std.proofs.Common.{◌≡◌, drop, None}
use Rattle.kc_combine.specs.Aheads.{heads_of, least_from}
use Rattle.kc_combine.proofs.aheads.least_word.Given as goal

abbrev pub invariant-tables : goal.invariant-tables
invariant-tables g l = least_from l.least (heads_of (drop l.ahead-index l.aheads)) ≡ least_from None (heads_of l.aheads)

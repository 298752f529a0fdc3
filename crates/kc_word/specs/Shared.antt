-- The contents of shared batches.
use Rattle.std.specs.Prelude.{List, map}
use Rattle.std.specs.declared.sync.Arc.{Arc}
use Rattle.std.specs.declared.alloc.Global.{Global}
use Rattle.kc_word.specs.declared.batch.Batch.{Batch}
use Rattle.kc_word.specs.Cutting.{NumberedPieces}

-- the batches, by value
abbrev pub values : List (Arc Batch Global) → List NumberedPieces
values batches = map (λ batch. batch.value) batches

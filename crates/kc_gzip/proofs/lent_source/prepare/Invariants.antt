use Rattle.std.proofs.Common.{ℕ, List}
use Rattle.kc_gzip.specs.Following.{Follows}
use Rattle.kc_gzip.specs.Since.{Continues}
use Rattle.kc_gzip.specs.Intakes.{AsksForBlocks}
use Rattle.kc_gzip.proofs.lent_source.prepare.Given as goal

abbrev pub invariant-loop : goal.invariant-loop
invariant-loop g l = record {
  follows : (told : List ℕ) → Follows l.fn.unzip l.fn.heard told → Follows l.unzip l.heard told;
  goes : Continues (g.S.Source.seen l.fn.source) l.fn.heard (g.S.Source.seen l.source) l.heard;
  asks : (told : List ℕ) → Follows l.fn.unzip l.fn.heard told → AsksForBlocks l.fn.heard → AsksForBlocks l.heard;
}

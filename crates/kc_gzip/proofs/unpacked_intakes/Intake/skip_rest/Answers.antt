use Rattle.std.proofs.Common.{ap, sym, arith}
use Rattle.std.proofs.lemmas.List.{length-take-le}
use Rattle.kc_gzip.specs.Intakes.{Unread, block_size}
use Rattle.kc_gzip.proofs.TakingLemmas.{skips-rest}
use Rattle.kc_gzip.proofs.unpacked_intakes.Intake.skip_rest.Goals as goal

pub slice_bounds-block-end : goal.slice_bounds-block-end
slice_bounds-block-end g c = sym (length-take-le block_size c.deref_mut.result.now (omega arith))

pub skip_by_blocks-requires-clause-whole : goal.skip_by_blocks-requires-clause-whole
skip_by_blocks-requires-clause-whole g c = length-take-le block_size c.deref_mut.result.now (omega arith)

pub returns : goal.returns
returns g c = skips-rest (g.S.Source.seen c.args.source.now) (g.S.Source.seen c.skip_by_blocks.new.source) c.args.self c.self.inside.unpacking
    c.self.inside.room c.skip_by_blocks.result
    (ap (λ (w : Unread). w.came) c.self.view_is) (ap (λ (w : Unread). w.since) c.self.view_is) (ap (λ (w : Unread). w.room) c.self.view_is)
    c.skip_by_blocks.ensures

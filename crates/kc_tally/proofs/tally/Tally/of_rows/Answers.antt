use Rattle.kc_tally.proofs.PackingSteps.{words-small}
use Rattle.kc_tally.proofs.tally.Tally.of_rows.Goals as goal

pub packed_parts-requires-clause-words : goal.packed_parts-requires-clause-words
packed_parts-requires-clause-words c = words-small c.args.k c.args.rows.items c.get-bases.ensures.fits c.requires.ordered.words

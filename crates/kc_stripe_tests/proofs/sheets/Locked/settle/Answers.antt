use Rattle.std.proofs.Common.{sym, ◌∙◌}
use Rattle.kc_lemmas.proofs.Permutations.{length-from_weights}
use Rattle.kc_share.specs.Entries.{entries_in}
use Rattle.kc_stripe_tests.proofs.sheets.Locked.settle.Goals as goal

pub returns-clause-entries : goal.returns-clause-entries
returns-clause-entries g c =
    c.args.self.now.entries_are ∙ sym (length-from_weights (entries_in c.args.self.now.keeper.stripe c.args.share.now.booked) c.args.self.now.keeper.journal (c.look.ensures.whole c.requires))

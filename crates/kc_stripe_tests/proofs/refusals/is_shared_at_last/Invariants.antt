use Rattle.kc_stripe_tests.proofs.refusals.is_shared_at_last.Given as goal

abbrev pub ghosts-share_at_last : goal.ghosts-share_at_last
ghosts-share_at_last g a = record { table = a.sheet.table }

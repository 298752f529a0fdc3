use Rattle.kc_stripe_tests.proofs.sharings.sum_up.Given as goal

abbrev pub ghosts-sums_by_two : goal.ghosts-sums_by_two
ghosts-sums_by_two g a = record { table = a.sheet.table }

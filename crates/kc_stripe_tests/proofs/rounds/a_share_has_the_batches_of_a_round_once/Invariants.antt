use Rattle.kc_stripe_tests.proofs.rounds.a_share_has_the_batches_of_a_round_once.Given as goal

abbrev pub ghosts-share_twice : goal.ghosts-share_twice
ghosts-share_twice g a = record { table = a.sheet.table }

use Rattle.kc_stripe_tests.proofs.sharings.look_among_batches.Given as goal

abbrev pub ghosts-book_and_look : goal.ghosts-book_and_look
ghosts-book_and_look g a = record { table = a.sheet.table }

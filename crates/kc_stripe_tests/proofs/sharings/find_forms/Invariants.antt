use Rattle.kc_stripe_tests.proofs.sharings.find_forms.Given as goal

abbrev pub ghosts-look_book_and_look : goal.ghosts-look_book_and_look
ghosts-look_book_and_look g a = record { table = a.sheet.table }

use Rattle.kc_stripe_tests.proofs.sheets.what_two_shares_booked_is_what_the_journals_have.Given as goal

abbrev pub ghosts-book_by_two : goal.ghosts-book_by_two
ghosts-book_by_two g a = record { table = a.sheet.table }

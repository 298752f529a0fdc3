use Rattle.kc_stripe_tests.proofs.meetings.meet.Given as goal

abbrev pub ghosts-book_at_once : goal.ghosts-book_at_once
ghosts-book_at_once g a = record { table = a.sheet.table }

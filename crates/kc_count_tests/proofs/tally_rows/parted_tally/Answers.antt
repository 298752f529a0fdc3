use Rattle.kc_count_tests.proofs.WorkedRows.{parted, parted_are_rows}
use Rattle.kc_count_tests.proofs.tally_rows.parted_tally.Goals as goal

pub of_packed-requires : goal.of_packed-requires
unfolding parted
of_packed-requires c = rw (c.requires, c.in_ok-divide_rows.ensures) parted_are_rows

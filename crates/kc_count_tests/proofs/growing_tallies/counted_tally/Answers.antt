use Rattle.kc_count_tests.proofs.WorkedRows.{parted, parted_are_rows}
use Rattle.kc_count_tests.proofs.growing_tallies.counted_tally.Goals as goal

pub into_tally-requires : goal.into_tally-requires
unfolding parted
into_tally-requires c = rw (c.requires, c.in_ok-rows.ensures) parted_are_rows

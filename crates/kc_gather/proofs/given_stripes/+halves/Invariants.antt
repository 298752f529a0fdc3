use Rattle.std.proofs.Common.{◌+◌, ◌*◌}
use Rattle.kc_gather.proofs.given_stripes.+halves.Given as goal

abbrev pub decreases-GivenStripes::check_in_parallel : goal.decreases-GivenStripes::check_in_parallel
decreases-GivenStripes::check_in_parallel g l = 2 * l.threads

abbrev pub decreases-front : goal.decreases-front
decreases-front g l = 2 * l.low + 1

abbrev pub decreases-back : goal.decreases-back
decreases-back g l = 2 * l.high + 1

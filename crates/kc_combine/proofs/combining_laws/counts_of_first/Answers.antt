use Rattle.kc_combine.proofs.CountLemmas.{counts_keep_first, difference_keeps_first, first_keeps_first, least_keeps_first, within_keeps_first}
use Rattle.kc_combine.proofs.ResultLemmas.{total_within_first}
use Rattle.kc_combine.proofs.combining_laws.counts_of_first.Goals as goal

pub returns-clause-least : goal.returns-clause-least
returns-clause-least c = least_keeps_first

pub returns-clause-first : goal.returns-clause-first
returns-clause-first c = first_keeps_first

pub returns-clause-difference : goal.returns-clause-difference
returns-clause-difference c = difference_keeps_first

pub returns-clause-counts : goal.returns-clause-counts
returns-clause-counts c = counts_keep_first

pub returns-clause-filter : goal.returns-clause-filter
returns-clause-filter c = within_keeps_first

pub returns-clause-total : goal.returns-clause-total
returns-clause-total c = total_within_first

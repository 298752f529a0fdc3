use Rattle.kc_tool.proofs.given_options.high_of.Goals as goal

pub returns-clause-asked : goal.returns-clause-asked
returns-clause-asked c = c.in_ok-high_of.ensures.asked

use Rattle.kc_tool.proofs.closing_line.+push_groups.Given as goal

abbrev pub decreases-push_groups : goal.decreases-push_groups
decreases-push_groups l = l.more

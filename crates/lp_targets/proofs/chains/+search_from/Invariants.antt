use Rattle.lp_targets.proofs.chains.+search_from.Given as goal

abbrev pub decreases-search_from : goal.decreases-search_from
decreases-search_from g l = l.left

use Rattle.lp_value_efuns.proofs.compute.effect_of.Goals as goal

pub of_read-requires-clause-first : goal.of_read-requires-clause-first
of_read-requires-clause-first g c = c.in_ok-a.ensures.there c.args.cells.now c.requires.there

pub of_read-requires-clause-second : goal.of_read-requires-clause-second
of_read-requires-clause-second g c = c.in_ok-b.ensures.there c.args.cells.now c.requires.there

use Rattle.lp_efuns.proofs.changes.changed.Goals as goal

pub returns-in-Unshadow-clause-there : goal.returns-in-Unshadow-clause-there
returns-in-Unshadow-clause-there c = c.unshadow.ensures.there c.unshadow.new.live.cells

pub returns-in-Exec-clause-there : goal.returns-in-Exec-clause-there
returns-in-Exec-clause-there c = c.exec.ensures.there c.exec.new.live.cells

use Rattle.std.proofs.Common.{map, take}
use Rattle.std.specs.List.{fold}
use Rattle.lp_save.specs.SaveText.{max_saved_levels, walked}
use Rattle.lp_save.specs.States.{GoesOver}
use Rattle.lp_save.proofs.save.walk_all.Given as goal

abbrev pub invariant-loop-var : goal.invariant-loop-var
invariant-loop-var g l = GoesOver l.fn.walker l.walker (λ w. fold (walked (g.L.Living.live l.live) l.cells max_saved_levels) w (map (λ p. p.1) (take l.var-index l.vars)))

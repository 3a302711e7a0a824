use Rattle.lp_save.specs.SaveText.{max_saved_levels, walked}
use Rattle.lp_save.proofs.WalkLemmas.{over_var, over_vars}
use Rattle.lp_save.proofs.save.walk_all.Goals as goal

pub loop-var-preserved : goal.loop-var-preserved
loop-var-preserved g c =
    over_var (walked (g.L.Living.live c.args.live.now) c.args.cells.now max_saved_levels) c.args.walker.now c.loop-var.walker c.walk.new.walker c.args.vars.now c.loop-var.var-index c.var-item.result c.loop-var-test.true c.var-item.is c.loop-var.invariant c.in_ok-walk.ensures

pub returns : goal.returns
returns g c =
    over_vars (walked (g.L.Living.live c.args.live.now) c.args.cells.now max_saved_levels) c.args.walker.now c.loop-var.walker c.args.vars.now c.loop-var.var-index c.loop-var-test.false c.loop-var.invariant

use Rattle.lp_save.specs.SaveText.{line_spelt}
use Rattle.lp_save.proofs.SpellLemmas.{spelt_lines, spelt_all}
use Rattle.lp_save.proofs.save.spell_all.Goals as goal

pub loop-var-preserved : goal.loop-var-preserved
loop-var-preserved g c =
    spelt_lines (line_spelt (g.L.Living.live c.args.live.now) c.args.cells.now c.args.shared.now) c.args.speller.now c.loop-var.speller c.spell_line.new.speller c.args.vars.now c.loop-var.var-index c.var-item.result c.loop-var-test.true c.var-item.is c.loop-var.invariant c.in_ok-spell_line.ensures

pub returns : goal.returns
returns g c =
    spelt_all (line_spelt (g.L.Living.live c.args.live.now) c.args.cells.now c.args.shared.now) c.args.speller.now c.loop-var.speller c.args.vars.now c.loop-var.var-index c.loop-var-test.false c.loop-var.invariant

use Rattle.std.proofs.Common.{take}
use Rattle.std.specs.List.{fold}
use Rattle.lp_save.specs.SaveText.{line_spelt}
use Rattle.lp_save.specs.States.{Spells}
use Rattle.lp_save.proofs.save.spell_all.Given as goal

abbrev pub invariant-loop-var : goal.invariant-loop-var
invariant-loop-var g l = Spells l.fn.speller l.speller (λ s. fold (line_spelt (g.L.Living.live l.live) l.cells l.shared) s (take l.var-index l.vars))

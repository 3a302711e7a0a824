use Rattle.std.proofs.Common.{All, subst, sym}
use Rattle.lp_cells.specs.Cells.{IsPairThere}
use Rattle.lp_cells.specs.declared.content.Content.TheVariants.{Mapping}
use Rattle.lp_ops.specs.Effects.{IsEffectThere, within}
use Rattle.lp_ops.specs.declared.effect.Effect.TheVariants.{Makes}
use Rattle.lp_ops.proofs.ClosedLemmas.{within_there}
use Rattle.lp_step.proofs.Paired.{pairs_there}
use Rattle.lp_step.proofs.literals.new_mapping.Goals as goal

pub returns-in-Ok-clause-closed : goal.returns-in-Ok-clause-closed
returns-in-Ok-clause-closed g c = λ h.
    c.carry_out.ensures.closed h (subst (λ e. IsEffectThere c.args.cells.now (within e)) (sym c.mapping.ensures)
    (within_there c.args.cells.now (Makes (Mapping c.in-Ok.pairs)) (subst (All (IsPairThere c.args.cells.now)) (sym c.in-Ok.ensures.1) (pairs_there (g.L.Living.live c.args.live.now) c.args.cells.now c.args.parts.items c.requires))))

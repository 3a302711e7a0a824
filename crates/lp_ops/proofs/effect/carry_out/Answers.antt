use Rattle.std.proofs.Common.{subst}
use Rattle.lp_ops.specs.declared.effect.Effect.TheVariants.{Gives, Makes}
use Rattle.lp_ops.specs.Effects.{IsEffectThere, within}
use Rattle.lp_ops.proofs.ClosedLemmas.{answers_there, meets_closed, meets_stay}
use Rattle.lp_ops.proofs.effect.carry_out.Goals as goal

pub returns-in-Gives-clause-closed : goal.returns-in-Gives-clause-closed
returns-in-Gives-clause-closed c = λ h i. (h, answers_there c.args.cells.now (within (Gives c.in-Gives.v)) c.give.result c.give.ensures (subst (λ e. IsEffectThere c.args.cells.now (within e)) c.in-Gives.is i))

pub returns-in-Makes-clause-stay : goal.returns-in-Makes-clause-stay
returns-in-Makes-clause-stay c = meets_stay (within (Makes c.in-Makes.content)) c.args.cells.now c.make.new.cells c.make.result c.make.ensures

pub returns-in-Makes-clause-closed : goal.returns-in-Makes-clause-closed
returns-in-Makes-clause-closed c = λ h i. meets_closed (within (Makes c.in-Makes.content)) c.args.cells.now c.make.new.cells c.make.result c.make.ensures (subst (λ e. IsEffectThere c.args.cells.now (within e)) c.in-Makes.is i) h

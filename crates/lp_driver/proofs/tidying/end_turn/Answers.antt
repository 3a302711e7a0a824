use Rattle.std.proofs.Common.{◌∙◌, ap, subst, sym}
use Rattle.lp_objects.specs.Stands as names
use Rattle.lp_world.specs.declared.live.Live.{Live}
use Rattle.lp_driver.proofs.Rested.{over_by}
use Rattle.lp_driver.proofs.tidying.end_turn.Goals as goal

pub returns-clause-over : goal.returns-clause-over
returns-clause-over c = over_by c.args.live.now c.take_outputs-outs.new.live c.forget_ended.new.live c.take_outputs-outs.ensures.only c.forget_ended.ensures.only c.forget_ended.ensures.world c.forget_ended.ensures.names

pub returns-clause-versions : goal.returns-clause-versions
returns-clause-versions c = ap (λ (l : Live). l.versions) c.forget_ended.ensures.only ∙ ap (λ (l : Live). l.versions) c.take_outputs-outs.ensures.only

pub returns-clause-names : goal.returns-clause-names
returns-clause-names c = λ objects s. c.forget_ended.ensures.named objects (subst (λ (l : Live). names.Stands l.names objects) (sym c.take_outputs-outs.ensures.only) s)

use Rattle.std.proofs.Common.{All, ap, refl, subst, sym}
use Rattle.lp_cells.specs.Cells.{IsThere}
use Rattle.lp_world.specs.declared.live.Live.{Live}
use Rattle.lp_calling.specs.declared.job.Stage.TheVariants as stages
use Rattle.lp_calling.specs.Leave.{shadow_deed}
use Rattle.lp_calling.proofs.Calling.{fit_with}
use Rattle.lp_calling.proofs.Granted.{shadow_arrives, value_enters, value_on}
use Rattle.lp_calling.proofs.deeds.enter_shadow.Goals as goal

pub returns-clause-enters : goal.returns-clause-enters
returns-clause-enters c = λ e turn.
    let a = c.args in
    let new : Live = c.begin_shadowing.new.live in
    value_enters e (stages.Shadow a.this a.o) (shadow_deed a.this a.o) a.low a.live.now new turn a.stack.now.items c.put_at.new.stack.items c.done_value.result
    (λ own by s. refl)
    (λ g b s h. shadow_arrives a.this a.o a.live.now new c.in_ok-is_begun.is_begun c.done_value.result g turn b s c.done_value.ensures c.in_ok-is_begun.ensures.begins (ap (λ (l : Live). l.outputs) c.in_ok-is_begun.ensures.others) h)
    c.in_ok-put_at.ensures

pub returns-clause-on : goal.returns-clause-on
returns-clause-on c = value_on c.args.stack.now.items c.put_at.new.stack.items c.args.low c.done_value.result c.requires.low c.in_ok-put_at.ensures

pub returns-clause-fit : goal.returns-clause-fit
returns-clause-fit c =
    let a = c.args in
    let new : Live = c.begin_shadowing.new.live in
    fit_with new a.stack.now.items c.put_at.new.stack.items a.low c.done_value.result c.in_ok-put_at.ensures (subst (λ v. IsThere new.cells v) (sym c.done_value.ensures) tt)
    (record { closed = c.in_ok-is_begun.ensures.closed; there = subst (λ (l : Live). All (IsThere l.cells) a.stack.now.items) (sym c.in_ok-is_begun.ensures.others) c.requires.fit.there })

use Rattle.std.proofs.Common.{All, ap, refl, subst, sym}
use Rattle.std.specs.Option.{option_map}
use Rattle.std.specs.Prelude.{string_bytes}
use Rattle.lp_cells.specs.Cells.{IsThere}
use Rattle.lp_world.specs.declared.live.Live.{Live}
use Rattle.lp_filing.specs.Filing.{Comes}
use Rattle.lp_filing.specs.declared.outcome.Outcome.TheVariants as outcomes
use Rattle.lp_calling.specs.declared.job.Stage.TheVariants as stages
use Rattle.lp_calling.specs.Leave.{file_deed}
use Rattle.lp_calling.proofs.Calling.{fit_with}
use Rattle.lp_calling.proofs.Granted.{comes_arrives, value_enters, value_on}
use Rattle.lp_calling.proofs.deeds.do_file.Goals as goal

pub returns-clause-enters : goal.returns-clause-enters
returns-clause-enters c = λ e turn.
    let a = c.args in
    let new : Live = c.do_deed.new.live in
    let comes : Comes (file_deed a.deed.now (option_map string_bytes a.path.now)) a.live.now (outcomes.Value c.in_ok-v.v) new = subst (λ p. Comes (file_deed a.deed.now p) a.live.now (outcomes.Value c.in_ok-v.v) new) c.text_of.ensures c.in_ok-v.ensures.comes in
    value_enters e (stages.File a.deed.now a.path.now) (file_deed a.deed.now (option_map string_bytes a.path.now)) a.low a.live.now new turn a.stack.now.items c.put_at.new.stack.items c.in_ok-v.v
    (λ own by s. refl)
    (λ g b s h. comes_arrives (file_deed a.deed.now (option_map string_bytes a.path.now)) a.live.now new c.in_ok-v.v g turn b s comes (ap (λ (l : Live). l.outputs) c.in_ok-v.ensures.others) h)
    c.in_ok-put_at.ensures

pub returns-clause-on : goal.returns-clause-on
returns-clause-on c = value_on c.args.stack.now.items c.put_at.new.stack.items c.args.low c.in_ok-v.v c.requires.low c.in_ok-put_at.ensures

pub returns-clause-fit : goal.returns-clause-fit
returns-clause-fit c =
    let a = c.args in
    let new : Live = c.do_deed.new.live in
    fit_with new a.stack.now.items c.put_at.new.stack.items a.low c.in_ok-v.v c.in_ok-put_at.ensures (c.in_ok-v.ensures.there new.cells)
    (record { closed = c.in_ok-v.ensures.closed; there = subst (λ (l : Live). All (IsThere l.cells) a.stack.now.items) (sym c.in_ok-v.ensures.others) c.requires.fit.there })

use Rattle.std.proofs.Common.{refl, subst, ◌+◌}
use Rattle.lp_step.specs.declared.worked.Worked.TheVariants as worked
use Rattle.lp_step.specs.Works.{IsWorkedThere, WorksOn}
use Rattle.lp_step.proofs.Fits.{pushed_fit}
use Rattle.lp_step.proofs.Led.{value, error, spent}
use Rattle.lp_step.proofs.Operated.{cells_fit, operated}
use Rattle.lp_step.proofs.binaries.on_values.Goals as goal

pub returns-in_ok-push-in-Value : goal.returns-in_ok-push-in-Value
returns-in_ok-push-in-Value c = record {
  table = λ a m h fine named.
      operated a c.args.live.now c.operate_top.new.cells c.args.stack.now.items c.operate_top.new.stack.items c.push.new.stack.items c.args.frame.now (c.args.frame.now.at + 1) c.args.budget.now c.operate_top.new.budget m c.args.op (worked.Value c.in-Value.v) _ h
      (subst (λ d. WorksOn c.args.op c.args.stack.now.items c.operate_top.new.stack.items c.args.live.now.objects c.args.live.now.cells c.args.budget.now d c.operate_top.new.cells c.operate_top.new.budget) c.in-Value.is c.in_ok-d.ensures.works) (value c.in_ok-push-in-Value.ensures) fine;
  keeps = λ f. let t = c.in_ok-d.ensures.works in (pushed_fit (record c.args.live.now { cells = c.operate_top.new.cells }) _ _ _ (subst (IsWorkedThere c.operate_top.new.cells) c.in-Value.is c.in_ok-d.ensures.keeps.1) c.in_ok-push-in-Value.ensures (cells_fit c.args.live.now c.operate_top.new.cells _ _ t.0 t.1 t.2 c.operate_top.ensures.stay c.in_ok-d.ensures.keeps.0 f), tt);
  home = refl;
}

pub returns-in-Error : goal.returns-in-Error
returns-in-Error c = record {
  table = λ a m h fine named.
      operated a c.args.live.now c.operate_top.new.cells c.args.stack.now.items c.operate_top.new.stack.items c.operate_top.new.stack.items c.args.frame.now c.args.frame.now.at c.args.budget.now c.operate_top.new.budget m c.args.op (worked.Error c.in-Error.e) _ h
      (subst (λ d. WorksOn c.args.op c.args.stack.now.items c.operate_top.new.stack.items c.args.live.now.objects c.args.live.now.cells c.args.budget.now d c.operate_top.new.cells c.operate_top.new.budget) c.in-Error.is c.in_ok-d.ensures.works) error fine;
  keeps = λ f. let t = c.in_ok-d.ensures.works in (cells_fit c.args.live.now c.operate_top.new.cells _ _ t.0 t.1 t.2 c.operate_top.ensures.stay c.in_ok-d.ensures.keeps.0 f, tt);
  home = refl;
}

pub returns-in-Spent : goal.returns-in-Spent
returns-in-Spent c = record {
  table = λ a m h fine named.
      operated a c.args.live.now c.operate_top.new.cells c.args.stack.now.items c.operate_top.new.stack.items c.operate_top.new.stack.items c.args.frame.now c.args.frame.now.at c.args.budget.now c.operate_top.new.budget m c.args.op worked.Spent _ h
      (subst (λ d. WorksOn c.args.op c.args.stack.now.items c.operate_top.new.stack.items c.args.live.now.objects c.args.live.now.cells c.args.budget.now d c.operate_top.new.cells c.operate_top.new.budget) c.in-Spent.is c.in_ok-d.ensures.works) spent fine;
  keeps = λ f. let t = c.in_ok-d.ensures.works in (cells_fit c.args.live.now c.operate_top.new.cells _ _ t.0 t.1 t.2 c.operate_top.ensures.stay c.in_ok-d.ensures.keeps.0 f, tt);
  home = refl;
}

use Rattle.std.proofs.Common.{refl, subst, sym, ◌+◌}
use Rattle.lp_step.specs.declared.worked.Worked.TheVariants as worked
use Rattle.lp_step.specs.Works.{IsWorkedThere, UnaryOn}
use Rattle.lp_step.proofs.Fits.{pushed_fit}
use Rattle.lp_step.proofs.Led.{value, error, spent}
use Rattle.lp_step.proofs.Prefixed.{prefixed, same_cells_fit}
use Rattle.lp_step.proofs.unaries.unary_operator.Goals as goal

pub returns-in_ok-push-in-Value : goal.returns-in_ok-push-in-Value
returns-in_ok-push-in-Value c = record {
  table = λ a m h fine named.
      prefixed a c.args.live.now c.operate_top.new.cells c.args.stack.now.items c.operate_top.new.stack.items c.push.new.stack.items c.args.frame.now (c.args.frame.now.at + 1) c.args.budget.now c.operate_top.new.budget m c.args.op (worked.Value c.in-Value.v) _ h c.operate_top.ensures.same
      (subst (λ d. UnaryOn c.args.op c.args.stack.now.items c.operate_top.new.stack.items c.args.live.now.objects c.args.live.now.cells c.args.budget.now d c.operate_top.new.budget) c.in-Value.is c.in_ok-d.ensures.works) (value c.in_ok-push-in-Value.ensures) fine;
  keeps = λ f. let t = c.in_ok-d.ensures.works in (pushed_fit (record c.args.live.now { cells = c.operate_top.new.cells }) _ _ _ (subst (λ k. IsWorkedThere k (worked.Value c.in-Value.v)) (sym c.operate_top.ensures.same) (subst (IsWorkedThere c.args.live.now.cells) c.in-Value.is c.in_ok-d.ensures.there)) c.in_ok-push-in-Value.ensures (same_cells_fit c.args.live.now c.operate_top.new.cells _ _ t.0 t.1 c.operate_top.ensures.same f), tt);
  home = refl;
}

pub returns-in-Error : goal.returns-in-Error
returns-in-Error c = record {
  table = λ a m h fine named.
      prefixed a c.args.live.now c.operate_top.new.cells c.args.stack.now.items c.operate_top.new.stack.items c.operate_top.new.stack.items c.args.frame.now c.args.frame.now.at c.args.budget.now c.operate_top.new.budget m c.args.op (worked.Error c.in-Error.e) _ h c.operate_top.ensures.same
      (subst (λ d. UnaryOn c.args.op c.args.stack.now.items c.operate_top.new.stack.items c.args.live.now.objects c.args.live.now.cells c.args.budget.now d c.operate_top.new.budget) c.in-Error.is c.in_ok-d.ensures.works) error fine;
  keeps = λ f. let t = c.in_ok-d.ensures.works in (same_cells_fit c.args.live.now c.operate_top.new.cells _ _ t.0 t.1 c.operate_top.ensures.same f, tt);
  home = refl;
}

pub returns-in-Spent : goal.returns-in-Spent
returns-in-Spent c = record {
  table = λ a m h fine named.
      prefixed a c.args.live.now c.operate_top.new.cells c.args.stack.now.items c.operate_top.new.stack.items c.operate_top.new.stack.items c.args.frame.now c.args.frame.now.at c.args.budget.now c.operate_top.new.budget m c.args.op worked.Spent _ h c.operate_top.ensures.same
      (subst (λ d. UnaryOn c.args.op c.args.stack.now.items c.operate_top.new.stack.items c.args.live.now.objects c.args.live.now.cells c.args.budget.now d c.operate_top.new.budget) c.in-Spent.is c.in_ok-d.ensures.works) spent fine;
  keeps = λ f. let t = c.in_ok-d.ensures.works in (same_cells_fit c.args.live.now c.operate_top.new.cells _ _ t.0 t.1 c.operate_top.ensures.same f, tt);
  home = refl;
}

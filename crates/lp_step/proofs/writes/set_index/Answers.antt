use Rattle.std.proofs.Common.{refl, subst, ◌+◌}
use Rattle.lp_step.specs.declared.worked.Worked.TheVariants as worked
use Rattle.lp_step.specs.IndexWrites.{WritesOn}
use Rattle.lp_step.specs.Works.{IsWorkedThere}
use Rattle.lp_step.proofs.Fits.{pushed_fit}
use Rattle.lp_step.proofs.Led.{value, error, spent}
use Rattle.lp_step.proofs.Written.{written_fit, item_put}
use Rattle.lp_step.proofs.writes.set_index.Goals as goal

pub returns-in_ok-push-in-Value : goal.returns-in_ok-push-in-Value
returns-in_ok-push-in-Value c = record {
  table = λ a m h fine named.
      item_put a c.args.live.now c.write_top.new.cells c.args.stack.now.items c.write_top.new.stack.items c.push.new.stack.items c.args.frame.now (c.args.frame.now.at + 1) c.args.budget.now c.write_top.new.budget m c.args.edge (worked.Value c.in-Value.v) _ h
      (subst (λ d. WritesOn c.args.edge c.args.stack.now.items c.write_top.new.stack.items c.args.live.now.objects c.args.live.now.cells c.args.budget.now d c.write_top.new.cells c.write_top.new.budget) c.in-Value.is c.in_ok-d.ensures.writes) (value c.in_ok-push-in-Value.ensures) fine;
  keeps = λ f. let t = c.in_ok-d.ensures.writes in (pushed_fit (record c.args.live.now { cells = c.write_top.new.cells }) _ _ _ (subst (IsWorkedThere c.write_top.new.cells) c.in-Value.is c.in_ok-d.ensures.keeps.1) c.in_ok-push-in-Value.ensures (written_fit c.args.live.now c.write_top.new.cells _ _ t.0 t.1 t.2 t.3 c.write_top.ensures.stay c.in_ok-d.ensures.keeps.0 f), tt);
  home = refl;
}

pub returns-in-Error : goal.returns-in-Error
returns-in-Error c = record {
  table = λ a m h fine named.
      item_put a c.args.live.now c.write_top.new.cells c.args.stack.now.items c.write_top.new.stack.items c.write_top.new.stack.items c.args.frame.now c.args.frame.now.at c.args.budget.now c.write_top.new.budget m c.args.edge (worked.Error c.in-Error.e) _ h
      (subst (λ d. WritesOn c.args.edge c.args.stack.now.items c.write_top.new.stack.items c.args.live.now.objects c.args.live.now.cells c.args.budget.now d c.write_top.new.cells c.write_top.new.budget) c.in-Error.is c.in_ok-d.ensures.writes) error fine;
  keeps = λ f. let t = c.in_ok-d.ensures.writes in (written_fit c.args.live.now c.write_top.new.cells _ _ t.0 t.1 t.2 t.3 c.write_top.ensures.stay c.in_ok-d.ensures.keeps.0 f, tt);
  home = refl;
}

pub returns-in-Spent : goal.returns-in-Spent
returns-in-Spent c = record {
  table = λ a m h fine named.
      item_put a c.args.live.now c.write_top.new.cells c.args.stack.now.items c.write_top.new.stack.items c.write_top.new.stack.items c.args.frame.now c.args.frame.now.at c.args.budget.now c.write_top.new.budget m c.args.edge worked.Spent _ h
      (subst (λ d. WritesOn c.args.edge c.args.stack.now.items c.write_top.new.stack.items c.args.live.now.objects c.args.live.now.cells c.args.budget.now d c.write_top.new.cells c.write_top.new.budget) c.in-Spent.is c.in_ok-d.ensures.writes) spent fine;
  keeps = λ f. let t = c.in_ok-d.ensures.writes in (written_fit c.args.live.now c.write_top.new.cells _ _ t.0 t.1 t.2 t.3 c.write_top.ensures.stay c.in_ok-d.ensures.keeps.0 f, tt);
  home = refl;
}

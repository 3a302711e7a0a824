use Rattle.std.proofs.Common.{refl, Ok, Err, ap, pos, subst, ◌++◌, ◌∷◌, [], ◌∙◌}
use Rattle.lp_values.specs.declared.value.Value.TheVariants.{Int}
use Rattle.lp_step.specs.Each.{CopiesOn}
use Rattle.lp_step.proofs.Begun.{begun, copies_fit, not_begun}
use Rattle.lp_step.proofs.Fits.{pushed_fit}
use Rattle.lp_step.proofs.copies.each_begin.Goals as goal

pub returns-in_ok-push-in-Ok-2 : goal.returns-in_ok-push-in-Ok-2
returns-in_ok-push-in-Ok-2 c = record {
  table = λ variables budget a m h fine named. begun a c.args.live.now c.copy_top.new.cells c.args.stack.now.items c.copy_top.new.stack.items c.push-in-Ok.new.stack.items c.args.frame.now budget m c.in-Ok.copy h c.in-Ok.ensures
      (c.in_ok-push-in-Ok-2.ensures ∙ ap (λ s. s ++ Int (pos 0) ∷ []) c.in_ok-push-in-Ok.ensures) fine;
  keeps = λ f. let t = copies_fit c.args.live.now c.copy_top.new.cells c.args.stack.now.items c.copy_top.new.stack.items (Ok c.in-Ok.copy) c.in-Ok.ensures f in
      (pushed_fit (record c.args.live.now { cells = c.copy_top.new.cells }) _ _ (Int (pos 0)) tt c.in_ok-push-in-Ok-2.ensures (pushed_fit (record c.args.live.now { cells = c.copy_top.new.cells }) _ _ c.in-Ok.copy t.1 c.in_ok-push-in-Ok.ensures t.0), tt);
  home = refl;
}

pub returns-in-Err-Run : goal.returns-in-Err-Run
returns-in-Err-Run c = record {
  table = λ variables budget a m h fine named. not_begun a c.args.live.now c.copy_top.new.cells c.args.stack.now.items c.copy_top.new.stack.items c.args.frame.now budget m c.in-Err-Run.e h (subst (λ f. CopiesOn c.args.stack.now.items c.copy_top.new.stack.items c.args.live.now.objects c.args.live.now.cells c.copy_top.new.cells (Err f)) c.in-Err-Run.field-0-is c.in-Err-Run.ensures) fine;
  keeps = λ f. ((copies_fit c.args.live.now c.copy_top.new.cells c.args.stack.now.items c.copy_top.new.stack.items (Err c.in-Err-Run.field-0) c.in-Err-Run.ensures f).0, tt);
  home = refl;
}

use Rattle.std.proofs.Common.{sym, ap, ◌∙◌}
use Rattle.lp_preproc.specs.Tables.{macros_in}
use Rattle.lp_preproc.specs.State.{Goes}
use Rattle.lp_preproc.specs.Steps.{holding, whole_of}
use Rattle.lp_preproc.proofs.Leading.{failed_does}
use Rattle.lp_preproc.proofs.expander.carry_directive.Goals as goal

pub returns-in_ok-push-in-Ok : goal.returns-in_ok-push-in-Ok
returns-in_ok-push-in-Ok c = λ c' e. (c.in-Ok.ensures c' (whole_of c.args.expander.now) c.args.expander.now.files e ∙ ap (λ fs. Goes (holding (whole_of c.args.expander.now) fs (macros_in c.carry.new.table) c.carry.new.pragmas)) (sym c.in_ok-push-in-Ok.ensures.ok))

pub returns-in-Err : goal.returns-in-Err
returns-in-Err c = λ c' e.
    failed_does _ c.in-Err.stop _ (holding (whole_of c.args.expander.now) c.args.expander.now.files (macros_in c.carry.new.table) c.carry.new.pragmas) (c.in-Err.ensures c' (whole_of c.args.expander.now) c.args.expander.now.files e)

use Rattle.std.proofs.Common.{subst}
use Rattle.lp_step.specs.Steps.{KeepsVariables}
use Rattle.lp_loading.proofs.NextSteps.{home_same}
use Rattle.lp_loading.proofs.SeenNames.{if_ok}
use Rattle.lp_loading.proofs.Brought.{first_after, first_alone}
use Rattle.lp_loading.proofs.next.read_on.Goals as goal

pub returns-in-Ok-clause-goes : goal.returns-in-Ok-clause-goes
returns-in-Ok-clause-goes g c =
    if_ok c.go_on.result _ _ (λ r f budget turn. f (g.W.SwapFile.content c.args.swap.now) c.args.live.now budget turn c.in-Ok.ensures.read) c.go_on.ensures.goes

pub returns-in-Ok-clause-variables : goal.returns-in-Ok-clause-variables
returns-in-Ok-clause-variables g c = subst (λ rows. KeepsVariables rows c.go_on.new.live.objects) c.compile_own.ensures.objects c.go_on.ensures.variables

pub returns-in-Err-clause-variables : goal.returns-in-Err-clause-variables
returns-in-Err-clause-variables g c = home_same c.args.live.now.objects c.compile_own.new.live.objects c.compile_own.ensures.objects

pub returns-in-Ok-clause-brings : goal.returns-in-Ok-clause-brings
returns-in-Ok-clause-brings g c = first_after c.in-Ok.ensures.brings c.compile_own.ensures.stands c.go_on.ensures.brings

pub returns-in-Err-clause-brings : goal.returns-in-Err-clause-brings
returns-in-Err-clause-brings g c = first_alone c.in-Err.ensures.brings

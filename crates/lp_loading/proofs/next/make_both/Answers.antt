use Rattle.std.proofs.Common.{subst}
use Rattle.lp_step.specs.Steps.{KeepsVariables}
use Rattle.lp_loading.specs.Versions.{MakesVersion}
use Rattle.lp_loading.specs.declared.job.Going.TheVariants as goings
use Rattle.lp_loading.proofs.NextSteps.{home_same, sound_leads}
use Rattle.lp_loading.proofs.SeenNames.{if_ok}
use Rattle.lp_loading.proofs.Brought.{first_changed, first_failed}
use Rattle.lp_loading.proofs.next.make_both.Goals as goal

pub returns-in-Ok-clause-goes : goal.returns-in-Ok-clause-goes
returns-in-Ok-clause-goes g c =
    let told1 = g.W.SwapFile.content c.args.swap.now in
    let told2 = g.W.SwapFile.content c.make_object.new.swap in
    let job = c.args.job.now in
    if_ok c.make_object.result _ _
    (λ r m loads told0 live0 budget turn h.
    sound_leads c.law_sound_goes_on.ensures c.args.program r job loads c.in-Ok.version told0 told1 told2 live0 c.args.live.now c.make_version.new.live c.make_object.new.live budget turn
    (subst (λ n. MakesVersion c.args.live.now c.make_version.new.live n c.args.program c.in-Ok.version) c.as_slice.ensures c.in-Ok.ensures.makes) c.make_version.ensures.outputs m h)
    c.make_object.ensures.makes

pub returns-in-Ok-clause-order : goal.returns-in-Ok-clause-order
returns-in-Ok-clause-order g c = c.make_object.ensures.order goings.Read

pub returns-in-Ok-clause-variables : goal.returns-in-Ok-clause-variables
returns-in-Ok-clause-variables g c = subst (λ rows. KeepsVariables rows c.make_object.new.live.objects) c.make_version.ensures.objects c.make_object.ensures.variables

pub returns-in-Err-clause-variables : goal.returns-in-Err-clause-variables
returns-in-Err-clause-variables g c = home_same c.args.live.now.objects c.make_version.new.live.objects c.make_version.ensures.objects

pub returns-in-Ok-clause-brings : goal.returns-in-Ok-clause-brings
returns-in-Ok-clause-brings g c = first_changed c.in-Ok.ensures.stays c.in-Ok.ensures.stands c.make_object.ensures.brings

pub returns-in-Err-clause-brings : goal.returns-in-Err-clause-brings
returns-in-Err-clause-brings g c = first_failed (g.W.SwapFile.content c.args.swap.now) (g.W.SwapFile.last c.args.swap.now) (g.W.SwapFile.read_faults c.args.swap.now) (g.W.SwapFile.write_faults c.args.swap.now) (g.W.SwapFile.is_truthful c.args.swap.now) (g.W.SwapFile.is_honest c.args.swap.now) c.args.live.now c.make_version.new.live c.in-Err.e c.in-Err.ensures.deviceless

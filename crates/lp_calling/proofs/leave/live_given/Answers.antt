use Rattle.std.proofs.Common.{◌∙◌, subst, sym}
use Rattle.lp_world.specs.Rows.{live_in}
use Rattle.lp_calling.specs.Leaving.{IsLiveObject}
use Rattle.lp_calling.proofs.Leaving.{given_live, none_live}
use Rattle.lp_calling.proofs.leave.live_given.Goals as goal

pub returns-in-Some-clause-value : goal.returns-in-Some-clause-value
returns-in-Some-clause-value c =
    subst (λ m. IsLiveObject (live_in c.args.objects.now) c.args.v.now m) (sym c.where_live.ensures.value) (given_live (live_in c.args.objects.now) c.args.v.now c.in-Some.o (sym c.in-Some.is ∙ c.object_given.ensures))

pub returns-in-None-clause-value : goal.returns-in-None-clause-value
returns-in-None-clause-value c = none_live (live_in c.args.objects.now) c.args.v.now (sym c.in-None.is ∙ c.object_given.ensures)

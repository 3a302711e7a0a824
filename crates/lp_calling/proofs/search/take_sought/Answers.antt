use Rattle.std.proofs.Common.{◌≡◌, ◌∙◌, ◌++◌, ◌∷◌, [], Some, arith, slice_get, subst, sym, take}
use Rattle.std.proofs.lemmas.Result.{IfOk-weaker}
use Rattle.lp_values.specs.declared.value.Value.TheVariants as values
use Rattle.lp_world.specs.Rows.{live_in}
use Rattle.lp_calling.specs.declared.job.Stage.TheVariants as stages
use Rattle.lp_calling.specs.Going.{StageTakes}
use Rattle.lp_calling.specs.Jobs.{stage_left}
use Rattle.lp_calling.proofs.Lists.{got_read}
use Rattle.lp_calling.proofs.Searches.{found_takes, zero_takes_on}
use Rattle.lp_calling.proofs.search.take_sought.Goals as goal

pub returns-then-is_zero-clause-takes : goal.returns-then-is_zero-clause-takes
returns-then-is_zero-clause-takes c =
    zero_takes_on c.args.search c.args.v (live_in c.args.objects.now) c.args.low c.args.stack.now.items c.requires.left (sym c.is_zero.ensures ∙ c.if-is_zero.true)

pub returns-clause-takes : goal.returns-clause-takes
returns-clause-takes c =
    let k = c.args.search in
    let o = c.index.result.now in
    let at : slice_get k.objects.items k.done ≡ Some o = got_read k.objects.items k.done o c.requires.left c.index.ensures in
    IfOk-weaker c.take_found.result (λ t. (t ≡ stages.Value) × (c.take_found.new.stack.items ≡ take c.args.low c.args.stack.now.items ++ values.Obj o ∷ [])) _
    (λ t e. subst (λ t. StageTakes (stages.Seek k) c.args.v (live_in c.args.objects.now) c.args.low c.args.stack.now.items t c.take_found.new.stack.items) (sym e.0)
    (found_takes k o c.args.v (live_in c.args.objects.now) c.args.low c.args.stack.now.items c.take_found.new.stack.items at (sym c.is_zero.ensures ∙ c.if-is_zero.false) e.1)) c.take_found.ensures.found

pub returns-clause-less : goal.returns-clause-less
returns-clause-less c = IfOk-weaker c.take_found.result (λ t. stage_left t ≡ 0) _ (λ t e. omega (arith, e, c.requires.left)) c.take_found.ensures.none

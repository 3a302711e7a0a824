use Rattle.std.proofs.Common.{◌≡◌, ◌∙◌, All, None, Some, ap, subst, sym}
use Rattle.std.proofs.lemmas.Result.{IfOk-weaker}
use Rattle.lp_instr.specs.declared.efun.Efun.TheVariants as efuns
use Rattle.lp_meaning.specs.EfunArguments.{bad, opened_args}
use Rattle.lp_meaning.specs.WorldEfuns.{Yields, deed, object_or_this}
use Rattle.lp_efuns.specs.Deeds.{bounded}
use Rattle.lp_cells.specs.Cells.{IsThere}
use Rattle.lp_ops.specs.Effects.{IsEffectThere, within}
use Rattle.lp_ops.specs.Operators.{array}
use Rattle.lp_places.specs.Places.{inventory}
use Rattle.lp_meaning.specs.WorldEfuns.{object_values}
use Rattle.lp_efuns.proofs.Looking.{about_nothing, about_object, objects_there, subject_same}
use Rattle.lp_efuns.proofs.places.all_inventory.Goals as goal

pub returns-in_ok-object_values-in-Some-clause-looks : goal.returns-in_ok-object_values-in-Some-clause-looks
unfolding deed
returns-in_ok-object_values-in-Some-clause-looks c = λ turn g b d s sc h.
    about_object efuns.AllInventory 1 (object_or_this d s (opened_args s c.args.args.now) 0) s (λ o. Yields (within (array (object_values (inventory s.world.places o)))) s) c.in-Some.o c.array.result
    (subject_same g c.args.live.now turn b s c.args.caller.now d c.args.args.now 0 (Some c.in-Some.o) h sc c.in-Some.ensures.value)
    (ap (λ vs. Yields (within (array vs)) s) (ap object_values (sym (c.inventory.ensures s.world.places s.world.shadows h.stands.rest.places)) ∙ sym c.in_ok-object_values-in-Some.ensures) ∙ ap (λ e. Yields (bounded e) s) (sym c.array.ensures))

pub returns-in-None-clause-looks : goal.returns-in-None-clause-looks
unfolding deed
returns-in-None-clause-looks c =
    IfOk-weaker c.bad.result (λ e. e ≡ bad efuns.AllInventory 1) _
    (λ e q. λ turn g b d s sc h. about_nothing efuns.AllInventory 1 (object_or_this d s (opened_args s c.args.args.now) 0) s (λ o. Yields (within (array (object_values (inventory s.world.places o)))) s) e
    (subject_same g c.args.live.now turn b s c.args.caller.now d c.args.args.now 0 None h sc c.in-None.ensures.value) q) c.bad.ensures

pub returns-in_ok-object_values-in-Some-clause-there : goal.returns-in_ok-object_values-in-Some-clause-there
returns-in_ok-object_values-in-Some-clause-there c = λ cells.
    subst (IsEffectThere cells) (sym c.array.ensures) (subst (All (IsThere cells)) (sym c.in_ok-object_values-in-Some.ensures) (objects_there cells c.inventory.result.now))

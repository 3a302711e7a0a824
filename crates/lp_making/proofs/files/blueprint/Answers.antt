use Rattle.std.proofs.Common.{◌∙◌, ap, map, sym}
use Rattle.lp_meaning.specs.WorldSteps.{is_clone_name}
use Rattle.lp_world.specs.Stands.{named_of}
use Rattle.lp_making.proofs.Reloaded.{clone_has_none, found_blueprint}
use Rattle.lp_making.proofs.files.blueprint.Goals as goal

pub returns-then-is_clone_name : goal.returns-then-is_clone_name
returns-then-is_clone_name c = λ w h. sym (clone_has_none w c.args.name.now (ap is_clone_name (sym c.as_bytes.ensures.value) ∙ sym c.is_clone_name.ensures ∙ c.if-is_clone_name.true))

pub returns : goal.returns
returns c = λ w h. found_blueprint w c.args.name.now c.find.result c.requires.ascii (ap is_clone_name (sym c.as_bytes.ensures.value) ∙ sym c.is_clone_name.ensures ∙ c.if-is_clone_name.false) (c.find.ensures (map named_of w.objects) h)

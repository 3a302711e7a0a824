use Rattle.std.proofs.Common.{◌∙◌, ap, map, sym}
use Rattle.std.specs.Str.{chars}
use Rattle.lp_objects.specs.Objects.{object_named}
use Rattle.lp_world.specs.Stands.{named_of}
use Rattle.lp_making.proofs.NewObject.{same_named}
use Rattle.lp_loading.proofs.simuls.object_named.Goals as goal

pub returns : goal.returns
returns c = λ told programs w h.
    c.find.ensures (map named_of w.objects) h.names ∙ ap (object_named (map named_of w.objects)) (ap chars c.as_str.ensures.value ∙ sym c.in_ok-text.ensures.chars) ∙ same_named w c.args.name.now

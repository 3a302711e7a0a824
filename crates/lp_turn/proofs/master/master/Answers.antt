use Rattle.std.proofs.Common.{◌∙◌, ap, map}
use Rattle.lp_objects.specs.Objects as named
use Rattle.lp_meaning.specs.WorldSteps.{master_name}
use Rattle.lp_world.specs.Stands.{named_of}
use Rattle.lp_making.proofs.NewObject.{same_named}
use Rattle.lp_turn.proofs.Words.{chars-master}
use Rattle.lp_turn.proofs.master.master.Goals as goal

pub returns : goal.returns
returns c = λ w h. c.find.ensures (map named_of w.objects) h ∙ ap (named.object_named (map named_of w.objects)) chars-master ∙ same_named w master_name

use Rattle.lp_targets.proofs.Memory.{brings_more, object_still, own_version_there}
use Rattle.lp_targets.proofs.bringing.bring_both.Goals as goal

pub bring_program-requires-clause-there : goal.bring_program-requires-clause-there
bring_program-requires-clause-there g c =
    own_version_there c.bring_object.new.live c.args.ob.0 c.version_of-version.result c.in-Ok.ensures.closed
    (object_still c.args.live.now c.bring_object.new.live c.args.ob.0 c.in-Ok.ensures.brings.stays c.requires.there) c.version_of-version.ensures

pub returns-in-Ok-clause-brings : goal.returns-in-Ok-clause-brings
returns-in-Ok-clause-brings g c = brings_more c.in-Ok.ensures.brings c.in-Ok.ensures.stands c.bring_program.ensures.brings

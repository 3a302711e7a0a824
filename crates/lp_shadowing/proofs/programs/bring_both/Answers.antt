use Rattle.lp_targets.proofs.Memory.{brings_more, object_still}
use Rattle.lp_shadowing.proofs.programs.bring_both.Goals as goal

pub bring_own-requires-in-Ok-clause-there : goal.bring_own-requires-in-Ok-clause-there
bring_own-requires-in-Ok-clause-there g c = object_still c.args.live.now c.bring_own.new.live c.args.second.0 c.in-Ok.ensures.brings.stays c.requires.second

pub returns-in-Ok-clause-brings : goal.returns-in-Ok-clause-brings
returns-in-Ok-clause-brings g c = brings_more c.in-Ok.ensures.brings c.in-Ok.ensures.stands c.bring_own-in-Ok.ensures.brings

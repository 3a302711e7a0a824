use Rattle.lp_targets.proofs.Memory.{own_version_there}
use Rattle.lp_shadowing.proofs.programs.bring_own.Goals as goal

pub bring_program-requires-clause-there : goal.bring_program-requires-clause-there
bring_program-requires-clause-there g c = own_version_there c.args.live.now c.args.ob.0 c.version_of-version.result c.requires.closed c.requires.there c.version_of-version.ensures

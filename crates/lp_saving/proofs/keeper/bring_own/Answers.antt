use Rattle.lp_targets.proofs.Memory.{brings_err, brings_no_memory, brings_ok, own_version_there, stays_same}
use Rattle.lp_saving.proofs.InMemory.{keeper, row_of}
use Rattle.lp_saving.proofs.keeper.bring_own.Goals as goal

pub version_of-version-requires : goal.version_of-version-requires
version_of-version-requires g c = row_of c.args.live.now.objects c.args.ob c.requires.here

pub bring_program-requires-clause-there : goal.bring_program-requires-clause-there
bring_program-requires-clause-there g c =
    own_version_there c.args.live.now c.args.ob.0 c.version_of-version.result c.requires.closed (row_of c.args.live.now.objects c.args.ob c.requires.here) c.version_of-version.ensures

pub returns-in-Ok-share_program-clause-brings : goal.returns-in-Ok-share_program-clause-brings
returns-in-Ok-share_program-clause-brings g c = brings_ok c.in-Ok.ensures.brings (stays_same c.bring_program.new.live)

pub returns-in-Err-share_program-clause-brings : goal.returns-in-Err-share_program-clause-brings
returns-in-Err-share_program-clause-brings g c = brings_no_memory c.in-Ok.ensures.brings

pub returns-in-Err-clause-brings : goal.returns-in-Err-clause-brings
returns-in-Err-clause-brings g c = brings_err c.in-Err.ensures.brings

pub returns-in-Ok-share_program-clause-keeper : goal.returns-in-Ok-share_program-clause-keeper
returns-in-Ok-share_program-clause-keeper g c =
    keeper c.args.live.now c.bring_program.new.live c.args.ob c.version_of-version.result c.in-Ok-share_program.code c.in-Ok.ensures.brings.stays c.requires.here c.version_of-version.ensures c.in-Ok-share_program.ensures

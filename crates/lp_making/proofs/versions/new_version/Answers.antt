use Rattle.lp_making.proofs.Made.{came, came_of}
use Rattle.lp_making.proofs.versions.new_version.Goals as goal

pub returns-clause-stands : goal.returns-clause-stands
returns-clause-stands c = came c.args.live.now c.add_version.new.live c.args.path c.args.program c.add_version.result c.requires.closed c.add_version.ensures.ok

pub returns-clause-file : goal.returns-clause-file
returns-clause-file c = came_of c.args.live.now c.add_version.new.live c.args.path c.args.program c.add_version.result c.requires.closed c.add_version.ensures.ok

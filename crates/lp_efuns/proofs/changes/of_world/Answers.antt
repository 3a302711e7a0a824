use Rattle.lp_efuns.proofs.Called.{same_variables}
use Rattle.lp_efuns.proofs.changes.of_world.Goals as goal

pub returns-in_default-clause-variables : goal.returns-in_default-clause-variables
returns-in_default-clause-variables c = same_variables c.args.live.now.objects c.of_tables.new.live.objects c.of_tables.ensures.objects

pub returns-in-EnableCommands-clause-there : goal.returns-in-EnableCommands-clause-there
returns-in-EnableCommands-clause-there c = c.enable_commands.ensures.there c.enable_commands.new.live.cells

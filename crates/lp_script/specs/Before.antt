-- What stands before an item, in the words of the definition.
use Rattle.lp_events.specs.Script.{Context}
use Rattle.lp_events.specs.Script as script
use Rattle.lp_script.specs.declared.before.Before.{Before}
use Rattle.lp_script.specs.declared.before.Stage.{Stage}
use Rattle.lp_script.specs.declared.before.Stage.TheVariants.{Beginning, Filing, Running, Over}

abbrev pub stage_of : Stage → script.Stage
stage_of Beginning = script.Beginning
stage_of Filing = script.Filing
stage_of Running = script.Running
stage_of Over = script.Over

-- the context that the code keeps
abbrev pub context_of : Before → Context
context_of b = record { stage = stage_of b.stage; moment = b.moment; last_path = b.last_path.items; highest = b.highest; connected = b.connections }

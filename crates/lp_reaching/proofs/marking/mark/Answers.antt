use Rattle.std.proofs.Common.{ap}
use Rattle.lp_world.specs.declared.live.Live.{Live}
use Rattle.lp_reaching.proofs.Entries.{marks, same_variables}
use Rattle.lp_reaching.proofs.marking.mark.Goals as goal

pub returns-clause-stands : goal.returns-clause-stands
returns-clause-stands c = λ told programs w h. marks told programs c.args.live.now c.count_entry.new.live w c.args.this c.args.program c.count_entry.ensures.stands h

pub returns-clause-variables : goal.returns-clause-variables
returns-clause-variables c = same_variables c.args.live.now c.count_entry.new.live c.args.this c.args.program c.count_entry.ensures.after

pub returns-clause-cells : goal.returns-clause-cells
returns-clause-cells c = ap (λ (l : Live). l.cells) c.count_entry.ensures.after

pub returns-clause-outputs : goal.returns-clause-outputs
returns-clause-outputs c = ap (λ (l : Live). l.outputs) c.count_entry.ensures.after

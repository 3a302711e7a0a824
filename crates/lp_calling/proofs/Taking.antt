-- A job takes an answer.
use Rattle.std.proofs.Common.{List, refl, sym}
use Rattle.lp_values.specs.declared.value.Value.{Value}
use Rattle.lp_world.specs.Rows.{live_in}
use Rattle.lp_world.specs.declared.live.Live.{Live}
use Rattle.lp_world.proofs.Keeping.{live_same}
use Rattle.lp_calling.specs.declared.job.Job.{Job}
use Rattle.lp_calling.specs.declared.job.Stage.{Stage}
use Rattle.lp_calling.specs.Going.{StageTakes, Takes}

-- its stage took it
pub takes_as : (job : Job) (v : Value) (live : Live) (stage : Stage) (stack0 stack1 : List Value) → StageTakes job.stage v (live_in live.objects) job.low stack0 stage stack1 → Takes job v live stack0 (record job { stage = stage }) stack1
takes_as job v live stage stack0 stack1 f low own q k =
    let i = f low own q k in record {
      own = i.own;
      stack = i.stack;
      height = refl;
      course = λ g turn budget by s h. i.course job.efun by s (sym (live_same g.told g.programs live s.world h.stands));
    }

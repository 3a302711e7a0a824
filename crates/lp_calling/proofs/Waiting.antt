-- A job waits for an answer.
use Rattle.std.proofs.Common.{◌≡◌, ◌∙◌, ◌+◌, ◌-◌, ◌≤◌, ◌++◌, ℕ, List, ap, arith, drop, length, length-append, subst, sym, take}
use Rattle.std.proofs.lemmas.List.{length-take-le, take-append-drop, take_at}
use Rattle.lp_values.specs.declared.value.Value.{Value}
use Rattle.lp_world.specs.declared.live.Live.{Live}
use Rattle.lp_efuns.specs.declared.caller.Turn.{Turn}
use Rattle.lp_calling.specs.declared.job.Job.{Job}
use Rattle.lp_calling.specs.declared.job.Stage.{Stage}
use Rattle.lp_calling.specs.declared.job.Stage.TheVariants as stages
use Rattle.lp_calling.specs.declared.job.Step.{Step}
use Rattle.lp_calling.specs.declared.job.Step.TheVariants as steps
use Rattle.lp_calling.specs.Going.{Goes, Waits}
use Rattle.lp_calling.specs.Jobs.{IsJobOn, IsStageOn}

-- a job's values lie on the stack
low_on : (stage : Stage) (low n : ℕ) → IsStageOn stage low n → low ≤ n
low_on (stages.Call o name) low n h = h
low_on (stages.Target name fun) low n h = h
low_on (stages.Load name) low n h = h
low_on (stages.Move m) low n h = h.0
low_on (stages.Items r) low n h = omega (arith, h.0)
low_on (stages.Tell o t) low n h = h
low_on (stages.Write t) low n h = h
low_on (stages.Say this t) low n h = h
low_on (stages.TellEach a) low n h = h
low_on (stages.Seek k) low n h = h
low_on (stages.MasterLoad w) low n h = h.0
low_on (stages.Master m w) low n h = h.0
low_on (stages.File d p) low n h = h
low_on (stages.Shadow this o) low n h = h
low_on stages.Value low n h = omega (arith, h)
low_on stages.Zero low n h = h
low_on (stages.Error kind) low n h = h

-- by how it goes on from what lies on the stack
pub waits_so : (r : Step) (job0 job1 : Job) (live0 live1 : Live) (turn0 turn1 : Turn) (stack0 stack1 : List Value) (b0 b1 : ℕ) → IsJobOn job0 stack0 → Goes r job0 live0 turn0 stack0 b0 job1 live1 turn1 stack1 b1 → Waits r job1 stack1
waits_so (steps.Ends a) job0 job1 live0 live1 turn0 turn1 stack0 stack1 b0 b1 on go = tt
waits_so (steps.Asks q n) job0 job1 live0 live1 turn0 turn1 stack0 stack1 b0 b1 on go =
    let i = go (take job0.low stack0) (drop job0.low stack0) (sym (take-append-drop job0.low stack0)) (length-take-le job0.low stack0 (low_on job0.stage job0.low (length stack0) on)) in
    let front : List Value = take job0.low stack0 ++ i.own in
    let size : length stack1 ≡ length front + length i.arguments = ap length i.stack ∙ length-append front i.arguments in
    let many : length i.arguments ≡ n = i.count in
    let below : length front ≡ length stack1 - n = omega arith in
    let there : take (length stack1 - n) stack1 ≡ front = ap (take (length stack1 - n)) i.stack ∙ take_at front i.arguments (length stack1 - n) below in
    (omega arith, subst (λ s. IsJobOn job1 s) (sym there) i.fits, i.is_asking)

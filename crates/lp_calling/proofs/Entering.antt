-- Jobs come to what they ask next, and go on from there.
use Rattle.std.proofs.Common.{◌≡◌, ◌∙◌, ℕ, true, List, All, refl, sym, subst}
use Rattle.lp_values.specs.declared.value.Value.{Value}
use Rattle.lp_cells.specs.Cells.{IsThere, KeepsThere}
use Rattle.lp_instr.specs.declared.efun.Efun.{Efun}
use Rattle.lp_language.specs.World.{World}
use Rattle.lp_language.specs.Course.{State}
use Rattle.lp_world.specs.Closed.{IsClosed}
use Rattle.lp_world.specs.declared.live.Live.{Live}
use Rattle.lp_step.specs.Steps.{IsFit}
use Rattle.lp_efuns.specs.declared.caller.Turn.{Turn}
use Rattle.lp_efuns.specs.Turns.{Setting}
use Rattle.lp_settling.specs.Settling.{Settles}
use Rattle.lp_settling.proofs.Still.{onward}
use Rattle.lp_calling.specs.declared.job.Job.{Job}
use Rattle.lp_calling.specs.declared.job.Stage.{Stage}
use Rattle.lp_calling.specs.declared.job.Stage.TheVariants as stages
use Rattle.lp_calling.specs.declared.job.Step.{Step}
use Rattle.lp_calling.specs.declared.job.Step.TheVariants as steps
use Rattle.lp_calling.specs.Beginning.{Settled}
use Rattle.lp_calling.specs.Entering.{Advances, Enters, IsPoised, JobEnters, is_direct}
use Rattle.lp_calling.specs.Going.{Goes}
use Rattle.lp_calling.specs.Jobs.{course_of}
use Rattle.lp_calling.proofs.Settled.{over_onward, settled_here}

-- what settles from what settled
pub settled_onward : (w : World) (s t : State) (g : Setting) (live : Live) (turn : Turn) (b : ℕ) → Settles w s.world → Settled s.world g live turn b t → Settled w g live turn b t
settled_onward w s t g live turn b h k = record { at = k.at; settles = onward w s.world t.world h k.settles }

-- A stage that asks or ends as it stands

pub direct_enters : (e : Efun) (stage : Stage) (below : ℕ) (live : Live) (turn : Turn) (stack : List Value) → Enters e stage below live turn stack stage live turn stack
direct_enters e stage below live turn stack low own q k = record { own = own; stack = q; course = λ g b by s h. (s, settled_here g live turn b s h, refl) }

pub direct_poised : (stage : Stage) (live : Live) (turn : Turn) → is_direct stage ≡ true → IsPoised stage live turn
direct_poised (stages.Call o name) live turn e = tt
direct_poised (stages.Target name fun) live turn e = tt
direct_poised (stages.Load name) live turn e = tt
direct_poised (stages.Move m) live turn e = cc
direct_poised (stages.Items r) live turn e = tt
direct_poised (stages.Tell o t) live turn e = tt
direct_poised (stages.Write t) live turn e = tt
direct_poised (stages.Say this t) live turn e = cc
direct_poised (stages.TellEach a) live turn e = cc
direct_poised (stages.Seek k) live turn e = cc
direct_poised (stages.MasterLoad w) live turn e = tt
direct_poised (stages.Master m w) live turn e = tt
direct_poised (stages.File d p) live turn e = cc
direct_poised (stages.Shadow this o) live turn e = cc
direct_poised stages.Value live turn e = tt
direct_poised stages.Zero live turn e = tt
direct_poised (stages.Error kind) live turn e = tt

-- One whose values stay

pub advanced : (e : Efun) (stage0 stage1 : Stage) (below : ℕ) (live0 live1 : Live) (turn0 turn1 : Turn) (stack : List Value) → Advances stage0 live0 turn0 stage1 live1 turn1 → Enters e stage0 below live0 turn0 stack stage1 live1 turn1 stack
advanced e stage0 stage1 below live0 live1 turn0 turn1 stack f low own q k = record { own = own; stack = q; course = f e own }

-- where nothing changed but outputs
pub fit_still : (live0 live1 : Live) (stack : List Value) → live1 ≡ record live0 { outputs = live1.outputs } → IsClosed live1 → IsFit live0 stack → IsFit live1 stack
fit_still live0 live1 stack q c h = record { closed = c; there = subst (λ (l : Live). All (IsThere l.cells) stack) (sym q) h.there }

pub stay_still : (live0 live1 : Live) → live1 ≡ record live0 { outputs = live1.outputs } → KeepsThere live0.cells live1.cells
stay_still live0 live1 q = subst (λ (l : Live). KeepsThere live0.cells l.cells) (sym q) (λ v h. h)

-- A job

-- What it goes on to from where it came it goes on to.
pub goes_entered : (r : Step) (job0 job job1 : Job) (live0 live live1 : Live) (turn0 turn turn1 : Turn) (stack0 stack stack1 : List Value) (b0 b1 : ℕ)
    → JobEnters job0 live0 turn0 stack0 job live turn stack → Goes r job live turn stack b0 job1 live1 turn1 stack1 b1 → Goes r job0 live0 turn0 stack0 b0 job1 live1 turn1 stack1 b1
goes_entered r job0 job job1 live0 live live1 turn0 turn turn1 stack0 stack stack1 b0 b1 en go =
    by r (subst (λ (j : Job). Goes r j live turn stack b0 job1 live1 turn1 stack1 b1) en.0 go)
  where
    from : Job
    from = record job0 { stage = job.stage }

    by : (r : Step) → Goes r from live turn stack b0 job1 live1 turn1 stack1 b1 → Goes r job0 live0 turn0 stack0 b0 job1 live1 turn1 stack1 b1
    by (steps.Ends a) f low own q k =
        let i = en.1 low own q k in
        let j = f low i.own i.stack k in
        record {
          stack = j.stack;
          course = λ g asker s h.
              let t = i.course g b0 asker s h in
              let o = over_onward s.world t.0.world g live1 turn1 b1 a (course_of from i.own asker t.0) t.1.settles (j.course g asker t.0 t.1.at) in
              (o.0, t.2 ∙ o.1, o.2);
        }
    by (steps.Asks c n) f low own q k =
        let i = en.1 low own q k in
        let j = f low i.own i.stack k in
        record {
          own = j.own;
          arguments = j.arguments;
          stack = j.stack;
          count = j.count;
          height = j.height;
          fits = j.fits;
          is_asking = j.is_asking;
          with_these = j.with_these;
          course = λ g asker s h.
              let t = i.course g b0 asker s h in
              let u = j.course g asker t.0 t.1.at in
              (u.0, settled_onward s.world t.0 u.0 g live1 turn1 b1 t.1.settles u.1, t.2 ∙ u.2);
        }

-- The efun `shadow`: how it begins, and what it is answered.
use Rattle.std.proofs.Common.{◌≡◌, ◌++◌, ◌+◌, ◌≤◌, ℕ, List, Option, Some, None, refl, ap, sym, subst, length, unwrap_or, arith}
use Rattle.std.proofs.Math.Nat.{le_trans}
use Rattle.lp_values.specs.declared.value.Value.{Value}
use Rattle.lp_code.specs.declared.program.RawProgram.{RawProgram}
use Rattle.lp_instr.specs.declared.efun.Efun.TheVariants as efuns
use Rattle.lp_swapfile.specs.Device.{Bytes}
use Rattle.lp_language.specs.Course.{Ask, Scene, State, outcome_of}
use Rattle.lp_meaning.specs.Askers.{asker_of, state_of}
use Rattle.lp_meaning.specs.Closing.{Ends}
use Rattle.lp_meaning.specs.FunctionCalls.{depth_behind}
use Rattle.lp_meaning.specs.Questions.{efun_in}
use Rattle.lp_world.specs.declared.live.Live.{Live}
use Rattle.lp_step.specs.Steps.{IsFit, KeepsVariables}
use Rattle.lp_run.proofs.Together.{home_later}
use Rattle.lp_efuns.specs.declared.answer.Answer.{Answer}
use Rattle.lp_efuns.specs.declared.caller.Caller.{Caller}
use Rattle.lp_calling.specs.declared.job.Begun.TheVariants as begun
use Rattle.lp_calling.specs.declared.job.Job.{Job}
use Rattle.lp_calling.specs.Beginning.{whole}
use Rattle.lp_calling.specs.Jobs.{IsReady, course_of}
use Rattle.lp_shadowing.specs.Shadowing.{BeginsShadow, HasBegunOver}
use Rattle.lp_asking.specs.declared.asker.Asker.{Asker}
use Rattle.lp_asking.specs.declared.ending.Place.{Place}
use Rattle.lp_asking.specs.Endings.{IsEndingThere, plain_end}
use Rattle.lp_asking.proofs.Courses.{over_ends}
use Rattle.lp_vm.specs.declared.request.Request.TheVariants as requests
use Rattle.lp_vm.specs.Answering.{CanServe, IsAsked, Served}
use Rattle.lp_vm.specs.Cycle.{Answers}
use Rattle.lp_vm.specs.Efuns.{ending_of}
use Rattle.lp_vm.specs.Looking.{HasBegunWith}
use Rattle.lp_vm.specs.Requests.{AsksEfun}
use Rattle.lp_vm.specs.Working.{IsWorking}
use Rattle.lp_vm.proofs.Answered.{answer_outcome, at_start, efun_has, scene_so, serves_spends, setting}
use Rattle.lp_vm.proofs.Carried.{world_settled}
use Rattle.lp_vm.proofs.Startings.{same_asker}

module _ (at : Place) (told : Option Bytes) (live0 live1 : Live) (stack0 stack1 : List Value) (asker : Asker) (args budget0 budget1 : ℕ) (caller : Caller)
    (same_this : caller.this ≡ at.this) (same_interactive : caller.interactive ≡ asker.interactive) (same_callers : caller.callers.now ≡ asker.callers.items) where
  -- It ended before it asked.
  module _ (x : Answer) (begins : BeginsShadow (begun.Ends x) caller told live0 stack0 args budget0 live1 stack1 budget1) where
    ended_served : Served (requests.Efun at efuns.Shadow) args told live0 stack0 asker budget0 told live1 stack1 asker budget1 (ending_of x)
    ended_served front real programs a below h is =
        let q = is.0 in
        let r = begins asker.turn below a.arguments h.lies h.many in
        let over = r.course (setting told programs live0.outputs) (asker_of a) q.scene (state_of a) refl (scene_so caller programs asker at efuns.Shadow a q same_this same_interactive same_callers)
        (at_start told programs live0 stack0 below asker args budget0 a h) h.world in
        record {
          outcome = outcome_of (plain_end over.0);
          has = efun_has front a efuns.Shadow q.scene over.0 q.scene_is q.what (subst (λ t. Ends front t over.0) (sym over.1) (over_ends front over.0));
          is = answer_outcome told programs live0.outputs live0 live1 asker budget1 x a.world over.0 h.world over.2;
          left = r.stack;
        }

    pub shadow_ended : KeepsVariables live0.objects live1.objects → IsFit live1 stack1 → IsEndingThere live1.cells (ending_of x) → CanServe told live0 stack0 asker budget0 (requests.Efun at efuns.Shadow) args
        → Answers (requests.Efun at efuns.Shadow) args told live0 stack0 asker budget0 told live1 stack1 asker budget1 (ending_of x)
    shadow_ended home fit there can = record {
      served = ended_served;
      same = same_asker asker;
      spends = serves_spends told told live0 live1 stack0 stack1 asker asker args budget0 budget1 (requests.Efun at efuns.Shadow) (ending_of x) can ended_served;
      home = home;
      fit = fit;
      there = there;
    }

  -- It goes on as a job.
  module _ (job : Job) (begins : BeginsShadow (begun.Runs job) caller told live0 stack0 args budget0 live1 stack1 budget1) where
    begun_at : (below : List Value) (a : Ask) → stack0 ≡ below ++ a.arguments → length a.arguments ≡ args → HasBegunOver job (whole efuns.Shadow a.arguments) caller told live0 live1 asker.turn budget0 below stack1 budget1
    begun_at below a lies many = begins asker.turn below a.arguments lies many

    -- it works in the world in which the efun was asked for
    record WorksFrom (programs : List RawProgram) (a : Ask) (c : Scene) (below : List Value) : Type 0 where
      state : State
      own : List Value
      working : IsWorking at job told programs live0.outputs live1 stack1 asker budget1 (asker_of a) c state below own
      course : efun_in efuns.Shadow (asker_of a) c a.arguments (state_of a) ≡ course_of job own (asker_of a) state

    works_from : (programs : List RawProgram) (a : Ask) (below : List Value) → IsAsked told programs live0 stack0 below asker args budget0 a → (q : AsksEfun programs asker at efuns.Shadow a) → WorksFrom programs a q.scene below
    works_from programs a below h q =
        let b = begun_at below a h.lies h.many in
        let r = b.course (setting told programs live0.outputs) (asker_of a) q.scene (state_of a) refl (scene_so caller programs asker at efuns.Shadow a q same_this same_interactive same_callers)
        (at_start told programs live0 stack0 below asker args budget0 a h) h.world in
        let deep : q.scene.depth + 1 ≡ asker.depth + 1 = deep_by a.scene q.scene_is h.by.depth in
        record {
          state = r.0;
          own = b.own;
          working = record {
            fits = record { at = r.1.at; world = world_settled told programs live0 live1 a.world r.0.world h.world r.1.at.stands r.1.settles };
            scene = q.scene_is;
            interactive = h.by.interactive;
            loads = h.by.loads;
            runs = q.runs;
            callers = q.callers;
            depth = omega (arith, deep);
            lies = b.stack;
            height = b.height;
          };
          course = r.2;
        }
      where
        deep_by : (s : Option Scene) → s ≡ Some q.scene → depth_behind s ≡ asker.depth + 1 → q.scene.depth + 1 ≡ asker.depth + 1
        deep_by None e d = absurd (cc)
        deep_by (Some c) e d = let k : c ≡ q.scene = ap (λ o. unwrap_or o q.scene) e in omega (arith, ap (λ z. z.depth) k, d)

    pub shadow_begun : budget1 ≤ budget0 → KeepsVariables live0.objects live1.objects → IsFit live1 stack1 → IsReady live1.objects job → CanServe told live0 stack0 asker budget0 (requests.Efun at efuns.Shadow) args
        → HasBegunWith at efuns.Shadow args told live0 stack0 asker budget0 job told live1 stack1 asker budget1
    shadow_begun spends home fit ready can = record {
      spends = spends;
      fit = fit;
      on = (begun_at can.below can.ask can.asked.lies can.asked.many).fits;
      ready = ready;
      can = λ h.
          let w = works_from h.programs h.ask h.below h.asked h.is.0 in
          record { front = h.front; real = h.real; programs = h.programs; before = live0.outputs; by = asker_of h.ask; scene = h.is.0.scene; state = w.state; low = h.below; own = w.own; working = w.working };
      answers = λ told2 live2 stack2 asker2 budget2 e works. record {
        served = λ front real programs a below h is.
            let w = works_from programs a below h is.0 in
            let y = works.worked front real programs live0.outputs (asker_of a) is.0.scene w.state below w.own w.working in
            record {
              outcome = outcome_of (plain_end y.end);
              has = efun_has front a efuns.Shadow is.0.scene y.end is.0.scene_is is.0.what (subst (λ t. Ends front t y.end) (sym w.course) y.ends);
              is = y.is;
              left = y.left;
            };
        same = works.same;
        spends = le_trans works.spends spends;
        home = home_later live0.objects live1.objects live2.objects home works.home;
        fit = works.fit;
        there = works.there;
      };
    }

-- The cycle of calls: one turn of a function after another.
use Rattle.std.proofs.Common.{◌≡◌, ◌≤◌, ℕ, List, Option, Some, None, sym, subst}
use Rattle.std.proofs.Math.Nat.{le_trans}
use Rattle.lp_values.specs.declared.value.Value.{Value}
use Rattle.lp_swapfile.specs.Device.{Bytes}
use Rattle.lp_world.specs.declared.frame.Frame.{Frame}
use Rattle.lp_world.specs.declared.live.Live.{Live}
use Rattle.lp_step.specs.Steps.{IsFit, KeepsVariables}
use Rattle.lp_run.proofs.Together.{home_later}
use Rattle.lp_asking.specs.declared.asker.Asker.{Asker}
use Rattle.lp_asking.specs.declared.ending.Ending.{Ending}
use Rattle.lp_asking.specs.Endings.{IsEndingThere}
use Rattle.lp_asking.specs.Resuming.{Resumes}
use Rattle.lp_vm.specs.declared.request.Request.{Request}
use Rattle.lp_vm.specs.Answering.{IsSameAsker}
use Rattle.lp_vm.specs.Cycle.{Answers, Finishes}
use Rattle.lp_vm.specs.Going.{CanGo, Continues}
use Rattle.lp_vm.specs.Turns.{Calls}
use Rattle.lp_vm.proofs.Enterings.{can_go_on, goes_to_end}
use Rattle.lp_vm.proofs.Startings.{same_later}

-- after some turns it ends
pub finishes_later : (told0 told1 told2 : Option Bytes) (live0 live1 live2 : Live) (stack0 stack1 stack2 : List Value) (frame0 frame1 : Frame) (asker0 asker1 asker2 : Asker) (budget0 budget1 budget2 : ℕ) (e : Ending)
    → Continues told0 live0 stack0 frame0 asker0 budget0 told1 live1 stack1 frame1 asker1 budget1 → IsSameAsker asker0 asker1 → budget1 ≤ budget0 → KeepsVariables live0.objects live1.objects
    → Finishes told1 live1 stack1 frame1 asker1 budget1 told2 live2 stack2 asker2 budget2 e → Finishes told0 live0 stack0 frame0 asker0 budget0 told2 live2 stack2 asker2 budget2 e
finishes_later told0 told1 told2 live0 live1 live2 stack0 stack1 stack2 frame0 frame1 asker0 asker1 asker2 budget0 budget1 budget2 e goes same spends home h = record {
  went = goes_to_end told0 told1 told2 live0 live1 live2 stack0 stack1 stack2 frame0 frame1 asker0 asker1 asker2 budget0 budget1 budget2 e goes h.went;
  same = same_later asker0 asker1 asker2 same h.same;
  spends = le_trans h.spends spends;
  home = home_later live0.objects live1.objects live2.objects home h.home;
  fit = h.fit;
  there = h.there;
}

module _ (request : Request) (args : ℕ) (told0 told1 told2 : Option Bytes) (live0 live1 live2 : Live) (stack0 stack1 stack2 stack3 : List Value) (frame0 frame1 frame3 : Frame) (asker0 asker2 : Asker) (budget0 budget1 budget2 : ℕ) (e : Ending)
    (calls : Calls request args told0 live0 stack0 frame0 budget0 told1 live1 stack1 frame1 budget1) (answers : Answers request args told1 live1 stack1 asker0 budget1 told2 live2 stack2 asker2 budget2 e) (fit : IsFit live2 stack3) where
  -- what was answered ends it
  pub call_finishes : (x : Ending) → Resumes (Some x) 0 e stack2 frame1 stack3 frame3 → x ≡ e → Finishes told0 live0 stack0 frame0 asker0 budget0 told2 live2 stack3 asker2 budget2 x
  call_finishes x resumes same = record {
    went = calls.turns told2 live2 stack2 stack3 frame3 asker0 asker2 budget2 e (Some x) answers resumes fit;
    same = answers.same;
    spends = le_trans answers.spends calls.spends;
    home = home_later live0.objects live1.objects live2.objects calls.home answers.home;
    fit = fit;
    there = subst (IsEndingThere live2.cells) (sym same) answers.there;
  }

  -- or it goes on
  pub call_continues : Resumes None 0 e stack2 frame1 stack3 frame3 → Continues told0 live0 stack0 frame0 asker0 budget0 told2 live2 stack3 frame3 asker2 budget2
  call_continues resumes = calls.turns told2 live2 stack2 stack3 frame3 asker0 asker2 budget2 e None answers resumes fit

  pub call_can : CanGo told0 live0 stack0 frame0 asker0 budget0 → Resumes None 0 e stack2 frame1 stack3 frame3 → CanGo told2 live2 stack3 frame3 asker2 budget2
  call_can can resumes = can_go_on told0 told2 live0 live2 stack0 stack3 frame0 frame3 asker0 asker2 budget0 budget2 can (call_continues resumes)

  pub call_spends : budget2 ≤ budget0
  call_spends = le_trans answers.spends calls.spends

  pub call_home : KeepsVariables live0.objects live2.objects
  call_home = home_later live0.objects live1.objects live2.objects calls.home answers.home

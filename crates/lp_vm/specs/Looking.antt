-- Efuns that a running function calls begin, also those for which programs come into memory.
use Rattle.std.specs.Prelude.{◌≡◌, ◌≤◌, ℕ, List, Option}
use Rattle.lp_values.specs.declared.value.Value.{Value}
use Rattle.lp_instr.specs.declared.efun.Efun.{Efun}
use Rattle.lp_swapfile.specs.Device.{Bytes}
use Rattle.lp_world.specs.declared.live.Live.{Live}
use Rattle.lp_step.specs.Steps.{IsFit}
use Rattle.lp_calling.specs.declared.job.Job.{Job}
use Rattle.lp_calling.specs.Jobs.{IsJobOn, IsReady}
use Rattle.lp_asking.specs.declared.asker.Asker.{Asker}
use Rattle.lp_asking.specs.declared.ending.Ending.{Ending}
use Rattle.lp_asking.specs.declared.ending.Place.{Place}
use Rattle.lp_vm.specs.declared.efuns.EfunBegun.{EfunBegun}
use Rattle.lp_vm.specs.declared.efuns.EfunBegun.TheVariants as begun
use Rattle.lp_vm.specs.declared.request.Request.TheVariants as requests
use Rattle.lp_vm.specs.Answering.{CanServe}
use Rattle.lp_vm.specs.Cycle.{Answers, Works}
use Rattle.lp_vm.specs.Working.{CanWork}

-- An efun goes on as a job, whatever came into memory for it. That can work, and however it ends, the efun is answered by that.
pub record HasBegunWith (at : Place) (efun : Efun) (args : ℕ) (told0 : Option Bytes) (live0 : Live) (stack0 : List Value) (asker0 : Asker) (budget0 : ℕ) (job : Job) (told1 : Option Bytes) (live1 : Live) (stack1 : List Value) (asker1 : Asker) (budget1 : ℕ) : Type 0 where
  pub spends : budget1 ≤ budget0
  pub fit : IsFit live1 stack1
  pub on : IsJobOn job stack1
  pub ready : IsReady live1.objects job
  pub can : CanServe told0 live0 stack0 asker0 budget0 (requests.Efun at efun) args → CanWork at job told1 live1 stack1 asker1 budget1
  pub answers : (told2 : Option Bytes) (live2 : Live) (stack2 : List Value) (asker2 : Asker) (budget2 : ℕ) (e : Ending)
      → Works at job told1 live1 stack1 asker1 budget1 told2 live2 stack2 asker2 budget2 e → Answers (requests.Efun at efun) args told0 live0 stack0 asker0 budget0 told2 live2 stack2 asker2 budget2 e

-- An efun begins: it is answered at once, or goes on as a job, whatever came into memory for it.
abbrev pub BeginsEfun : EfunBegun → Place → Efun → ℕ → Option Bytes → Live → List Value → Asker → ℕ → Option Bytes → Live → List Value → Asker → ℕ → Type 0
BeginsEfun (begun.Answered e) at efun args told0 live0 stack0 asker0 budget0 told1 live1 stack1 asker1 budget1 = Answers (requests.Efun at efun) args told0 live0 stack0 asker0 budget0 told1 live1 stack1 asker1 budget1 e
BeginsEfun (begun.Works job) at efun args told0 live0 stack0 asker0 budget0 told1 live1 stack1 asker1 budget1 = HasBegunWith at efun args told0 live0 stack0 asker0 budget0 job told1 live1 stack1 asker1 budget1

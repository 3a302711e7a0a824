-- Efuns that a running function calls begin.
use Rattle.std.specs.Prelude.{◌≡◌, ◌≤◌, ℕ, List, Option, None, Bool, true, false}
use Rattle.lp_values.specs.declared.value.Value.{Value}
use Rattle.lp_instr.specs.declared.efun.Efun.{Efun}
use Rattle.lp_instr.specs.declared.efun.Efun.TheVariants as efuns
use Rattle.lp_swapfile.specs.Device.{Bytes}
use Rattle.lp_world.specs.declared.live.Live.{Live}
use Rattle.lp_step.specs.Steps.{IsFit}
use Rattle.lp_efuns.specs.declared.answer.Answer.{Answer}
use Rattle.lp_efuns.specs.declared.answer.Answer.TheVariants as answers
use Rattle.lp_calling.specs.declared.job.Job.{Job}
use Rattle.lp_calling.specs.Jobs.{IsJobOn, IsReady}
use Rattle.lp_object_efuns.specs.Called.{is_with_program}
use Rattle.lp_asking.specs.declared.asker.Asker.{Asker}
use Rattle.lp_asking.specs.declared.ending.Cause.{Cause}
use Rattle.lp_asking.specs.declared.ending.Cause.TheVariants as causes
use Rattle.lp_asking.specs.declared.ending.Ending.{Ending}
use Rattle.lp_asking.specs.declared.ending.Ending.TheVariants as endings
use Rattle.lp_asking.specs.declared.ending.Place.{Place}
use Rattle.lp_vm.specs.declared.efuns.EfunBegun.{EfunBegun}
use Rattle.lp_vm.specs.declared.efuns.EfunBegun.TheVariants as begun
use Rattle.lp_vm.specs.declared.request.Request.TheVariants as requests
use Rattle.lp_vm.specs.Answering.{CanServe}
use Rattle.lp_vm.specs.Cycle.{Answers, Works}
use Rattle.lp_vm.specs.Working.{CanWork}

-- a stop in no function of its own
abbrev pub stopped_by : Cause → Ending
stopped_by c = endings.Stopped (record { cause = c; place = None })

-- the answer of an efun as how its call ends
abbrev pub ending_of : Answer → Ending
ending_of (answers.Value v) = endings.Value v
ending_of (answers.Error e) = stopped_by (causes.Failed e)
ending_of (answers.Thrown v) = stopped_by (causes.Thrown v)
ending_of answers.Spent = stopped_by causes.Spent

-- Which efuns there are. Beside those that are answered at once, those that go on as jobs, and those that look into the program of an
-- object, four stand alone: one shadows, one clones, one carries out a line, and one ends an object.
abbrev pub is_shadow : Efun → Bool
is_shadow efuns.Shadow = true
is_shadow _ = false

abbrev pub is_clone : Efun → Bool
is_clone efuns.CloneObject = true
is_clone _ = false

abbrev pub is_command : Efun → Bool
is_command efuns.Command = true
is_command _ = false

abbrev pub is_ending : Efun → Bool
is_ending efuns.Destruct = true
is_ending _ = false

-- it is not carried out by steps of the cycle that are for it alone
abbrev pub HasNoSteps : Efun → Type 0
HasNoSteps e = (is_clone e ≡ false) × (is_command e ≡ false)

-- nor does a program come into memory for it
abbrev pub BringsNothing : Efun → Type 0
BringsNothing e = (is_with_program e ≡ false) × (is_shadow e ≡ false) × HasNoSteps e

-- An efun goes on as a job. That can work, and however it ends, the efun is answered by that.
pub record HasBegunEfun (at : Place) (efun : Efun) (args : ℕ) (live0 : Live) (stack0 : List Value) (asker0 : Asker) (budget0 : ℕ) (job : Job) (live1 : Live) (stack1 : List Value) (asker1 : Asker) (budget1 : ℕ) : Type 0 where
  pub spends : budget1 ≤ budget0
  pub fit : IsFit live1 stack1
  pub on : IsJobOn job stack1
  pub ready : IsReady live1.objects job
  pub can : (told : Option Bytes) → CanServe told live0 stack0 asker0 budget0 (requests.Efun at efun) args → CanWork at job told live1 stack1 asker1 budget1
  pub answers : (told0 told1 : Option Bytes) (live2 : Live) (stack2 : List Value) (asker2 : Asker) (budget2 : ℕ) (e : Ending)
      → Works at job told0 live1 stack1 asker1 budget1 told1 live2 stack2 asker2 budget2 e → Answers (requests.Efun at efun) args told0 live0 stack0 asker0 budget0 told1 live2 stack2 asker2 budget2 e

-- An efun begins: it is answered at once, or goes on as a job.
abbrev pub StartsEfun : EfunBegun → Place → Efun → ℕ → Live → List Value → Asker → ℕ → Live → List Value → Asker → ℕ → Type 0
StartsEfun (begun.Answered e) at efun args live0 stack0 asker0 budget0 live1 stack1 asker1 budget1 = (told : Option Bytes) → Answers (requests.Efun at efun) args told live0 stack0 asker0 budget0 told live1 stack1 asker1 budget1 e
StartsEfun (begun.Works job) at efun args live0 stack0 asker0 budget0 live1 stack1 asker1 budget1 = HasBegunEfun at efun args live0 stack0 asker0 budget0 job live1 stack1 asker1 budget1

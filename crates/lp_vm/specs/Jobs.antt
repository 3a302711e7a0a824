-- A job goes on until it asks or ends, and goes on with what is answered.
use Rattle.std.specs.Prelude.{◌≡◌, ◌<◌, ◌≤◌, ⊤, ℕ, List, Option, Some, None, IfSome, take}
use Rattle.lp_values.specs.declared.id.ObjId.{ObjId}
use Rattle.lp_values.specs.declared.value.Value.{Value}
use Rattle.lp_swapfile.specs.Device.{Bytes}
use Rattle.lp_world.specs.declared.live.Live.{Live}
use Rattle.lp_step.specs.Steps.{IsFit, KeepsVariables}
use Rattle.lp_calling.specs.declared.job.Job.{Job}
use Rattle.lp_calling.specs.declared.job.Question.{Question}
use Rattle.lp_calling.specs.declared.job.Question.TheVariants as questions
use Rattle.lp_calling.specs.Going.{Takes}
use Rattle.lp_calling.specs.Jobs.{IsAsking, IsJobOn, IsReady, player_back, questions_left}
use Rattle.lp_asking.specs.declared.asker.Asker.{Asker}
use Rattle.lp_asking.specs.declared.ending.Ending.{Ending}
use Rattle.lp_asking.specs.declared.ending.Place.{Place}
use Rattle.lp_asking.specs.declared.ending.Ending.TheVariants as endings
use Rattle.lp_asking.specs.Endings.{IsEndingThere}
use Rattle.lp_loading.specs.declared.job.Answer.{Answer}
use Rattle.lp_loading.specs.declared.job.Purpose.TheVariants as purposes
use Rattle.lp_reaching.specs.declared.reached.Reached.{Reached}
use Rattle.lp_reaching.specs.Reaching.{IsInMemory}
use Rattle.lp_vm.specs.declared.request.Request.TheVariants as requests
use Rattle.lp_vm.specs.declared.working.Stepped.{Stepped}
use Rattle.lp_vm.specs.declared.working.Stepped.TheVariants as steps
use Rattle.lp_vm.specs.Answering.{CanServe, IsSameAsker}
use Rattle.lp_vm.specs.Cycle.{Answers, Works}
use Rattle.lp_vm.specs.Loaded.{loaded_ending}
use Rattle.lp_vm.specs.Loading.{CanLoad, Loads}
use Rattle.lp_vm.specs.Working.{CanWork, FindsAsked, IsCall, WorkContinues, WorkTurned}

-- what an answer makes of a job: it takes a value; a stop ends it, and nothing is left of it on the stack
abbrev pub Feeds : Option Ending → Ending → Job → Live → List Value → Job → List Value → Type 0
Feeds None (endings.Value v) job0 live stack0 job1 stack1 = Takes job0 v live stack0 job1 stack1
Feeds None (endings.Stopped s) job0 live stack0 job1 stack1 = ⊥
Feeds (Some e) (endings.Value v) job0 live stack0 job1 stack1 = ⊥
Feeds (Some e) (endings.Stopped s) job0 live stack0 job1 stack1 = (e ≡ endings.Stopped s) × (stack1 ≡ take job0.low stack0)

-- who asks, with `this_player()` put back where a job changed it for a question that has ended
abbrev pub asker_back : Job → Asker → Asker
asker_back job asker = record asker { turn = record asker.turn { player = player_back job.stage asker.turn.player } }

-- where it goes on, it finds its values on the stack, is ready, and asks less from now on
abbrev pub FedOn : Option Ending → Job → Job → Live → List Value → Type 0
FedOn None job0 job1 live stack1 = IsJobOn job1 stack1 × IsReady live.objects job1 × (questions_left job1 < questions_left job0)
FedOn (Some e) job0 job1 live stack1 = ⊤

-- A question asks the machine so: for what reaches a function, with so many arguments, or for a load.
abbrev pub AsksFor : Stepped → ObjId → Question → ℕ → Option Bytes → Live → Option Bytes → Live → Type 0
AsksFor (steps.Ended e) this q args told0 live0 told1 live1 = ⊥
AsksFor (steps.Asks found n) this q args told0 live0 told1 live1 = IsCall q × FindsAsked this q told0 live0 told1 live1 found × (n ≡ args)
AsksFor (steps.Loads name) this q args told0 live0 told1 live1 = (q ≡ questions.Load name) × (told1 ≡ told0) × (live1 ≡ live0)

-- what is called is in memory
abbrev pub IsStepThere : Live → Stepped → Type 0
IsStepThere live (steps.Ended e) = ⊤
IsStepThere live (steps.Asks found n) = IfSome found (λ x. IsInMemory live x.callee x.code)
IsStepThere live (steps.Loads name) = ⊤

-- A job asks what reaches this, in a turn that may be another one. It can be answered; and whatever is answered, the job goes on
-- with that, or ends.
pub record WorkAsks (found : Option Reached) (args : ℕ) (at : Place) (job0 : Job) (told0 : Option Bytes) (live0 : Live) (stack0 : List Value) (asker0 : Asker) (budget0 : ℕ) (job1 : Job) (told1 : Option Bytes) (live1 : Live) (stack1 : List Value) (asker1 : Asker) (budget1 : ℕ) : Type 0 where
  pub spends : budget1 ≤ budget0
  pub home : KeepsVariables live0.objects live1.objects
  pub fit : IsFit live1 stack1
  pub left : questions_left job1 ≤ questions_left job0
  pub asking : IsAsking job1
  pub same : IsSameAsker asker0 asker1
  pub can : CanWork at job0 told0 live0 stack0 asker0 budget0 → CanServe told1 live1 stack1 asker1 budget1 (requests.Function found) args
  pub on : (told2 : Option Bytes) (live2 : Live) (stack2 : List Value) (asker2 : Asker) (budget2 : ℕ) (e : Ending)
      → CanWork at job0 told0 live0 stack0 asker0 budget0 → Answers (requests.Function found) args told1 live1 stack1 asker1 budget1 told2 live2 stack2 asker2 budget2 e → IsJobOn job1 stack2
  pub turns : (job3 : Job) (told2 : Option Bytes) (live2 : Live) (stack2 stack3 : List Value) (asker2 asker3 : Asker) (budget2 : ℕ) (e : Ending) (r : Option Ending)
      → Answers (requests.Function found) args told1 live1 stack1 asker1 budget1 told2 live2 stack2 asker2 budget2 e → Feeds r e job1 live2 stack2 job3 stack3 → asker3 ≡ asker_back job1 asker2
      → WorkTurned r at job0 told0 live0 stack0 asker0 budget0 job3 told2 live2 stack3 asker3 budget2

-- Or it asks for a load. That can be carried out; and however it ends, the job goes on with that, or ends.
pub record WorkLoads (name : List ℕ) (at : Place) (job0 : Job) (told0 : Option Bytes) (live0 : Live) (stack0 : List Value) (asker0 : Asker) (budget0 : ℕ) (job1 : Job) (told1 : Option Bytes) (live1 : Live) (stack1 : List Value) (asker1 : Asker) (budget1 : ℕ) : Type 0 where
  pub spends : budget1 ≤ budget0
  pub home : KeepsVariables live0.objects live1.objects
  pub fit : IsFit live1 stack1
  pub left : questions_left job1 ≤ questions_left job0
  pub asking : IsAsking job1
  pub same : IsSameAsker asker0 asker1
  pub can : CanWork at job0 told0 live0 stack0 asker0 budget0 → CanLoad (Some at.this) (Some at) told1 live1 asker1 budget1
  pub on : (told2 : Option Bytes) (live2 : Live) (stack2 : List Value) (asker2 : Asker) (budget2 : ℕ) (r : Answer)
      → CanWork at job0 told0 live0 stack0 asker0 budget0 → Loads (Some at.this) (Some at) name purposes.Wanted told1 live1 stack1 asker1 budget1 told2 live2 stack2 asker2 budget2 r → IsJobOn job1 stack2
  pub turns : (job3 : Job) (told2 : Option Bytes) (live2 : Live) (stack2 stack3 : List Value) (asker2 asker3 : Asker) (budget2 : ℕ) (r : Answer) (t : Option Ending)
      → Loads (Some at.this) (Some at) name purposes.Wanted told1 live1 stack1 asker1 budget1 told2 live2 stack2 asker2 budget2 r → Feeds t (loaded_ending name r) job1 live2 stack2 job3 stack3 → asker3 ≡ asker_back job1 asker2
      → WorkTurned t at job0 told0 live0 stack0 asker0 budget0 job3 told2 live2 stack3 asker3 budget2

-- or it ends, as its course does
abbrev pub StepsTo : Stepped → Place → Job → Option Bytes → Live → List Value → Asker → ℕ → Job → Option Bytes → Live → List Value → Asker → ℕ → Type 0
StepsTo (steps.Ended e) at job0 told0 live0 stack0 asker0 budget0 job1 told1 live1 stack1 asker1 budget1 = Works at job0 told0 live0 stack0 asker0 budget0 told1 live1 stack1 asker1 budget1 e
StepsTo (steps.Asks found args) at job0 told0 live0 stack0 asker0 budget0 job1 told1 live1 stack1 asker1 budget1 = WorkAsks found args at job0 told0 live0 stack0 asker0 budget0 job1 told1 live1 stack1 asker1 budget1
StepsTo (steps.Loads name) at job0 told0 live0 stack0 asker0 budget0 job1 told1 live1 stack1 asker1 budget1 = WorkLoads name at job0 told0 live0 stack0 asker0 budget0 job1 told1 live1 stack1 asker1 budget1

-- What is answered is taken

-- whatever a function answers, the job finds its values on the stack
abbrev pub StaysOn : Option Reached → ℕ → Job → Option Bytes → Live → List Value → Asker → ℕ → Type 0
StaysOn found args job told0 live0 stack0 asker0 budget0 =
    (told1 : Option Bytes) (live1 : Live) (stack1 : List Value) (asker1 : Asker) (budget1 : ℕ) (e : Ending) → Answers (requests.Function found) args told0 live0 stack0 asker0 budget0 told1 live1 stack1 asker1 budget1 e → IsJobOn job stack1

-- and likewise however its load ends
abbrev pub StaysOnLoaded : Place → List ℕ → Job → Option Bytes → Live → List Value → Asker → ℕ → Type 0
StaysOnLoaded at name job told0 live0 stack0 asker0 budget0 =
    (told1 : Option Bytes) (live1 : Live) (stack1 : List Value) (asker1 : Asker) (budget1 : ℕ) (r : Answer) → Loads (Some at.this) (Some at) name purposes.Wanted told0 live0 stack0 asker0 budget0 told1 live1 stack1 asker1 budget1 r → IsJobOn job stack1

-- What reaches this is answered, and the job goes on with that, or ends; `this_player()` is put back.
pub record TakesAnswer (t : Option Ending) (found : Option Reached) (args : ℕ) (job0 : Job) (told0 : Option Bytes) (live0 : Live) (stack0 : List Value) (asker0 : Asker) (budget0 : ℕ) (job1 : Job) (told1 : Option Bytes) (live1 : Live) (stack1 : List Value) (asker1 : Asker) (budget1 : ℕ) : Type 0 where
  pub stack : List Value
  pub asker : Asker
  pub ending : Ending
  pub answers : Answers (requests.Function found) args told0 live0 stack0 asker0 budget0 told1 live1 stack asker budget1 ending
  pub feeds : Feeds t ending job0 live1 stack job1 stack1
  pub back : asker1 ≡ asker_back job0 asker
  pub on : FedOn t job0 job1 live1 stack1
  pub fit : IsFit live1 stack1
  pub same : IfSome t (λ e. e ≡ ending)

-- A load by this name ends, and the job goes on with how, or ends with that; and likewise.
pub record TakesLoad (t : Option Ending) (at : Place) (name : List ℕ) (job0 : Job) (told0 : Option Bytes) (live0 : Live) (stack0 : List Value) (asker0 : Asker) (budget0 : ℕ) (job1 : Job) (told1 : Option Bytes) (live1 : Live) (stack1 : List Value) (asker1 : Asker) (budget1 : ℕ) : Type 0 where
  pub stack : List Value
  pub asker : Asker
  pub answer : Answer
  pub loads : Loads (Some at.this) (Some at) name purposes.Wanted told0 live0 stack0 asker0 budget0 told1 live1 stack asker budget1 answer
  pub feeds : Feeds t (loaded_ending name answer) job0 live1 stack job1 stack1
  pub back : asker1 ≡ asker_back job0 asker
  pub on : FedOn t job0 job1 live1 stack1
  pub fit : IsFit live1 stack1
  pub there : IfSome t (IsEndingThere live1.cells)

-- ONE STEP, with what was answered to what it asked. The job goes on with what is left of its course: it finds its values on the stack, is
-- ready, and asks less from now on. The budget does not rise; who asks is as before, but for the turn; what is in memory stays there; and the
-- state is closed.
pub record WorkGoesOn (at : Place) (job0 : Job) (told0 : Option Bytes) (live0 : Live) (stack0 : List Value) (asker0 : Asker) (budget0 : ℕ) (job1 : Job) (told1 : Option Bytes) (live1 : Live) (stack1 : List Value) (asker1 : Asker) (budget1 : ℕ) : Type 0 where
  pub goes : WorkContinues at job0 told0 live0 stack0 asker0 budget0 job1 told1 live1 stack1 asker1 budget1
  pub on : IsJobOn job1 stack1
  pub ready : IsReady live1.objects job1
  pub less : questions_left job1 < questions_left job0
  pub same : IsSameAsker asker0 asker1
  pub spends : budget1 ≤ budget0
  pub home : KeepsVariables live0.objects live1.objects
  pub fit : IsFit live1 stack1

-- or it ended, as its course does
abbrev pub WorkTurnsTo : Option Ending → Place → Job → Option Bytes → Live → List Value → Asker → ℕ → Job → Option Bytes → Live → List Value → Asker → ℕ → Type 0
WorkTurnsTo None at job0 told0 live0 stack0 asker0 budget0 job1 told1 live1 stack1 asker1 budget1 = WorkGoesOn at job0 told0 live0 stack0 asker0 budget0 job1 told1 live1 stack1 asker1 budget1
WorkTurnsTo (Some e) at job0 told0 live0 stack0 asker0 budget0 job1 told1 live1 stack1 asker1 budget1 = Works at job0 told0 live0 stack0 asker0 budget0 told1 live1 stack1 asker1 budget1 e

-- A function that asked goes on with what was answered.
use Rattle.std.proofs.Common.{◌≡◌, ◌+◌, ◌<◌, ◌≤◌, ℕ, List, Option, Some, None, IsSome, length, refl, sym, subst, arith}
use Rattle.lp_values.specs.declared.id.ObjId.{ObjId}
use Rattle.lp_values.specs.declared.value.Value.{Value}
use Rattle.lp_code.specs.declared.program.FunRow.{FunRow}
use Rattle.lp_code.specs.declared.program.RawProgram.{RawProgram}
use Rattle.lp_code.specs.Programs.{IsFunction}
use Rattle.lp_instr.specs.declared.efun.Efun.{Efun}
use Rattle.lp_instr.specs.declared.efun.Efun.TheVariants as efuns
use Rattle.lp_instr.specs.Sound.{Shapes}
use Rattle.lp_language.specs.Course.{Course}
use Rattle.lp_isa.specs.Machine.{Moment}
use Rattle.lp_world.specs.Matches.{Around}
use Rattle.lp_swapfile.specs.Device.{Bytes}
use Rattle.lp_world.specs.declared.frame.Frame.{Frame}
use Rattle.lp_world.specs.declared.live.Live.{Live}
use Rattle.lp_world.specs.declared.objects.Object.{Object}
use Rattle.lp_world.specs.Rows.{row_at, variables_at, variables_in}
use Rattle.lp_step.specs.Steps.{IsFit, KeepsVariables}
use Rattle.lp_step.specs.declared.next.CallOf.{CallOf}
use Rattle.lp_step.specs.declared.next.EfunCall.{EfunCall}
use Rattle.lp_step_laws.specs.Running.{HasVariables}
use Rattle.lp_run.specs.Runs.{CanRun, left_of}
use Rattle.lp_run.proofs.Together.{home_later, left_same}
use Rattle.lp_asking.specs.declared.advance.Halt.TheVariants as halts
use Rattle.lp_asking.specs.declared.asker.Asker.{Asker}
use Rattle.lp_asking.specs.declared.ending.Ending.{Ending}
use Rattle.lp_asking.specs.declared.question.Question.{Question}
use Rattle.lp_asking.specs.Asking.{question_of}
use Rattle.lp_asking.specs.Endings.{IsEndingThere}
use Rattle.lp_asking.specs.Resuming.{Resumes}
use Rattle.lp_asking.specs.Stopping.{Advances}
use Rattle.lp_reaching.specs.declared.reached.Reached.{Reached}
use Rattle.lp_reaching.specs.Reaching.{CanAsk, Finds}
use Rattle.lp_vm.specs.declared.request.Request.{Request}
use Rattle.lp_vm.specs.declared.request.Request.TheVariants as requests
use Rattle.lp_vm.specs.Answering.{CanServe}
use Rattle.lp_vm.specs.Cycle.{Answers, Finishes}
use Rattle.lp_vm.specs.Going.{CanGo, IsGoing, Turned}
use Rattle.lp_vm.specs.Laying.{HasText, Lays}
use Rattle.lp_vm.specs.Requests.{IsRequest, IsRequestThere, place_in}
use Rattle.lp_vm.specs.Turns.{Calls, CanHalt}
use Rattle.lp_vm.proofs.Enterings.{can_run}
use Rattle.lp_vm.proofs.Startings.{same_asker}
use Rattle.lp_vm.proofs.Turning.{asks_efun, asks_inside, came_to_end, is_asked, turns, world_asked, world_now}
use Rattle.lp_vm.proofs.Waiting.{AtEfun, Waits, ask_of, at_call, at_efun, at_other, call_enough, call_text}

-- an object in memory has its row
pub row_home : (rows : List (Option Object)) (o : ObjId) (k : ℕ) → HasVariables (variables_at rows o) k → IsSome (row_at rows o.0)
row_home rows o k h = by (row_at rows o.0) h
  where
    by : (r : Option Object) → HasVariables (variables_in r) k → IsSome r
    by None g = absurd g
    by (Some x) g = refl

-- a function that can halt can run
pub halt_runs : (told : Option Bytes) (live : Live) (stack : List Value) (frame : Frame) (budget : ℕ) → CanHalt told live stack frame budget → CanRun live stack frame budget
halt_runs told live stack frame budget h = can_run told live stack frame h.0 budget h.1

-- the object of a function that asks
pub object_asks : (told : Option Bytes) (live0 live1 : Live) (stack0 stack1 : List Value) (frame0 frame1 : Frame) (budget0 budget1 : ℕ) (call : CallOf) → CanHalt told live0 stack0 frame0 budget0
    → Advances (halts.Call call) live0 stack0 frame0 budget0 live1 stack1 frame1 budget1 → IsSome (row_at live1.objects frame1.this.0)
object_asks told live0 live1 stack0 stack1 frame0 frame1 budget0 budget1 call h advances =
    let g = h.1 in
    let c = advances g.p g.k g.row g.function g.around g.moment g.going.of g.going.runs in
    row_home live1.objects frame1.this (g.around.scene.base + g.around.variables)
    (subst (λ o. HasVariables (variables_at live1.objects o) (g.around.scene.base + g.around.variables)) (sym c.matches.sits.belongs.this) c.home)

-- and that of one that calls an efun
pub object_back : (told : Option Bytes) (live0 live1 : Live) (stack0 stack1 : List Value) (frame0 frame1 : Frame) (budget0 budget1 : ℕ) (call : EfunCall) → CanHalt told live0 stack0 frame0 budget0
    → Advances (halts.Back call) live0 stack0 frame0 budget0 live1 stack1 frame1 budget1 → IsSome (row_at live1.objects frame1.this.0)
object_back told live0 live1 stack0 stack1 frame0 frame1 budget0 budget1 call h advances =
    let g = h.1 in
    let c = advances g.p g.k g.row g.function g.around g.moment g.going.of g.going.runs in
    row_home live1.objects frame1.this (g.around.scene.base + g.around.variables)
    (subst (λ o. HasVariables (variables_at live1.objects o) (g.around.scene.base + g.around.variables)) (sym c.matches.sits.belongs.this) c.home)

-- in some world it asks
pub can_ask : (told : Option Bytes) (live0 live1 : Live) (stack0 stack1 : List Value) (frame0 frame1 : Frame) (budget0 budget1 : ℕ) (call : CallOf) (q : Question) → CanHalt told live0 stack0 frame0 budget0
    → Advances (halts.Call call) live0 stack0 frame0 budget0 live1 stack1 frame1 budget1 → question_of call.target ≡ Some q → CanAsk told live1 frame1.this frame1.part frame1.code q
can_ask told live0 live1 stack0 stack1 frame0 frame1 budget0 budget1 call q h advances stays =
    let g = h.1 in
    let c = advances g.p g.k g.row g.function g.around g.moment g.going.of g.going.runs in
    let d = at_call g.function.shapes g.around g.moment live1 stack1 frame1 budget1 call q c stays in
    record {
      programs = g.around.programs;
      asker = h.0;
      ask = ask_of g.around d.waits;
      asks = asks_inside g.p g.k g.row g.function g.around g.moment g.course told live0 live1 stack0 stack1 frame0 frame1 h.0 budget0 budget1 call.args g.going d.waits q d.means;
      world = world_now g.p g.k g.row g.function g.around g.moment g.course told live0 live1 stack0 stack1 frame0 frame1 h.0 budget0 budget1 call.args g.going d.waits;
    }

-- what a call takes is there
pub call_there : (told : Option Bytes) (live0 live1 : Live) (stack0 stack1 : List Value) (frame0 frame1 : Frame) (budget0 budget1 : ℕ) (call : CallOf) → CanHalt told live0 stack0 frame0 budget0
    → Advances (halts.Call call) live0 stack0 frame0 budget0 live1 stack1 frame1 budget1 → (call.args ≤ length stack1) × HasText call.target frame1.code
call_there told live0 live1 stack0 stack1 frame0 frame1 budget0 budget1 call h advances =
    let g = h.1 in
    let c = advances g.p g.k g.row g.function g.around g.moment g.going.of g.going.runs in
    (call_enough g.function.shapes g.around g.moment live1 stack1 frame1 budget1 call c, call_text g.function.shapes g.around g.moment live1 stack1 frame1 budget1 call c)

-- a function that came to its end
pub ended_finishes : (told : Option Bytes) (live0 live1 : Live) (stack0 stack1 : List Value) (frame0 frame1 : Frame) (budget0 budget1 : ℕ) (e : Ending) → Advances (halts.Ended e) live0 stack0 frame0 budget0 live1 stack1 frame1 budget1
    → IsEndingThere live1.cells e → KeepsVariables live0.objects live1.objects → budget1 ≤ budget0 → IsFit live1 stack1 → (asker : Asker) → Finishes told live0 stack0 frame0 asker budget0 told live1 stack1 asker budget1 e
ended_finishes told live0 live1 stack0 stack1 frame0 frame1 budget0 budget1 e advances there home spends fit asker = record {
  went = λ front real p k row f a m course g. came_to_end front p k row f a m course told live0 live1 stack0 stack1 frame0 asker budget0 budget1 e g (advances p k row f a m g.of g.runs);
  same = same_asker asker;
  spends = spends;
  home = home;
  fit = fit;
  there = there;
}

-- A FUNCTION THAT ASKS

-- It waits for the answer of a question that is this request.
pub record AsksSo (request : Request) (args : ℕ) (told1 : Option Bytes) (live1 live2 : Live) (stack1 : List Value) (frame1 : Frame) (asker0 : Asker) (budget1 : ℕ) (shapes : Shapes) (a : Around) (m : Moment) : Type 0 where
  pub waits : Waits shapes a m live1 stack1 frame1 budget1 args
  pub is : IsRequest request told1 a.programs live2 asker0 (ask_of a waits)

-- so in every world in which it ran
abbrev pub Asking : Request → ℕ → Option Bytes → Live → List Value → Frame → ℕ → Option Bytes → Live → Live → List Value → Frame → ℕ → Type 0
Asking request args told0 live0 stack0 frame0 budget0 told1 live1 live2 stack1 frame1 budget1 =
    (p : RawProgram) (k : ℕ) (row : FunRow) (f : IsFunction p k row) (a : Around) (m : Moment) (course : Course Value) (asker0 : Asker) → IsGoing p k row f a m course told0 live0 stack0 frame0 asker0 budget0
    → AsksSo request args told1 live1 live2 stack1 frame1 asker0 budget1 f.shapes a m

-- a function of its object, which was found
pub asks_function : (told0 told1 : Option Bytes) (live0 live1 live2 : Live) (stack0 stack1 : List Value) (frame0 frame1 : Frame) (budget0 budget1 : ℕ) (call : CallOf) (q : Question) (found : Option Reached)
    → Advances (halts.Call call) live0 stack0 frame0 budget0 live1 stack1 frame1 budget1 → question_of call.target ≡ Some q → Finds frame1.this frame1.part frame1.code q told0 live1 told1 live2 found
    → Asking (requests.Function found) call.args told0 live0 stack0 frame0 budget0 told1 live1 live2 stack1 frame1 budget1
asks_function told0 told1 live0 live1 live2 stack0 stack1 frame0 frame1 budget0 budget1 call q found advances stays finds p k row f a m course asker0 g =
    let d = at_call f.shapes a m live1 stack1 frame1 budget1 call q (advances p k row f a m g.of g.runs) stays in
    record {
      waits = d.waits;
      is = finds a.programs asker0 (ask_of a d.waits) (asks_inside p k row f a m course told0 live0 live1 stack0 stack1 frame0 frame1 asker0 budget0 budget1 call.args g d.waits q d.means)
          (world_now p k row f a m course told0 live0 live1 stack0 stack1 frame0 frame1 asker0 budget0 budget1 call.args g d.waits);
    }

asks_at : (told : Option Bytes) (live0 live1 : Live) (stack0 stack1 : List Value) (frame0 frame1 : Frame) (budget0 budget1 args : ℕ) (e : Efun) (p : RawProgram) (k : ℕ) (row : FunRow) (f : IsFunction p k row) (a : Around) (m : Moment) (course : Course Value) (asker0 : Asker)
    → IsGoing p k row f a m course told live0 stack0 frame0 asker0 budget0 → AtEfun f.shapes a m live1 stack1 frame1 budget1 args e → AsksSo (requests.Efun (place_in frame1) e) args told live1 live1 stack1 frame1 asker0 budget1 f.shapes a m
asks_at told live0 live1 stack0 stack1 frame0 frame1 budget0 budget1 args e p k row f a m course asker0 g d = record {
  waits = d.waits;
  is = (
    asks_efun p k row f a m course told live0 live1 stack0 stack1 frame0 frame1 asker0 budget0 budget1 args g d.waits e d.what,
    world_now p k row f a m course told live0 live1 stack0 stack1 frame0 frame1 asker0 budget0 budget1 args g d.waits,
  );
}

-- an efun
pub asks_back : (told : Option Bytes) (live0 live1 : Live) (stack0 stack1 : List Value) (frame0 frame1 : Frame) (budget0 budget1 : ℕ) (call : EfunCall) → Advances (halts.Back call) live0 stack0 frame0 budget0 live1 stack1 frame1 budget1
    → Asking (requests.Efun (place_in frame1) call.efun) call.args told live0 stack0 frame0 budget0 told live1 live1 stack1 frame1 budget1
asks_back told live0 live1 stack0 stack1 frame0 frame1 budget0 budget1 call advances p k row f a m course asker0 g =
    asks_at told live0 live1 stack0 stack1 frame0 frame1 budget0 budget1 call.args call.efun p k row f a m course asker0 g (at_efun f.shapes a m live1 stack1 frame1 budget1 call (advances p k row f a m g.of g.runs))

-- a function of another object, or a simul efun, through `call_other`
pub asks_other : (told : Option Bytes) (live0 live1 : Live) (stack0 stack1 stack2 : List Value) (frame0 frame1 : Frame) (budget0 budget1 args : ℕ) (call : CallOf) → Advances (halts.Call call) live0 stack0 frame0 budget0 live1 stack1 frame1 budget1
    → question_of call.target ≡ None → Lays call.target frame1.code live1 call.args stack1 args stack2
    → Asking (requests.Efun (place_in frame1) efuns.CallOther) args told live0 stack0 frame0 budget0 told live1 live1 stack2 frame1 budget1
asks_other told live0 live1 stack0 stack1 stack2 frame0 frame1 budget0 budget1 args call advances goes lays p k row f a m course asker0 g =
    asks_at told live0 live1 stack0 stack2 frame0 frame1 budget0 budget1 args efuns.CallOther p k row f a m course asker0 g
    (at_other f.shapes a m live1 stack1 stack2 frame1 budget1 args call (advances p k row f a m g.of g.runs) goes lays)

module _ (told0 told1 : Option Bytes) (live0 live1 live2 : Live) (stack0 stack1 : List Value) (frame0 frame1 : Frame) (budget0 budget1 args : ℕ) (request : Request)
    (asks : Asking request args told0 live0 stack0 frame0 budget0 told1 live1 live2 stack1 frame1 budget1) (outs : live2.outputs ≡ live1.outputs) (memory : IsRequestThere live2 request) where
  can_serve : (asker : Asker) → CanGo told0 live0 stack0 frame0 asker budget0 → CanServe told1 live2 stack1 asker budget1 request args
  can_serve asker h =
      let d = asks h.p h.k h.row h.function h.around h.moment h.course asker h.going in
      record {
        front = h.front;
        real = h.real;
        programs = h.around.programs;
        ask = ask_of h.around d.waits;
        below = d.waits.low;
        asked = is_asked h.p h.k h.row h.function h.around h.moment h.course told0 live0 live1 stack0 stack1 frame0 frame1 asker budget0 budget1 args h.going d.waits told1 live2 (world_asked request told1 h.around.programs live2 asker (ask_of h.around d.waits) d.is);
        is = d.is;
        there = memory;
      }

  module _ (told3 : Option Bytes) (live3 : Live) (stack3 stack4 : List Value) (frame4 : Frame) (asker0 asker3 : Asker) (budget3 : ℕ) (e : Ending) (home : KeepsVariables live1.objects live2.objects)
      (answers : Answers request args told1 live2 stack1 asker0 budget1 told3 live3 stack3 asker3 budget3 e) (fit : IsFit live3 stack4) where
    kept : KeepsVariables live1.objects live3.objects
    kept = home_later live1.objects live2.objects live3.objects home answers.home

    turned : (r : Option Ending) → Resumes r 0 e stack3 frame1 stack4 frame4 → Turned r told0 live0 stack0 frame0 asker0 budget0 told3 live3 stack4 frame4 asker3 budget3
    turned None h = λ front real p k row f a m course g.
        let d = asks p k row f a m course asker0 g in
        (turns front real p k row f a m course told0 told1 told3 live0 live1 live2 live3 stack0 stack1 stack3 stack4 frame0 frame1 frame4 asker0 asker3 budget0 budget1 budget3 args request e g d.waits d.is outs answers.served answers.same kept None h fit).0
    turned (Some x) h = λ front real p k row f a m course g.
        let d = asks p k row f a m course asker0 g in
        turns front real p k row f a m course told0 told1 told3 live0 live1 live2 live3 stack0 stack1 stack3 stack4 frame0 frame1 frame4 asker0 asker3 budget0 budget1 budget3 args request e g d.waits d.is outs answers.served answers.same kept (Some x) h fit

    nearer : CanGo told0 live0 stack0 frame0 asker0 budget0 → Resumes None 0 e stack3 frame1 stack4 frame4 → left_of frame4 budget3 < left_of frame0 budget0
    nearer g h =
        let d = asks g.p g.k g.row g.function g.around g.moment g.course asker0 g.going in
        let less = (turns g.front g.real g.p g.k g.row g.function g.around g.moment g.course told0 told1 told3 live0 live1 live2 live3 stack0 stack1 stack3 stack4 frame0 frame1 frame4 asker0 asker3 budget0 budget1 budget3 args request e g.going
        d.waits d.is outs answers.served answers.same kept None h fit).1 in
        omega (arith, less, left_same g.around live0 stack0 frame0 budget0 g.moment g.going.runs.matches)

  pub calls : (home0 : KeepsVariables live0.objects live1.objects) (home : KeepsVariables live1.objects live2.objects) (spends : budget1 ≤ budget0) (fit : IsFit live2 stack1) → Calls request args told0 live0 stack0 frame0 budget0 told1 live2 stack1 frame1 budget1
  calls home0 home spends fit = record {
    spends = spends;
    fit = fit;
    home = home_later live0.objects live1.objects live2.objects home0 home;
    can = can_serve;
    turns = λ told3 live3 stack3 stack4 frame4 asker0 asker3 budget3 e r answers resumes fit. turned told3 live3 stack3 stack4 frame4 asker0 asker3 budget3 e home answers fit r resumes;
    nearer = λ told3 live3 stack3 stack4 frame4 asker0 asker3 budget3 e can answers resumes fit. nearer told3 live3 stack3 stack4 frame4 asker0 asker3 budget3 e home answers fit can resumes;
  }

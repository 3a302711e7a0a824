-- Calls that begin, and what they end with.
use Rattle.std.proofs.Common.{◌≡◌, ◌∙◌, ◌-◌, ◌≤◌, ℕ, List, Option, Some, None, refl, ap, sym, subst, length, length-append, take, arith}
use Rattle.std.proofs.Math.Nat.{le_refl}
use Rattle.std.specs.Prelude.{is_some, pos}
use Rattle.lp_values.specs.declared.id.ObjId.{ObjId}
use Rattle.lp_values.specs.declared.value.Value.{Value}
use Rattle.lp_values.specs.declared.value.Value.TheVariants as values
use Rattle.lp_cells.specs.Cells.{Store}
use Rattle.lp_swapfile.specs.Device.{Bytes}
use Rattle.lp_world.specs.declared.frame.Frame.{Frame}
use Rattle.lp_world.specs.declared.live.Live.{Live}
use Rattle.lp_step.specs.Steps.{IsFit, KeepsVariables}
use Rattle.lp_run.proofs.Together.{home_later, home_same}
use Rattle.lp_asking.specs.declared.asker.Asker.{Asker}
use Rattle.lp_asking.specs.declared.ending.Ending.{Ending}
use Rattle.lp_asking.specs.declared.ending.Ending.TheVariants as endings
use Rattle.lp_asking.specs.declared.ending.Place.{Place}
use Rattle.lp_asking.specs.declared.ending.Stop.{Stop}
use Rattle.lp_asking.specs.Beginning.{HasCaller, HasNoCaller, IsPlaced}
use Rattle.lp_asking.specs.Endings.{IsEndingThere}
use Rattle.lp_reaching.specs.Reaching.{IsInMemory}
use Rattle.lp_vm.specs.declared.entering.Begun.TheVariants as begun
use Rattle.lp_reaching.specs.declared.reached.Reached.{Reached}
use Rattle.lp_vm.specs.declared.request.Request.{Request}
use Rattle.lp_vm.specs.declared.request.Request.TheVariants as requests
use Rattle.lp_vm.specs.Answering.{Begins, IsSameAsker}
use Rattle.lp_vm.specs.Beginning.{CanStart, HasEntered, IsBegun, left_behind}
use Rattle.lp_vm.specs.Cycle.{Answers}
use Rattle.lp_vm.proofs.Enterings.{called_so, can_go, entered_ran, served_none, served_some}

-- so many arguments are there
pub enough : (live : Live) (stack : List Value) (asker : Asker) (budget args : ℕ) (request : Request) → CanStart live stack asker budget request args → args ≤ length stack
enough live stack asker budget args request h =
    let s = h.1 in
    let i = s.asked in
    omega (arith, ap length i.lies, length-append s.below s.ask.arguments, i.many)

pub memory_there : (live : Live) (stack : List Value) (asker : Asker) (budget args : ℕ) (x : Reached) → CanStart live stack asker budget (requests.Function (Some x)) args → IsInMemory live x.callee x.code
memory_there live stack asker budget args x h = h.1.there

pub same_asker : (a : Asker) → IsSameAsker a a
same_asker a = record { interactive = refl; loads = refl; callers = refl; depth = refl }

pub asker_too : (a b : Asker) → b ≡ a → IsSameAsker a b
asker_too a b e = subst (IsSameAsker a) (sym e) (same_asker a)

pub same_later : (a b c : Asker) → IsSameAsker a b → IsSameAsker b c → IsSameAsker a c
same_later a b c h k = record { interactive = k.interactive ∙ h.interactive; loads = k.loads ∙ h.loads; callers = k.callers ∙ h.callers; depth = k.depth ∙ h.depth }

-- What reaches nothing is answered 0.
pub none_answers : (live : Live) (stack0 stack1 : List Value) (asker : Asker) (args budget : ℕ) → stack1 ≡ take (length stack0 - args) stack0 → IsFit live stack1 → (told : Option Bytes)
    → Answers (requests.Function None) args told live stack0 asker budget told live stack1 asker budget (endings.Value (values.Int (pos 0)))
none_answers live stack0 stack1 asker args budget t fit told = record {
  served = served_none told live stack0 stack1 asker args budget t;
  same = same_asker asker;
  spends = le_refl budget;
  home = home_same live.objects;
  fit = fit;
  there = tt;
}

-- What does not begin is answered by what stops it.
pub stopped_answers : (live0 live1 : Live) (stack0 stack1 : List Value) (asker0 asker1 : Asker) (x : Reached) (args budget0 budget1 : ℕ) (s : Stop) → Begins (begun.Stopped s) x.callee x.code x.caller args live0 stack0 asker0 budget0 live1 stack1 asker1 budget1
    → IsBegun (begun.Stopped s) x.caller live1 stack1 asker0 budget0 asker1 budget1 → KeepsVariables live0.objects live1.objects → (told : Option Bytes)
    → Answers (requests.Function (Some x)) args told live0 stack0 asker0 budget0 told live1 stack1 asker1 budget1 (endings.Stopped s)
stopped_answers live0 live1 stack0 stack1 asker0 asker1 x args budget0 budget1 s begins is home told = record {
  served = served_some live0 live1 stack0 stack1 asker0 asker1 x args budget0 budget1 told told (endings.Stopped s) (λ front real programs a callers subject below h called. begins front real told programs a callers subject below h called);
  same = asker_too asker0 asker1 is.0;
  spends = is.1;
  home = home;
  fit = is.2;
  there = is.3;
}

placed_there : (cells : Store) (place : Place) (e given : Ending) → IsPlaced place e given → IsEndingThere cells e → IsEndingThere cells given
placed_there cells place (endings.Value v) given p h = subst (IsEndingThere cells) (sym p) h
placed_there cells place (endings.Stopped s) given p h = subst (IsEndingThere cells) (sym p) h

-- the callers of who asks, before this call
abbrev asker_before : Asker → Asker → Asker
asker_before a b = record b { callers = a.callers; depth = a.depth }

caller_came : (caller : Option ObjId) (asker0 asker1 asker2 : Asker) → HasCaller caller asker0 asker1 → IsSameAsker asker1 asker2 → HasCaller caller (asker_before asker0 asker2) asker2
caller_came caller asker0 asker1 asker2 h same = record { turn = refl; interactive = refl; loads = refl; callers = same.callers ∙ h.callers; depth = same.depth ∙ h.depth }

asker_back : (caller : Option ObjId) (asker0 asker1 asker2 asker3 : Asker) → HasCaller caller asker0 asker1 → IsSameAsker asker1 asker2 → HasNoCaller (is_some caller) caller (asker_before asker0 asker2) asker2 asker3 → IsSameAsker asker0 asker3
asker_back caller asker0 asker1 asker2 asker3 h same back = record {
  interactive = back.interactive ∙ same.interactive ∙ h.interactive;
  loads = ap (λ ls. ls.items) back.loads ∙ same.loads ∙ ap (λ ls. ls.items) h.loads;
  callers = back.callers refl;
  depth = back.depth;
}

-- What begins runs, and its call is answered by what it ends with.
pub runs_answers : (live0 live1 : Live) (stack0 stack1 : List Value) (asker0 asker1 : Asker) (x : Reached) (args budget0 budget1 : ℕ) (frame : Frame) → Begins (begun.Runs frame) x.callee x.code x.caller args live0 stack0 asker0 budget0 live1 stack1 asker1 budget1
    → IsBegun (begun.Runs frame) x.caller live1 stack1 asker0 budget0 asker1 budget1 → KeepsVariables live0.objects live1.objects → IsInMemory live0 x.callee x.code
    → HasEntered (Some x) args live0 stack0 asker0 budget0 live1 stack1 frame (left_behind x (length stack0) args) asker1 budget1
runs_answers live0 live1 stack0 stack1 asker0 asker1 x args budget0 budget1 frame begins is home memory = record {
  less = is.1;
  can = λ told h. can_go told live0 live1 stack0 stack1 frame asker0 asker1 x args budget0 budget1 h begins;
  depth = λ told0 told1 live2 stack2 asker2 budget2 e fin. omega (arith, fin.same.depth, is.0.depth);
  bottom = λ told0 told1 live2 stack2 asker2 budget2 e h fin.
      let b = begins h.front h.real told0 h.programs h.ask h.is.callers h.is.subject h.below h.asked (called_so told0 h.programs live0 asker0 h.ask x h.is) in
      let y = fin.went h.front h.real b.p b.k b.row b.function b.around b.moment b.body b.going in
      omega (arith, ap length h.asked.lies, length-append h.below h.ask.arguments, h.asked.many, ap length y.lies, length-append b.around.below y.top, ap length b.below_is);
  answers = λ told0 told1 live2 stack2 stack3 asker2 asker3 budget2 e given fin cut back placed fit.
      let gone = back (asker_before asker0 asker2) x.caller (caller_came x.caller asker0 asker1 asker2 is.0 fin.same) in
      record {
        served = served_some live0 live2 stack0 stack3 asker0 asker3 x args budget0 budget2 told0 told1 given
            (entered_ran live0 live1 live2 stack0 stack1 stack2 stack3 frame asker0 asker1 asker2 asker3 x.callee x.code x.caller args budget0 budget1 budget2 (length stack0 - args) told0 told1 e given begins fin.went memory refl cut gone.turn placed);
        same = asker_back x.caller asker0 asker1 asker2 asker3 is.0 fin.same gone;
        spends = omega (arith, is.1, fin.spends);
        home = home_later live0.objects live1.objects live2.objects home fin.home;
        fit = fit;
        there = placed_there live2.cells (left_behind x (length stack0) args).place e given placed fin.there;
      };
}

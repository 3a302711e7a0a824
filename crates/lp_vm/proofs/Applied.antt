-- What an apply means, and what it reaches.
use Rattle.std.proofs.Common.{◌≡◌, ℕ, List, Option, IfOk, IfSome, Result, Ok, Err, subst}
use Rattle.std.specs.Prelude.{OnOk}
use Rattle.lp_values.specs.declared.id.ObjId.{ObjId}
use Rattle.lp_values.specs.declared.value.Value.{Value}
use Rattle.lp_code.specs.declared.program.RawProgram.{RawProgram}
use Rattle.lp_events.specs.declared.out.Out.{Out}
use Rattle.lp_swapfile.specs.Device.{Bytes}
use Rattle.lp_language.specs.Course.{Ask}
use Rattle.lp_front_end.specs.FrontEnds.{ThereIsOne}
use Rattle.lp_world.specs.declared.live.Live.{Live}
use Rattle.lp_targets.specs.Callees.{IsWorldOf}
use Rattle.lp_asking.specs.declared.asker.Asker.{Asker}
use Rattle.lp_asking.specs.declared.ending.Ending.{Ending}
use Rattle.lp_reaching.specs.declared.reached.Reached.{Reached}
use Rattle.lp_reaching.specs.Reaching.{CanApply, FindsApplied, IsInMemory}
use Rattle.lp_vm.specs.declared.request.Request.TheVariants as requests
use Rattle.lp_vm.specs.Answering.{CanServe, IsAsked, Served, Serves}
use Rattle.lp_vm.specs.Applying.{CallIsMeant, CanCall}
use Rattle.lp_vm.proofs.Turning.{world_reached}

-- The call

-- the question is asked still, in the state with what was brought
pub asked_still : (told0 told1 : Option Bytes) (programs : List RawProgram) (live0 live1 : Live) (stack below : List Value) (asker : Asker) (args budget : ℕ) (a : Ask) → IsWorldOf told1 programs live1 a.world → IsAsked told0 programs live0 stack below asker args budget a
    → IsAsked told1 programs live1 stack below asker args budget a
asked_still told0 told1 programs live0 live1 stack below asker args budget a w h = record { by = h.by; world = w; left = h.left; lies = h.lies; many = h.many }

pub can_answer : (caller : Option ObjId) (ob : ObjId) (name : List ℕ) (args : ℕ) (told0 told1 : Option Bytes) (live0 live1 : Live) (stack : List Value) (asker : Asker) (budget : ℕ) (r : Option Reached) → ThereIsOne → CanCall caller ob name args told0 live0 stack asker budget
    → FindsApplied caller ob name told0 live0 told1 live1 r → IfSome r (λ x. IsInMemory live1 x.callee x.code) → CanServe told1 live1 stack asker budget (requests.Function r) args
can_answer caller ob name args told0 told1 live0 live1 stack asker budget r one h finds there =
    let reached = finds h.programs asker h.ask h.applies h.asked.world in
    record {
      front = one.0;
      real = one.1;
      programs = h.programs;
      ask = h.ask;
      below = h.below;
      asked = asked_still told0 told1 h.programs live0 live1 stack h.below asker args budget h.ask (world_reached told1 h.programs live1 asker h.ask r reached) h.asked;
      is = reached;
      there = there;
    }

pub call_meant : (caller : Option ObjId) (ob : ObjId) (name : List ℕ) (args : ℕ) (told0 told1 told2 : Option Bytes) (live0 live1 live2 : Live) (stack0 stack1 : List Value) (asker0 asker1 : Asker) (budget0 budget1 : ℕ) (r : Option Reached) (e : Ending)
    → FindsApplied caller ob name told0 live0 told1 live1 r → live1.outputs ≡ live0.outputs → Served (requests.Function r) args told1 live1 stack0 asker0 budget0 told2 live2 stack1 asker1 budget1 e
    → CallIsMeant caller ob name args told0 live0 stack0 asker0 budget0 told2 live2 stack1 asker1 budget1 e
call_meant caller ob name args told0 told1 told2 live0 live1 live2 stack0 stack1 asker0 asker1 budget0 budget1 r e finds outs served front real programs a below h applies =
    let reached = finds programs asker0 a applies h.world in
    subst (λ (o : List Out). Serves front told2 programs o live2 stack1 below asker1 budget1 e a) outs
    (served front real programs a below (asked_still told0 told1 programs live0 live1 stack0 below asker0 args budget0 a (world_reached told1 programs live1 asker0 a r reached) h) reached)

pub can_apply : (caller : Option ObjId) (ob : ObjId) (name : List ℕ) (args : ℕ) (told : Option Bytes) (live : Live) (stack : List Value) (asker : Asker) (budget : ℕ) → CanCall caller ob name args told live stack asker budget → CanApply told live caller ob name
can_apply caller ob name args told live stack asker budget h = record { programs = h.programs; asker = asker; ask = h.ask; asks = h.applies; world = h.asked.world }

-- what follows of each answer
pub on_ok_by : {A E : Type 0} {P : A → Type 0} {Q : Type 0} (r : Result A E) → ((x : A) → P x → Q) → IfOk r P → OnOk r Q
on_ok_by (Ok x) f h = f x h
on_ok_by (Err e) f h = tt

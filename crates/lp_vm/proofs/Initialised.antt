-- What a call of initialisers means, and what it reaches.
use Rattle.std.proofs.Common.{◌≡◌, ℕ, List, Option, IfSome, subst}
use Rattle.lp_values.specs.declared.id.ObjId.{ObjId}
use Rattle.lp_values.specs.declared.value.Value.{Value}
use Rattle.lp_events.specs.declared.out.Out.{Out}
use Rattle.lp_swapfile.specs.Device.{Bytes}
use Rattle.lp_front_end.specs.FrontEnds.{ThereIsOne}
use Rattle.lp_world.specs.declared.live.Live.{Live}
use Rattle.lp_asking.specs.declared.asker.Asker.{Asker}
use Rattle.lp_asking.specs.declared.ending.Ending.{Ending}
use Rattle.lp_reaching.specs.declared.reached.Reached.{Reached}
use Rattle.lp_reaching.specs.Reaching.{CanInitialise, FindsInitialisers, IsInMemory}
use Rattle.lp_vm.specs.declared.request.Request.TheVariants as requests
use Rattle.lp_vm.specs.Answering.{CanServe, Served, Serves}
use Rattle.lp_vm.specs.Initialising.{CanCallInitialisers, InitialisingIsMeant}
use Rattle.lp_vm.proofs.Applied.{asked_still}
use Rattle.lp_vm.proofs.Turning.{world_reached}

module _ (caller : Option ObjId) (ob : ObjId) (part : ℕ) (told0 told1 : Option Bytes) (live0 live1 : Live) where
  pub can_initialise : (stack : List Value) (asker : Asker) (budget : ℕ) → CanCallInitialisers caller ob part told0 live0 stack asker budget → CanInitialise told0 live0 caller ob part
  can_initialise stack asker budget h = record { programs = h.programs; asker = asker; ask = h.ask; asks = h.initialises; world = h.asked.world }

  pub can_answer_initialisers : (stack : List Value) (asker : Asker) (budget : ℕ) (r : Option Reached) → ThereIsOne → CanCallInitialisers caller ob part told0 live0 stack asker budget
      → FindsInitialisers caller ob part told0 live0 told1 live1 r → IfSome r (λ x. IsInMemory live1 x.callee x.code) → CanServe told1 live1 stack asker budget (requests.Function r) 0
  can_answer_initialisers stack asker budget r one h finds there =
      let reached = finds h.programs asker h.ask h.initialises h.asked.world in
      record {
        front = one.0;
        real = one.1;
        programs = h.programs;
        ask = h.ask;
        below = h.below;
        asked = asked_still told0 told1 h.programs live0 live1 stack h.below asker 0 budget h.ask (world_reached told1 h.programs live1 asker h.ask r reached) h.asked;
        is = reached;
        there = there;
      }

  pub initialising_meant : (told2 : Option Bytes) (live2 : Live) (stack0 stack1 : List Value) (asker0 asker1 : Asker) (budget0 budget1 : ℕ) (r : Option Reached) (e : Ending)
      → FindsInitialisers caller ob part told0 live0 told1 live1 r → live1.outputs ≡ live0.outputs → Served (requests.Function r) 0 told1 live1 stack0 asker0 budget0 told2 live2 stack1 asker1 budget1 e
      → InitialisingIsMeant caller ob part told0 live0 stack0 asker0 budget0 told2 live2 stack1 asker1 budget1 e
  initialising_meant told2 live2 stack0 stack1 asker0 asker1 budget0 budget1 r e finds outs served front real programs a below h initialises =
      let reached = finds programs asker0 a initialises h.world in
      subst (λ (o : List Out). Serves front told2 programs o live2 stack1 below asker1 budget1 e a) outs
      (served front real programs a below (asked_still told0 told1 programs live0 live1 stack0 below asker0 0 budget0 a (world_reached told1 programs live1 asker0 a r reached) h) reached)

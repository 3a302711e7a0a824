-- Efuns that look into programs: what they are answered.
use Rattle.std.proofs.Common.{◌≡◌, ◌∙◌, ◌-◌, ℕ, List, Option, Err, refl, ap, sym, subst, length, take, drop}
use Rattle.lp_values.specs.declared.value.Value.{Value}
use Rattle.lp_code.specs.declared.program.RawProgram.{RawProgram}
use Rattle.lp_instr.specs.declared.efun.Efun.{Efun}
use Rattle.lp_language.specs.World.{World}
use Rattle.lp_swapfile.specs.Device.{Bytes, Last}
use Rattle.lp_language.specs.Course.{Over, outcome_of}
use Rattle.lp_meaning.specs.Askers.{asker_of, state_of}
use Rattle.lp_meaning.specs.Closing.{Ends}
use Rattle.lp_meaning.specs.Questions.{efun_in}
use Rattle.lp_world.specs.declared.live.Live.{Live}
use Rattle.lp_world.specs.Stands.{Stands}
use Rattle.lp_step.specs.Steps.{IsFit, KeepsVariables}
use Rattle.lp_efuns.specs.declared.answer.Answer.{Answer}
use Rattle.lp_efuns.specs.declared.caller.Caller.{Caller}
use Rattle.lp_calling.proofs.Settled.{end_settled}
use Rattle.lp_object_efuns.specs.Called.{CallsWithProgram, brought}
use Rattle.lp_residence.specs.declared.answers.EnterFault.{EnterFault}
use Rattle.lp_residence.specs.declared.answers.EnterFault.TheVariants as enter_faults
use Rattle.lp_residence.specs.declared.answers.SwapCause.{SwapCause}
use Rattle.lp_residence.specs.declared.owner.Owner.{Owner}
use Rattle.lp_residence.specs.declared.owner.Owner.TheVariants as owners
use Rattle.lp_residence.specs.Entering.{IsCausedBy}
use Rattle.lp_residence.specs.Owners.{ticket_at}
use Rattle.lp_targets.specs.Brought.{Brings, IsFaultOf}
use Rattle.lp_asking.specs.declared.asker.Asker.{Asker}
use Rattle.lp_asking.specs.declared.ending.Place.{Place}
use Rattle.lp_asking.specs.Endings.{IsEndingThere, plain_end}
use Rattle.lp_asking.proofs.Courses.{over_ends}
use Rattle.lp_vm.specs.declared.efuns.EfunBegun.{EfunBegun}
use Rattle.lp_vm.specs.declared.efuns.EfunBegun.TheVariants as begun
use Rattle.lp_vm.specs.declared.request.Request.TheVariants as requests
use Rattle.lp_vm.specs.Answering.{CanServe, Served}
use Rattle.lp_vm.specs.Causes.{Tells, read_fault}
use Rattle.lp_vm.specs.Cycle.{Answers}
use Rattle.lp_vm.specs.Efuns.{StartsEfun, ending_of}
use Rattle.lp_vm.specs.Faults.{fault_of}
use Rattle.lp_vm.specs.Going.{IsOutcome}
use Rattle.lp_vm.specs.Looking.{BeginsEfun}
use Rattle.lp_vm.proofs.Answered.{answer_outcome, arguments_are, at_start, efun_has, scene_so, serves_spends, setting}
use Rattle.lp_vm.proofs.Beginnings.{below_is}
use Rattle.lp_vm.proofs.Causing.{tells_fault}
use Rattle.lp_vm.proofs.Startings.{same_asker}

-- What is answered.
module _ (at : Place) (efun : Efun) (live0 live1 : Live) (stack0 stack1 : List Value) (asker : Asker) (args budget0 budget1 : ℕ) (told0 told1 : Option Bytes) (caller : Caller) (x : Answer) (vs : List Value)
    (same_this : caller.this ≡ at.this) (same_interactive : caller.interactive ≡ asker.interactive) (same_callers : caller.callers.now ≡ asker.callers.items) (same_told : told1 ≡ told0)
    (top : vs ≡ drop (length stack0 - args) stack0) (cut : stack1 ≡ take (length stack0 - args) stack0) (calls : CallsWithProgram efun caller vs told0 live0 asker.turn budget0 x live1 budget1) where
  looked_served : Served (requests.Efun at efun) args told0 live0 stack0 asker budget0 told1 live1 stack1 asker budget1 (ending_of x)
  looked_served front real programs a below h is =
      let q = is.0 in
      let are : vs ≡ a.arguments = top ∙ arguments_are stack0 below a.arguments args h.lies h.many in
      let r = calls (setting told0 programs live0.outputs) (asker_of a) q.scene (state_of a) refl (scene_so caller programs asker at efun a q same_this same_interactive same_callers)
      (at_start told0 programs live0 stack0 below asker args budget0 a h) h.world in
      let over : efun_in efun (asker_of a) q.scene a.arguments (state_of a) ≡ Over r.0 = ap (λ xs. efun_in efun (asker_of a) q.scene xs (state_of a)) (sym are) ∙ r.1 in
      let settled = end_settled a.world (setting told0 programs live0.outputs) live1 asker.turn budget1 x r.0 r.2 r.3 in
      record {
        outcome = outcome_of (plain_end r.0);
        has = efun_has front a efun q.scene r.0 q.scene_is q.what (subst (λ t. Ends front t r.0) (sym over) (over_ends front r.0));
        is = subst (λ t. IsOutcome t programs live0.outputs live1 asker budget1 (ending_of x) (outcome_of (plain_end r.0))) (sym same_told) (answer_outcome told0 programs live0.outputs live0 live1 asker budget1 x a.world r.0 h.world settled);
        left = below_is stack0 stack1 below a.arguments args h.lies h.many cut;
      }

  pub looked_answers : KeepsVariables live0.objects live1.objects → IsFit live1 stack1 → IsEndingThere live1.cells (ending_of x) → CanServe told0 live0 stack0 asker budget0 (requests.Efun at efun) args
      → Answers (requests.Efun at efun) args told0 live0 stack0 asker budget0 told1 live1 stack1 asker budget1 (ending_of x)
  looked_answers home fit there can = record {
    served = looked_served;
    same = same_asker asker;
    spends = serves_spends told0 told1 live0 live1 stack0 stack1 asker asker args budget0 budget1 (requests.Efun at efun) (ending_of x) can looked_served;
    home = home;
    fit = fit;
    there = there;
  }

-- One for which nothing came into memory begins so, whatever the swap file tells.
pub begins_alone : (r : EfunBegun) (at : Place) (efun : Efun) (args : ℕ) (live0 live1 : Live) (stack0 stack1 : List Value) (asker0 asker1 : Asker) (budget0 budget1 : ℕ) (told : Option Bytes) → StartsEfun r at efun args live0 stack0 asker0 budget0 live1 stack1 asker1 budget1
    → BeginsEfun r at efun args told live0 stack0 asker0 budget0 told live1 stack1 asker1 budget1
begins_alone (begun.Answered e) at efun args live0 live1 stack0 stack1 asker0 asker1 budget0 budget1 told h = h told
begins_alone (begun.Works job) at efun args live0 live1 stack0 stack1 asker0 asker1 budget0 budget1 told h = record {
  spends = h.spends;
  fit = h.fit;
  on = h.on;
  ready = h.ready;
  can = h.can told;
  answers = h.answers told;
}

-- Why nothing was answered. Only what came into memory matters to that.

same_ticket : (live0 live1 : Live) (who : Owner) → ticket_at (brought live0 live1) who ≡ ticket_at live1 who
same_ticket live0 live1 (owners.Object o) = refl
same_ticket live0 live1 (owners.Program p) = refl

fault_brought : (live0 live1 : Live) (told : Option Bytes) (last : Last) (cause : SwapCause) → IsFaultOf (brought live0 live1) told last (enter_faults.Swap cause) → IsFaultOf live1 told last (enter_faults.Swap cause)
fault_brought live0 live1 told last cause h = (h.0, subst (λ t. IsCausedBy h.0 t told last (enter_faults.Swap cause)) (same_ticket live0 live1 h.0) h.1)

pub tells_called : {A : Type 0} {told0 told1 : Option Bytes} {last : Last} {reads0 reads1 writes0 writes1 : ℕ} {true0 true1 honest0 honest1 : Type 0} {live0 live1 : Live} (e : EnterFault)
    → Brings {A = A} told0 told1 last reads0 reads1 writes0 writes1 true0 true1 honest0 honest1 live0 (brought live0 live1) (Err e) → (programs : List RawProgram) (w : World) → Stands told0 programs live0 w
    → Tells told1 last reads0 reads1 writes0 writes1 true0 true1 honest0 honest1 live1 (Err (read_fault (fault_of e)))
tells_called {told1 = told1} {last = last} {live0 = live0} {live1 = live1} (enter_faults.Swap cause) h programs w stands = let k = tells_fault h programs w stands in record { cause = fault_brought live0 live1 told1 last cause k.cause; faults = k.faults; write_faults = k.write_faults; truthful = k.truthful; honest = k.honest }
tells_called enter_faults.NoMemory h programs w stands = let k = tells_fault h programs w stands in record { cause = tt; faults = k.faults; write_faults = k.write_faults; truthful = k.truthful; honest = k.honest }

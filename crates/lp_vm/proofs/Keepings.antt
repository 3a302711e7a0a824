-- Jobs that save or restore variables: how they end, and what the device did.
use Rattle.std.proofs.Common.{◌≤◌, ℕ, List, Option, Ok, Err, refl, sym, subst}
use Rattle.lp_values.specs.declared.value.Value.{Value}
use Rattle.lp_code.specs.declared.program.RawProgram.{RawProgram}
use Rattle.lp_swapfile.specs.Counts.{Counts}
use Rattle.lp_swapfile.specs.Device.{Bytes, Last}
use Rattle.lp_language.specs.World.{World}
use Rattle.lp_meaning.specs.Closing.{Ends}
use Rattle.lp_world.specs.declared.live.Live.{Live}
use Rattle.lp_world.specs.Stands.{Stands}
use Rattle.lp_step.specs.Steps.{IsFit, KeepsVariables}
use Rattle.lp_efuns.specs.declared.answer.Answer.{Answer}
use Rattle.lp_residence.specs.declared.answers.EnterFault.{EnterFault}
use Rattle.lp_residence.specs.declared.answers.EnterFault.TheVariants as enter_faults
use Rattle.lp_calling.specs.declared.job.Job.{Job}
use Rattle.lp_saving.specs.Saving.{Keeps, Reads}
use Rattle.lp_asking.specs.declared.asker.Asker.{Asker}
use Rattle.lp_asking.specs.declared.ending.Place.{Place}
use Rattle.lp_asking.specs.Endings.{IsEndingThere}
use Rattle.lp_asking.proofs.Courses.{over_ends}
use Rattle.lp_vm.specs.Causes.{Tells, read_fault}
use Rattle.lp_vm.specs.Cycle.{Works}
use Rattle.lp_vm.specs.Efuns.{ending_of}
use Rattle.lp_vm.specs.Faults.{fault_of}
use Rattle.lp_vm.proofs.Answered.{answer_outcome, setting}
use Rattle.lp_vm.proofs.Causing.{fault_kept, fault_same}
use Rattle.lp_vm.proofs.Startings.{same_asker}

-- It ends as its course does.
pub kept_works : (at : Place) (job : Job) (told : Option Bytes) (live0 live1 : Live) (stack0 stack1 : List Value) (asker : Asker) (budget0 budget1 : ℕ) (x : Answer) → Keeps x job told live0 stack0 budget0 live1 stack1 budget1
    → budget1 ≤ budget0 → KeepsVariables live0.objects live1.objects → IsFit live1 stack1 → IsEndingThere live1.cells (ending_of x) → Works at job told live0 stack0 asker budget0 told live1 stack1 asker budget1 (ending_of x)
kept_works at job told live0 live1 stack0 stack1 asker budget0 budget1 x keeps spends home fit there = record {
  worked = λ front real programs before by c s low own w.
      let h = keeps asker.turn low own w.lies w.height in
      let over = h.course (setting told programs before) by s refl w.fits.at w.fits.world in
      record {
        end = over.0;
        ends = subst (λ t. Ends front t over.0) (sym over.1) (over_ends front over.0);
        is = answer_outcome told programs before live0 live1 asker budget1 x s.world over.0 w.fits.world over.2;
        left = h.stack;
      };
  same = same_asker asker;
  spends = spends;
  home = home;
  fit = fit;
  there = there;
}

-- Where the device did not tell the truth, want of memory is answered in the place of what was read.
pub reads_no_memory : {A : Type 0} {told0 told1 : Option Bytes} {last : Last} {reads0 reads1 writes0 writes1 : ℕ} {true0 true1 honest0 honest1 : Type 0} {live0 live1 : Live} {x : A}
    → Reads {A = A} told0 told1 last reads0 reads1 writes0 writes1 true0 true1 honest0 honest1 live0 live1 (Ok x) → Reads {A = A} told0 told1 last reads0 reads1 writes0 writes1 true0 true1 honest0 honest1 live0 live1 (Err enter_faults.NoMemory)
reads_no_memory h = record { cause = tt; faults = h.faults; write_faults = h.write_faults; kept = h.kept; truthful = h.truthful; honest = λ z. ((h.honest z).0, λ t programs w stands. tt) }

-- What went well, ..
pub tells_read : {A : Type 0} {told0 told1 : Option Bytes} {last : Last} {reads0 reads1 writes0 writes1 : ℕ} {true0 true1 honest0 honest1 : Type 0} {live0 live1 : Live} {x : A}
    → Reads told0 told1 last reads0 reads1 writes0 writes1 true0 true1 honest0 honest1 live0 live1 (Ok x) → Tells told1 last reads0 reads1 writes0 writes1 true0 true1 honest0 honest1 live1 (Ok tt)
tells_read h = record { cause = tt; faults = h.faults; write_faults = h.write_faults; truthful = h.truthful; honest = λ z. ((h.honest z).0, λ t. tt) }

-- .. and why something was not read, where the state stood for a world
pub tells_unread : {A : Type 0} {told0 told1 : Option Bytes} {last : Last} {reads0 reads1 writes0 writes1 : ℕ} {true0 true1 honest0 honest1 : Type 0} {live0 live1 : Live} {e : EnterFault}
    → Reads {A = A} told0 told1 last reads0 reads1 writes0 writes1 true0 true1 honest0 honest1 live0 live1 (Err e) → (programs : List RawProgram) (w : World) → Stands told0 programs live0 w
    → Tells told1 last reads0 reads1 writes0 writes1 true0 true1 honest0 honest1 live1 (Err (read_fault (fault_of e)))
tells_unread {A = A} {told1 = told1} {last = last} {reads0 = reads0} {reads1 = reads1} {writes0 = writes0} {writes1 = writes1} {true0 = true0} {true1 = true1} {honest0 = honest0} {honest1 = honest1} {live1 = live1} {e = e} h programs w stands =
    subst (λ x. Tells told1 last reads0 reads1 writes0 writes1 true0 true1 honest0 honest1 live1 (Err x)) (fault_kept e)
    (record { cause = h.cause; faults = subst (λ b. Counts b reads0 reads1) (fault_same A e) h.faults; write_faults = h.write_faults; truthful = h.truthful; honest = λ z. ((h.honest z).0, λ t. (h.honest z).1 t programs w stands) })

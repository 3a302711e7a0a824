-- Common instructions that were taken, or were not.
use Rattle.std.proofs.Common.{◌≡◌, ◌∙◌, ℕ, List, Bool, true, false, Some, Result, Ok, Err, IfOk, refl, ap, sym, subst, arith, nat_lt, slice_get}
use Rattle.std.proofs.lemmas.Bool.{both_ways, ltb-true}
use Rattle.lp_values.specs.declared.value.Value.{Value}
use Rattle.lp_instr.specs.declared.instr.Instr.{Instr}
use Rattle.lp_world.specs.declared.frame.Frame.{Frame}
use Rattle.lp_world.specs.declared.live.Live.{Live}
use Rattle.lp_step.specs.declared.fault.StepFault.{StepFault}
use Rattle.lp_step.specs.Steps.{Pays, PaysBy}
use Rattle.lp_step.specs.declared.next.Next.TheVariants as nexts
use Rattle.lp_step.proofs.Dispatch.{steps}
use Rattle.lp_step_laws.proofs.Going.{goes_on}
use Rattle.lp_run.specs.Runs.{Went}
use Rattle.lp_run.specs.Takes.{Does, Goes, Takes, TakesOne, at_place}
use Rattle.lp_run.proofs.Together.{home_same}

-- where 1 could not be paid, nothing was there and nothing is
spent_by : (b : Bool) (old new : ℕ) (paid : Bool) → nat_lt old 1 ≡ b → paid ≡ false → PaysBy b 1 old paid new → new ≡ old
spent_by true old new paid q e h = omega (arith, h.1, ltb-true old 1 q)
spent_by false old new paid q e h = absurd (both_ways paid e h.0)

pub spent_one : (old new : ℕ) (paid : Bool) → paid ≡ false → Pays 1 old paid new → new ≡ old
spent_one old new paid e h = spent_by (nat_lt old 1) old new paid refl e h

-- the instruction at this place was taken
pub one : (i : Instr) (live : Live) (stack0 stack1 : List Value) (frame : Frame) (at0 at1 budget0 budget1 : ℕ) → slice_get frame.code.instrs at0 ≡ Some i → Does i live stack0 frame at0 budget0 stack1 at1 budget1
    → Goes live stack0 frame at0 budget0 stack1 at1 budget1
one i live stack0 stack1 frame at0 at1 budget0 budget1 e d = record {
  table = steps i live live stack0 stack1 (at_place frame at0) (at_place frame at1) budget0 budget1 nexts.Again e d.table;
  keeps = d.keeps;
}

pub one_if : (i : Instr) (live : Live) (stack0 stack1 : List Value) (frame : Frame) (at0 at1 budget0 budget1 : ℕ) (b : Bool) → slice_get frame.code.instrs at0 ≡ Some i → Takes i live stack0 frame at0 budget0 b stack1 at1 budget1
    → TakesOne live stack0 frame at0 budget0 b stack1 at1 budget1
one_if i live stack0 stack1 frame at0 at1 budget0 budget1 true e t = one i live stack0 stack1 frame at0 at1 budget0 budget1 e t
one_if i live stack0 stack1 frame at0 at1 budget0 budget1 false e t = t

-- where it may run out of memory
pub one_ok : (i : Instr) (live : Live) (stack0 stack1 : List Value) (frame : Frame) (at0 at1 budget : ℕ) (r : Result Bool StepFault) → slice_get frame.code.instrs at0 ≡ Some i
    → IfOk r (λ b. (b ≡ true) × ((live : Live) (budget : ℕ) → Does i live stack0 frame at0 budget stack1 at1 budget)) → IfOk r (λ b. TakesOne live stack0 frame at0 budget b stack1 at1 budget)
one_ok i live stack0 stack1 frame at0 at1 budget (Ok b) e h =
    subst (λ b. TakesOne live stack0 frame at0 budget b stack1 at1 budget) (sym h.0) (one i live stack0 stack1 frame at0 at1 budget budget e (h.1 live budget))
one_ok i live stack0 stack1 frame at0 at1 budget (Err f) e h = tt

pub one_ok_here : (i : Instr) (live : Live) (stack0 stack1 : List Value) (frame : Frame) (at0 at1 budget : ℕ) (r : Result Bool StepFault) → slice_get frame.code.instrs at0 ≡ Some i
    → IfOk r (λ b. (b ≡ true) × ((budget : ℕ) → Does i live stack0 frame at0 budget stack1 at1 budget)) → IfOk r (λ b. TakesOne live stack0 frame at0 budget b stack1 at1 budget)
one_ok_here i live stack0 stack1 frame at0 at1 budget (Ok b) e h =
    subst (λ b. TakesOne live stack0 frame at0 budget b stack1 at1 budget) (sym h.0) (one i live stack0 stack1 frame at0 at1 budget budget e (h.1 budget))
one_ok_here i live stack0 stack1 frame at0 at1 budget (Err f) e h = tt

pub one_ok_if : (i : Instr) (live : Live) (stack0 stack1 : List Value) (frame : Frame) (at0 at1 budget0 budget1 : ℕ) (r : Result Bool StepFault) → slice_get frame.code.instrs at0 ≡ Some i
    → IfOk r (λ b. Takes i live stack0 frame at0 budget0 b stack1 at1 budget1) → IfOk r (λ b. TakesOne live stack0 frame at0 budget0 b stack1 at1 budget1)
one_ok_if i live stack0 stack1 frame at0 at1 budget0 budget1 (Ok b) e h = one_if i live stack0 stack1 frame at0 at1 budget0 budget1 b e h
one_ok_if i live stack0 stack1 frame at0 at1 budget0 budget1 (Err f) e h = tt

-- the instruction of the code at hand is that of the frame
pub found : (code instrs : List Instr) (n : ℕ) (i : Instr) → code ≡ instrs → slice_get code n ≡ Some i → slice_get instrs n ≡ Some i
found code instrs n i q e = ap (λ l. slice_get l n) (sym q) ∙ e

-- What was not taken is as it was, and what was taken did its row.
pub stayed : (P : List Value → ℕ → ℕ → Type 0) (live : Live) (stack0 stack1 : List Value) (frame : Frame) (at0 at1 budget0 budget1 : ℕ) (b : Bool) → b ≡ false → TakesOne live stack0 frame at0 budget0 b stack1 at1 budget1
    → P stack0 at0 budget0 → P stack1 at1 budget1
stayed P live stack0 stack1 frame at0 at1 budget0 budget1 true q t p = absurd cc
stayed P live stack0 stack1 frame at0 at1 budget0 budget1 false q t p =
    subst (λ s. P s at1 budget1) (sym t.0) (subst (λ n. P stack0 n budget1) (sym t.1) (subst (λ k. P stack0 at0 k) (sym t.2) p))

pub gone : (live : Live) (stack0 stack1 : List Value) (frame : Frame) (at0 at1 budget0 budget1 : ℕ) (b : Bool) → b ≡ true → TakesOne live stack0 frame at0 budget0 b stack1 at1 budget1
    → Goes live stack0 frame at0 budget0 stack1 at1 budget1
gone live stack0 stack1 frame at0 at1 budget0 budget1 true q t = t
gone live stack0 stack1 frame at0 at1 budget0 budget1 false q t = absurd cc

-- so it leaves what it should, in every world
pub went_on : (live : Live) (stack0 stack1 : List Value) (frame : Frame) (at0 at1 budget0 budget1 : ℕ) → Goes live stack0 frame at0 budget0 stack1 at1 budget1
    → Went live stack0 (at_place frame at0) budget0 nexts.Again live stack1 (at_place frame at1) budget1
went_on live stack0 stack1 frame at0 at1 budget0 budget1 g p k row f a m of runs =
    goes_on p k row f a live live stack0 stack1 (at_place frame at0) (at_place frame at1) budget0 budget1 m nexts.Again of runs g.table g.keeps (home_same live.objects)

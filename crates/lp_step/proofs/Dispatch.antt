-- From an instruction to the step.
use Rattle.std.proofs.Common.{◌≡◌, ◌∙◌, ℕ, List, Option, Some, Result, Ok, Err, refl, ap, sym, subst, slice_get}
use Rattle.std.specs.Prelude.{IfOk}
use Rattle.lp_values.specs.declared.value.Value.{Value}
use Rattle.lp_instr.specs.declared.instr.Instr.{Instr}
use Rattle.lp_isa.specs.Machine.{Moment, Goes, act_at, step}
use Rattle.lp_world.specs.declared.frame.Frame.{Frame}
use Rattle.lp_world.specs.declared.live.Live.{Live}
use Rattle.lp_world.specs.declared.objects.Object.{Object}
use Rattle.lp_world.specs.Matches.{Around, Matches}
use Rattle.lp_step.specs.declared.fault.StepFault.{StepFault}
use Rattle.lp_step.specs.declared.next.Next.{Next as Led}
use Rattle.lp_step.specs.declared.next.Next.TheVariants as nexts
use Rattle.lp_step.specs.Steps.{AreNamed, IsFine, Keeps, KeepsVariables, LeadsTo, Performs, Steps, instr_at}

-- the instruction of the frame is that of the code
pub instr_same : (a : Around) (live : Live) (stack : List Value) (frame : Frame) (budget : ℕ) (m : Moment) (i : Instr) → Matches a live stack frame budget m → instr_at frame ≡ Some i → slice_get a.code.instrs m.place ≡ Some i
instr_same a live stack frame budget m i h e =
    ap (λ c. slice_get c.instrs m.place) (sym h.sits.belongs.code) ∙ ap (λ n. slice_get frame.code.instrs n) (sym h.sits.place) ∙ e

pub steps : (i : Instr) (live0 live1 : Live) (stack0 stack1 : List Value) (frame0 frame1 : Frame) (budget0 budget1 : ℕ) (n : Led) → instr_at frame0 ≡ Some i
    → Performs i live0 stack0 frame0 budget0 n live1 stack1 frame1 budget1 → Steps live0 stack0 frame0 budget0 n live1 stack1 frame1 budget1
steps i live0 live1 stack0 stack1 frame0 frame1 budget0 budget1 n e p = λ a m h fine named.
    let q = instr_same a live0 stack0 frame0 budget0 m i h e in
    subst (λ o. LeadsTo a n live1 stack1 frame1 budget1 (act_at a.code a.scene o m)) (sym q)
    (p a m h (subst (λ o. IsFine (act_at a.code a.scene o m)) q fine) (named i q))

-- an instruction that may run out of memory
pub steps_ok : (i : Instr) (live0 live1 : Live) (stack0 stack1 : List Value) (frame0 frame1 : Frame) (budget0 budget1 : ℕ) (r : Result Led StepFault) → instr_at frame0 ≡ Some i
    → IfOk r (λ n. Performs i live0 stack0 frame0 budget0 n live1 stack1 frame1 budget1) → IfOk r (λ n. Steps live0 stack0 frame0 budget0 n live1 stack1 frame1 budget1)
steps_ok i live0 live1 stack0 stack1 frame0 frame1 budget0 budget1 (Ok n) e p = steps i live0 live1 stack0 stack1 frame0 frame1 budget0 budget1 n e p
steps_ok i live0 live1 stack0 stack1 frame0 frame1 budget0 budget1 (Err f) e p = p

-- and that looks neither at the state nor at the budget
pub steps_alone : (i : Instr) (live : Live) (stack0 stack1 : List Value) (frame0 frame1 : Frame) (budget : ℕ) (r : Result Led StepFault) → instr_at frame0 ≡ Some i
    → IfOk r (λ n. (live : Live) (budget : ℕ) → Performs i live stack0 frame0 budget n live stack1 frame1 budget) → IfOk r (λ n. Steps live stack0 frame0 budget n live stack1 frame1 budget)
steps_alone i live stack0 stack1 frame0 frame1 budget (Ok n) e p = steps i live live stack0 stack1 frame0 frame1 budget budget n e (p live budget)
steps_alone i live stack0 stack1 frame0 frame1 budget (Err f) e p = p

pub keeps_alone : (live : Live) (stack0 stack1 : List Value) (r : Result Led StepFault) → IfOk r (λ n. (live : Live) → Keeps live stack0 n live stack1) → IfOk r (λ n. Keeps live stack0 n live stack1)
keeps_alone live stack0 stack1 (Ok n) p = p live
keeps_alone live stack0 stack1 (Err f) p = p

-- an instruction that looks at the state, or changes it, but not the budget
pub steps_free : (i : Instr) (live0 live1 : Live) (stack0 stack1 : List Value) (frame0 frame1 : Frame) (budget : ℕ) (r : Result Led StepFault) → instr_at frame0 ≡ Some i
    → IfOk r (λ n. (budget : ℕ) → Performs i live0 stack0 frame0 budget n live1 stack1 frame1 budget) → IfOk r (λ n. Steps live0 stack0 frame0 budget n live1 stack1 frame1 budget)
steps_free i live0 live1 stack0 stack1 frame0 frame1 budget (Ok n) e p = steps i live0 live1 stack0 stack1 frame0 frame1 budget budget n e (p budget)
steps_free i live0 live1 stack0 stack1 frame0 frame1 budget (Err f) e p = p

-- two instructions one after the other: what the first told is the moment where the second begins
pub two_steps : (live0 live1 live2 : Live) (stack0 stack1 stack2 : List Value) (frame0 frame1 frame2 : Frame) (budget0 budget1 budget2 : ℕ) (n : Led)
    → Steps live0 stack0 frame0 budget0 nexts.Again live1 stack1 frame1 budget1 → Steps live1 stack1 frame1 budget1 n live2 stack2 frame2 budget2
    → (a : Around) (m : Moment) → Matches a live0 stack0 frame0 budget0 m → IsFine (step a.code a.scene m) → AreNamed a m
    → (m1 : Moment) × (step a.code a.scene m ≡ Goes m1) × (IsFine (step a.code a.scene m1) → AreNamed a m1 → LeadsTo a n live2 stack2 frame2 budget2 (step a.code a.scene m1))
two_steps live0 live1 live2 stack0 stack1 stack2 frame0 frame1 frame2 budget0 budget1 budget2 n p q a m h fine named =
    let l = p a m h fine named in
    (l.m, l.told, λ f k. q a l.m l.matches f k)

-- Objects stay in memory

pub kept_home : (rows : List (Option Object)) → KeepsVariables rows rows
kept_home rows o vs e = (vs, e, refl)

pub kept_ok : (rows : List (Option Object)) (r : Result Led StepFault) → IfOk r (λ n. KeepsVariables rows rows)
kept_ok rows (Ok n) = kept_home rows
kept_ok rows (Err f) = tt

pub same_home : (old new : List (Option Object)) (r : Result Led StepFault) → new ≡ old → IfOk r (λ n. KeepsVariables old new)
same_home old new (Ok n) e = subst (KeepsVariables old) (sym e) (kept_home old)
same_home old new (Err f) e = tt

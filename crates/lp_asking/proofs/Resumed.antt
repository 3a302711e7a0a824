-- A caller goes on.
use Rattle.std.proofs.Common.{◌≡◌, ◌∙◌, ◌++◌, ◌∷◌, [], ◌-◌, ℕ, List, Option, Some, None, ap, sym, subst, length, length-append, take, arith}
use Rattle.std.proofs.Math.Seq.{take-append_seam}
use Rattle.lp_values.specs.declared.value.Value.{Value}
use Rattle.lp_language.specs.Course as course
use Rattle.lp_language.specs.Course.{End, Stops}
use Rattle.lp_isa.specs.Machine.{Moment, Ended, push_end}
use Rattle.lp_world.specs.declared.frame.Frame.{Frame}
use Rattle.lp_world.specs.declared.live.Live.{Live}
use Rattle.lp_world.specs.Matches.{Around, Matches}
use Rattle.lp_asking.specs.declared.ending.Ending.{Ending}
use Rattle.lp_asking.specs.declared.ending.Ending.TheVariants as endings
use Rattle.lp_asking.specs.declared.ending.Stop.{Stop}
use Rattle.lp_asking.specs.Resuming.{Resumes, ResumesTo}
use Rattle.lp_asking.specs.Stopping.{ComesToStop, StopsAt}

-- the other operands are gone
low_is : (stack0 stack1 low taken : List Value) (under : ℕ) → stack0 ≡ low ++ taken → length taken ≡ under → stack1 ≡ take (length stack0 - under) stack0 → stack1 ≡ low
low_is stack0 stack1 low taken under e n t =
    let k : length stack0 - under ≡ length low = omega (arith, n, ap length e, length-append low taken) in
    t ∙ ap (λ j. take j stack0) k ∙ ap (λ l. take (length low) l) e ∙ take-append_seam low taken

-- a value goes on top
valued : (a : Around) (live : Live) (budget : ℕ) (m : Moment) (low stack : List Value) (frame : Frame) (v : Value) → stack ≡ low ++ v ∷ [] → Matches a live low frame budget m
    → Matches a live stack frame budget (record { place = m.place; stack = v ∷ m.stack; catches = m.catches; state = m.state })
valued a live budget m low stack frame v e h = record {
  stands = h.stands;
  sits = record { lies = e ∙ ap (λ l. l ++ v ∷ []) h.sits.lies; bottom = h.sits.bottom; locals = h.sits.locals; place = h.sits.place; catches = h.sits.catches; belongs = h.sits.belongs };
  left = h.left;
  outputs = h.outputs;
  player = h.player;
  commands = h.commands;
}

pub resumes_value : (v : Value) (under : ℕ) (stack0 stack1 stack2 : List Value) (frame : Frame) → stack1 ≡ take (length stack0 - under) stack0 → stack2 ≡ stack1 ++ v ∷ []
    → Resumes None under (endings.Value v) stack0 frame stack2 frame
resumes_value v under stack0 stack1 stack2 frame t p low taken a live budget m end e n is h =
    let k = low_is stack0 stack1 low taken under e n t in (
      record { place = m.place; stack = v ∷ m.stack; catches = m.catches; state = m.state },
      ap (λ x. push_end x m.place m.catches m.stack) is,
      valued a live budget m low stack2 frame v (p ∙ ap (λ l. l ++ v ∷ []) k) h,
    )

-- what is given back is the stop
abbrev pub IsLike : Option Ending → Option Stop → Type 0
IsLike r None = r ≡ None
IsLike r (Some s) = r ≡ Some (endings.Stopped s)

stopped_so : (s : Option Stop) (stop : Stop) (r : Option Ending) (a : Around) (live : Live) (low stack : List Value) (frame : Frame) (budget : ℕ) (x : course.Stop) (m : Moment) (end : End Value)
    → end ≡ Stops x m.state → StopsAt s stop a live low stack frame budget x m → IsLike r s → ResumesTo r (endings.Stopped stop) a live low stack frame budget m end
stopped_so None stop r a live low stack frame budget x m end is h like = subst (λ q. ResumesTo q (endings.Stopped stop) a live low stack frame budget m end) (sym like) (h.0, ap (λ z. push_end z m.place m.catches m.stack) is ∙ h.1, h.2)
stopped_so (Some s) stop r a live low stack frame budget x m end is h like =
    subst (λ q. ResumesTo q (endings.Stopped stop) a live low stack frame budget m end) (sym like)
    (ap (λ z. push_end z m.place m.catches m.stack) is ∙ h.0 ∙ ap Ended (sym is), ap endings.Stopped h.1, h.2)

pub resumes_stop : (s : Option Stop) (stop : Stop) (r : Option Ending) (under : ℕ) (stack0 stack1 stack2 : List Value) (frame0 frame1 : Frame) → stack1 ≡ take (length stack0 - under) stack0
    → ComesToStop s stop stack1 frame0 stack2 frame1 → IsLike r s → Resumes r under (endings.Stopped stop) stack0 frame0 stack2 frame1
resumes_stop s stop r under stack0 stack1 stack2 frame0 frame1 t stops like low taken a live budget m end e n is h =
    let k = low_is stack0 stack1 low taken under e n t in
    stopped_so s stop r a live low stack2 frame1 budget is.0 m end is.1
    (subst (λ l. StopsAt s stop a live l stack2 frame1 budget is.0 m) k (stops a live budget m is.0 is.2 (subst (λ l. Matches a live l frame0 budget m) (sym k) h))) like

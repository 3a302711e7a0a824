-- One more and one less on the state and in the world.
use Rattle.std.proofs.Common.{◌≡◌, ◌++◌, ◌∷◌, [], ◌∙◌, ℕ, ℤ, ◌+◌, ◌+ℤ◌, ◌-ℤ◌, pos, Bool, true, false, List, Option, Result, Ok, Err, All, IfOk, refl, ap, subst, if◌then◌else◌}
use Rattle.std.specs.Prelude.{⊤}
use Rattle.std.proofs.lemmas.List.Elements.{All-head}
use Rattle.lp_cells.specs.Cells.{IsThere, Store}
use Rattle.lp_values.specs.declared.error.ErrorKind.TheVariants.{Overflow}
use Rattle.lp_values.specs.declared.value.Value.{Value}
use Rattle.lp_ops.specs.Effects.{refused}
use Rattle.lp_ops.specs.Integers.{fits, int}
use Rattle.lp_ops.specs.Operands.{Opened, Number, Chars, Array, Mapping, Object, operand}
use Rattle.lp_ops.specs.declared.effect.Effect.{Effect}
use Rattle.lp_ops.specs.declared.effect.Effect.TheVariants as effects
use Rattle.lp_tree.specs.declared.operator.Step.{Step}
use Rattle.lp_tree.specs.declared.operator.Step.TheVariants.{Up, Down}
use Rattle.lp_isa.specs.Machine.{Moment, Next, on_one, push_end}
use Rattle.lp_language.specs.Operations.{living, seen, step_effect, stepped}
use Rattle.lp_world.specs.declared.frame.Frame.{Frame}
use Rattle.lp_world.specs.declared.live.Live.{Live}
use Rattle.lp_world.specs.declared.objects.Object.{Object as Row}
use Rattle.lp_world.specs.Rows.{live_in}
use Rattle.lp_world.specs.Matches.{Around, Matches}
use Rattle.lp_world.proofs.Keeping.{live_same, operand_same}
use Rattle.lp_step.specs.declared.fault.StepFault.{StepFault}
use Rattle.lp_step.specs.declared.next.Next.{Next as Led}
use Rattle.lp_step.specs.declared.worked.Worked.{Worked}
use Rattle.lp_step.specs.Steps.{IsFine, LeadsTo}
use Rattle.lp_step.specs.Works.{SteppedOn, Works}
use Rattle.lp_step.proofs.Fits.{split_all}
use Rattle.lp_step.proofs.Led.{Left, led}
use Rattle.lp_step.proofs.Moves.{on_one_leads}

-- what is given is there: it is an integer
abbrev IsGivenThere : Store → Effect → Type 0
IsGivenThere cells (effects.Gives v) = IsThere cells v
IsGivenThere cells (effects.Makes x) = ⊤
IsGivenThere cells (effects.Fault e) = ⊤

whole_given : (cells : Store) (n : ℤ) (b : Bool) → IsGivenThere cells (if b then int n else refused Overflow)
whole_given cells n true = tt
whole_given cells n false = tt

step_given : (cells : Store) (step : Step) (x : Opened) → IsGivenThere cells (step_effect step x)
step_given cells Up (Number n) = whole_given cells (n +ℤ pos 1) (fits (n +ℤ pos 1))
step_given cells Up (Chars s) = tt
step_given cells Up (Array c vs) = tt
step_given cells Up (Mapping c ps) = tt
step_given cells Up (Object o) = tt
step_given cells Down (Number n) = whole_given cells (n -ℤ pos 1) (fits (n -ℤ pos 1))
step_given cells Down (Chars s) = tt
step_given cells Down (Array c vs) = tt
step_given cells Down (Mapping c ps) = tt
step_given cells Down (Object o) = tt

pub step_there : (cells : Store) (step : Step) (x : Opened) (v : Value) → step_effect step x ≡ effects.Gives v → IsThere cells v
step_there cells step x v e = subst (IsGivenThere cells) e (step_given cells step x)

pub count_ok : (step : Step) (old new : List Value) (objects : List (Option Row)) (cells : Store) (before after : ℕ) (x : Value) (r : Result Worked StepFault)
    → old ≡ new ++ x ∷ [] → All (IsThere cells) old
    → IfOk r (λ d. Works 1 (step_effect step (operand (live_in objects) cells x)) 0 cells before d cells after)
    → IfOk r (λ d. SteppedOn step old new objects cells before d after)
count_ok step old new objects cells before after x (Ok d) e t w =
    let one = split_all (IsThere cells) new (x ∷ []) (subst (All (IsThere cells)) e t) in
    (x, e, All-head (IsThere cells) x [] one.1, w)
count_ok step old new objects cells before after x (Err f) e t w = w

pub counted : (a : Around) (live : Live) (stack0 stack1 stack2 : List Value) (frame : Frame) (at2 old new : ℕ) (m : Moment) (step : Step) (d : Worked) (n : Led)
    → Matches a live stack0 frame old m → SteppedOn step stack0 stack1 live.objects live.cells old d new → Left stack1 frame.at d n stack2 at2
    → IsFine (on_one m.stack (λ x rest. push_end (stepped step x m.state) (m.place + 1) m.catches rest))
    → LeadsTo a n live stack2 (record frame { at = at2 }) new (on_one m.stack (λ x rest. push_end (stepped step x m.state) (m.place + 1) m.catches rest))
unfolding stepped
counted a live stack0 stack1 stack2 frame at2 old new m step d n h (x, e, tx, w) t fine =
    on_one_leads To (λ x rest. push_end (stepped step x m.state) (m.place + 1) m.catches rest) (a.below ++ m.state.locals) m.stack stack0 stack1 x h.sits.lies e fine
    (λ ops l f. led a live live.cells stack0 stack1 stack2 frame at2 old new m ops 1 0 0 (step_effect step (seen m.state x)) d n h l
    (subst (λ q. Works 1 (step_effect step q) 0 live.cells old d live.cells new) same w) (λ q. refl) t)
  where
    To : Next → Type 0
    To y = LeadsTo a n live stack2 (record frame { at = at2 }) new y

    same : operand (live_in live.objects) live.cells x ≡ seen m.state x
    same = ap (λ l. operand l live.cells x) (live_same a.told a.programs live m.state.world h.stands) ∙ operand_same (living m.state) live.cells m.state.world.cells x h.stands.cells tx

-- Courses of commands.
use Rattle.std.proofs.Common.{◌≡◌, ◌∙◌, ◌∷◌, [], ℕ, Bool, true, false, cond, List, refl, ap, sym, drop, pos, if◌then◌else◌}
use mathlib.Core.Path.{fun_ext}
use Rattle.lp_values.specs.declared.id.ObjId.{ObjId}
use Rattle.lp_values.specs.declared.value.Value.{Value}
use Rattle.lp_values.specs.declared.value.Value.TheVariants.{Int}
use Rattle.lp_actions.specs.Actions.{Sentence}
use Rattle.lp_language.specs.Course.{Apply, Asked, Asks, Course, End, Gives, Over, State, Stops, and_then, end_of_outcome, gives, in_any_case, zero_value}
use Rattle.lp_language.specs.Operations.{is_false}
use Rattle.lp_meaning.specs.Askers.{Asker, ask_value, question}
use Rattle.lp_meaning.specs.MovesAndCommands.{argument_value, trying}
use Rattle.lp_world.specs.declared.live.Live.{Live}
use Rattle.lp_efuns.specs.declared.caller.Turn.{Turn}
use Rattle.lp_efuns.specs.Turns.{At, Setting}
use Rattle.lp_calling.proofs.Settled.{settled_here}
use Rattle.lp_commanding.specs.declared.job.Commanding.{Commanding}
use Rattle.lp_commanding.specs.declared.job.Question.TheVariants as questions
use Rattle.lp_commanding.specs.Going.{EndsWith, IsPopped, IsStillAt, Wanted}
use Rattle.lp_commanding.specs.Jobs.{actions_left, answered, before_end, behind, course_of, popping, question_course, rest_of, trying_these}
use Rattle.lp_commanding.specs.Trying.{is_tried}

-- the state itself
pub still_here : (g : Setting) (live : Live) (turn : Turn) (b : ℕ) (s : State) → At g live turn b s → IsStillAt s g live turn b s
still_here g live turn b s h = record { settled = settled_here g live turn b s h; world = refl }

-- A question goes on with however it ends.
ends_behind : (job : Commanding) (by : Asker) (k : Value → State → Course Value) → ((v : Value) (s : State) → popping (k v s) ≡ rest_of job by v s) → (e : End Value) → popping (and_then (Over e) k) ≡ behind job by e
ends_behind job by k h (Gives v s) = h v s
ends_behind job by k h (Stops x s) = refl

pub asks_behind : (job : Commanding) (by : Asker) (what : Asked) (xs : List Value) (s : State) (k : Value → State → Course Value) → ((v : Value) (s : State) → popping (k v s) ≡ rest_of job by v s)
    → popping (and_then (ask_value what xs by s) k) ≡ in_any_case (ask_value what xs by s) (behind job by)
asks_behind job by what xs s k h = ap (λ f. Asks (question what xs by s) f) (fun_ext (λ o. ends_behind job by k h (end_of_outcome s o)))

-- Before the command is popped

pub untold : (job : Commanding) (by : Asker) (s : State) → job.is_told ≡ false → before_end job by s ≡ trying_these job (actions_left job) by s
untold job by s u = ap (λ b. if b then gives zero_value s else trying_these job (actions_left job) by s) u

pub told_it : (job : Commanding) (by : Asker) (s : State) → job.is_told ≡ true → before_end job by s ≡ gives zero_value s
told_it job by s u = ap (λ b. if b then gives zero_value s else trying_these job (actions_left job) by s) u

pub answered_untold : (job : Commanding) (by : Asker) (v : Value) (s : State) → job.is_told ≡ false
    → answered job by v s ≡ cond (is_false s v) (trying_these job (drop 1 (actions_left job)) by s) (gives (Int (pos 1)) s)
answered_untold job by v s u = ap (λ b. if b then gives zero_value s else cond (is_false s v) (trying_these job (drop 1 (actions_left job)) by s) (gives (Int (pos 1)) s)) u

pub answered_told : (job : Commanding) (by : Asker) (v : Value) (s : State) → job.is_told ≡ true → answered job by v s ≡ gives zero_value s
answered_told job by v s u = ap (λ b. if b then gives zero_value s else cond (is_false s v) (trying_these job (drop 1 (actions_left job)) by s) (gives (Int (pos 1)) s)) u

-- The first action

-- it is tried, or it is passed
first_by : (by : Asker) (o : ObjId) (argument : Value) (x : Sentence) (xs : List Sentence) (s : State) (b : Bool) → is_tried s.world o x ≡ b
    → trying by o argument (x ∷ xs) s
    ≡ (if b then and_then (ask_value (Apply x.giver x.function) (argument ∷ []) by s) (λ v s. cond (is_false s v) (trying by o argument xs s) (gives (Int (pos 1)) s)) else trying by o argument xs s)
first_by by o argument x xs s b e =
    ap (λ b. if b then and_then (ask_value (Apply x.giver x.function) (argument ∷ []) by s) (λ v s. cond (is_false s v) (trying by o argument xs s) (gives (Int (pos 1)) s)) else trying by o argument xs s) e

pub passed : (by : Asker) (o : ObjId) (argument : Value) (x : Sentence) (xs : List Sentence) (s : State) → is_tried s.world o x ≡ false → trying by o argument (x ∷ xs) s ≡ trying by o argument xs s
passed by o argument x xs s e = first_by by o argument x xs s false e

-- the command asks for it
pub action_asks : (job : Commanding) (by : Asker) (s : State) (x : Sentence) (xs : List Sentence) → job.is_told ≡ false → actions_left job ≡ x ∷ xs → is_tried s.world job.holder x ≡ true
    → course_of job by s ≡ in_any_case (question_course (questions.Action x.giver x.function) (argument_value job.argument) by s) (behind job by)
action_asks job by s x xs u l t =
    let on : (v : Value) (s : State) → Course Value = λ v s. cond (is_false s v) (trying_these job xs by s) (gives (Int (pos 1)) s) in
    ap (λ c. popping c) (untold job by s u ∙ ap (λ ys. trying_these job ys by s) l ∙ first_by by job.holder (argument_value job.argument) x xs s true t)
    ∙ asks_behind job by (Apply x.giver x.function) (argument_value job.argument ∷ []) s on
    (λ v s. sym (ap (λ c. popping c) (answered_untold job by v s u ∙ ap (λ ys. cond (is_false s v) (trying_these job (drop 1 ys) by s) (gives (Int (pos 1)) s)) l)))

-- Ends

-- What ends before the command is popped ends with it popped.
pub ends_popped : (v : Value) (wanted : Wanted) (live0 live1 : Live) (turn0 turn1 : Turn) → IsPopped turn0 turn1
    → ((g : Setting) (b : ℕ) (by : Asker) (s : State) → At g live0 turn0 b s → (t : State) × IsStillAt s g live1 turn0 b t × (wanted by s ≡ gives v t))
    → EndsWith v (λ by s. popping (wanted by s)) live0 turn0 live1 turn1
ends_popped v wanted live0 live1 turn0 turn1 p f g b by s h =
    let t = f g b by s h in (
      record t.0 { commands = drop 1 t.0.commands },
      record { settled = record { at = p g live1 b t.0 t.1.settled.at; settles = t.1.settled.settles }; world = t.1.world },
      ap (λ c. popping c) t.2,
    )

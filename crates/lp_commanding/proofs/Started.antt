-- Commands begin, and take answers.
use Rattle.std.proofs.Common.{◌≡◌, ◌∙◌, ◌-◌, ◌∷◌, [], ℕ, pos, Bool, true, false, cond, List, None, refl, ap, sym, drop, eqb, length, map, reverse, take}
use Rattle.lp_values.specs.declared.id.ObjId.{ObjId}
use Rattle.lp_values.specs.declared.value.Value.{Value}
use Rattle.lp_values.specs.declared.value.Value.TheVariants.{Int}
use Rattle.lp_values.specs.Read.{is_zero}
use Rattle.lp_actions.specs.Actions.{Sentence as Action, argument_in, matching, verb_of}
use Rattle.lp_actions.specs.Held.{Lists}
use Rattle.lp_actions.specs.Stored.{sentence_of}
use Rattle.lp_language.specs.Course.{State, gives, zero_value}
use Rattle.lp_language.specs.Operations.{is_false}
use Rattle.lp_meaning.specs.MovesAndCommands.{argument_value, trying}
use Rattle.lp_world.specs.Rows.{live_in}
use Rattle.lp_world.specs.declared.live.Live.{Live}
use Rattle.lp_world.proofs.Keeping.{live_same}
use Rattle.lp_efuns.specs.declared.caller.Turn.{Turn}
use Rattle.lp_efuns.specs.Turns.{At, Setting}
use Rattle.lp_settling.proofs.Still.{still}
use Rattle.lp_commanding.specs.declared.job.Commanding.{Commanding}
use Rattle.lp_commanding.specs.Beginning.{Pushes, carrying_out}
use Rattle.lp_commanding.specs.Going.{EndsWith, GoesAs, IsPopped}
use Rattle.lp_commanding.specs.Jobs.{actions_left, answered, course_of, popping, rest_of, trying_these}
use Rattle.lp_commanding.proofs.Backwards.{drop_map, reverse_front}
use Rattle.lp_commanding.proofs.Courses.{answered_told, answered_untold, ends_popped, still_here, untold}

-- Beginning

-- an empty line does nothing
pub empty_begins : (live : Live) (turn : Turn) (o : ObjId) (line : List ℕ) → line ≡ [] → EndsWith zero_value (carrying_out o line) live turn live turn
empty_begins live turn o line e g b by s h = (s, still_here g live turn b s h, ap (λ l. carrying_out o l by s) e)

-- another one is a job
pub line_begins : (job : Commanding) (live : Live) (turn0 turn1 : Turn) (line verb : List ℕ) → eqb (length line) 0 ≡ false → verb ≡ verb_of line → job.argument ≡ argument_in line → job.is_told ≡ false
    → ((ss : List Action) → Lists live.actions ss → actions_left job ≡ matching ss job.holder verb) → Pushes verb turn0 turn1 → GoesAs (carrying_out job.holder line) (course_of job) live turn0 live turn1
line_begins job live turn0 turn1 [] verb n v a u f p g b by s h = let no : ⊥ = cc in absurd no
line_begins job live turn0 turn1 (c ∷ cs) verb n v a u f p g b by s h =
    let line : List ℕ = c ∷ cs in
    let t : State = record s { commands = record { verb = verb; fail = None } ∷ s.commands } in (
      t,
      record { settled = record { at = p g live b s h; settles = still s.world }; world = refl },
      ap (λ a. popping (trying by job.holder (argument_value a) (matching s.world.sentences job.holder (verb_of line)) (record s { commands = record { verb = verb_of line; fail = None } ∷ s.commands }))) (sym a)
          ∙ ap (λ w. popping (trying by job.holder (argument_value job.argument) (matching s.world.sentences job.holder w) (record s { commands = record { verb = w; fail = None } ∷ s.commands }))) (sym v)
          ∙ ap (λ ys. popping (trying by job.holder (argument_value job.argument) ys t)) (sym (f s.world.sentences h.stands.rest.sentences))
          ∙ ap (λ c. popping c) (sym (untold job by t u)),
    )

-- Answers

false_is : (g : Setting) (live : Live) (turn : Turn) (b : ℕ) (s : State) (v : Value) (is : Bool) → At g live turn b s → is ≡ is_zero (live_in live.objects) v → is_false s v ≡ is
unfolding is_false
false_is g live turn b s v is h e = ap (λ l. is_zero l v) (sym (live_same g.told g.programs live s.world h.stands)) ∙ sym e

-- once the object was told, the answer is 0
pub told_takes : (job : Commanding) (v : Value) (live : Live) (turn0 turn1 : Turn) → job.is_told ≡ true → IsPopped turn0 turn1 → EndsWith zero_value (λ by s. rest_of job by v s) live turn0 live turn1
told_takes job v live turn0 turn1 u p = ends_popped zero_value (λ by s. answered job by v s) live live turn0 turn1 p (λ g b by s h. (s, still_here g live turn0 b s h, answered_told job by v s u))

-- an answer that is not 0 ends the search
pub done_takes : (job : Commanding) (v : Value) (live : Live) (turn0 turn1 : Turn) → job.is_told ≡ false → false ≡ is_zero (live_in live.objects) v → IsPopped turn0 turn1
    → EndsWith (Int (pos 1)) (λ by s. rest_of job by v s) live turn0 live turn1
done_takes job v live turn0 turn1 u z p =
    ends_popped (Int (pos 1)) (λ by s. answered job by v s) live live turn0 turn1 p
    (λ g b by s h. (
      s,
      still_here g live turn0 b s h,
      answered_untold job by v s u ∙ ap (λ x. cond x (trying_these job (drop 1 (actions_left job)) by s) (gives (Int (pos 1)) s)) (false_is g live turn0 b s v false h z),
    ))

-- else the next action is to be tried
fewer : (job : Commanding) → map (sentence_of job.holder) (reverse (take (length job.left.items - 1) job.left.items)) ≡ drop 1 (actions_left job)
fewer job = ap (map (sentence_of job.holder)) (reverse_front job.left.items) ∙ sym (drop_map (sentence_of job.holder) (reverse job.left.items))

pub next_takes : (job job1 : Commanding) (v : Value) (live : Live) (turn : Turn) → job.is_told ≡ false → true ≡ is_zero (live_in live.objects) v → job1 ≡ record job { left = job1.left }
    → job1.left.items ≡ take (length job.left.items - 1) job.left.items → GoesAs (λ by s. rest_of job by v s) (course_of job1) live turn live turn
next_takes job job1 v live turn u z q l g b by s h =
    let left : actions_left (record job { left = job1.left }) ≡ drop 1 (actions_left job) = ap (λ ys. map (sentence_of job.holder) (reverse ys)) l ∙ fewer job in (
      s,
      still_here g live turn b s h,
      ap (λ c. popping c) (answered_untold job by v s u
          ∙ ap (λ x. cond x (trying_these job (drop 1 (actions_left job)) by s) (gives (Int (pos 1)) s)) (false_is g live turn b s v true h z)
          ∙ ap (λ ys. trying_these job ys by s) (sym left)
          ∙ sym (untold (record job { left = job1.left }) by s u))
          ∙ ap (λ j. course_of j by s) (sym q),
    )

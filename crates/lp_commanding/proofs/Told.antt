-- The object of a command is told that no action did it; and commands ask for their actions.
use Rattle.std.proofs.Common.{◌≡◌, ◌∙◌, ◌-◌, ◌<◌, ◌++◌, ◌∷◌, [], ℕ, Bool, true, false, List, Option, Some, None, refl, ap, sym, subst, codes, length, map, reverse, slice_get, unwrap_or, arith, if◌then◌else◌}
use Rattle.std.proofs.lemmas.List.{length-map, length-reverse}
use Rattle.lp_values.specs.declared.id.ObjId.{ObjId}
use Rattle.lp_values.specs.declared.value.Value.{Value}
use Rattle.lp_values.specs.declared.value.Value.TheVariants as values
use Rattle.lp_actions.specs.Actions.{Sentence}
use Rattle.lp_actions.specs.Stored.{sentence_of}
use Rattle.lp_events.specs.declared.out.Out.TheVariants as outs
use Rattle.lp_language.specs.World.{is_live}
use Rattle.lp_language.specs.Course.{Apply, Course, State, and_then, gives, zero_value}
use Rattle.lp_meaning.specs.Askers.{Asker, ask_value, tell, told}
use Rattle.lp_meaning.specs.MovesAndCommands.{argument_value, fail_text}
use Rattle.lp_meaning.specs.WorldSteps.{connection_of}
use Rattle.lp_world.specs.Rows.{live_in}
use Rattle.lp_world.specs.declared.live.Live.{Live}
use Rattle.lp_world.proofs.Keeping.{live_same}
use Rattle.lp_efuns.specs.declared.caller.Command.{Command}
use Rattle.lp_efuns.specs.declared.caller.Turn.{Turn}
use Rattle.lp_efuns.specs.Subjects.{number_of}
use Rattle.lp_efuns.specs.Turns.{At, Setting, command_of, commands_of}
use Rattle.lp_efuns.proofs.Enabled.{row_there}
use Rattle.lp_efuns.proofs.Looking.{connection_same}
use Rattle.lp_settling.proofs.Still.{still}
use Rattle.lp_calling.proofs.Courses.{then_on}
use Rattle.lp_calling.proofs.Telling.{at_told}
use Rattle.lp_commanding.specs.declared.job.Commanding.{Commanding}
use Rattle.lp_commanding.specs.declared.job.Question.{Question}
use Rattle.lp_commanding.specs.declared.job.Question.TheVariants as questions
use Rattle.lp_commanding.specs.declared.job.Step.{Step}
use Rattle.lp_commanding.specs.declared.job.Step.TheVariants as steps
use Rattle.lp_commanding.specs.Going.{EndsWith, Goes, IsAskedThere, IsPopped}
use Rattle.lp_commanding.specs.Jobs.{IsAskingWith, actions_left, before_end, course_of, popping, trying_these}
use Rattle.lp_commanding.specs.Trying.{AreTriedAs, IsFirstLive, IsFirstTried, IsNext, question_of}
use Rattle.lp_commanding.proofs.Backwards.{first, last_is}
use Rattle.lp_commanding.proofs.Courses.{action_asks, asks_behind, ends_popped, still_here, told_it, untold}

-- The text

fail_of : (r : List Command) (c : Command) → first r ≡ Some c → fail_text (map command_of r) ≡ unwrap_or c.fail (codes "What?\n")
fail_of [] c e = cc
fail_of (x ∷ xs) c e = ap (λ o. unwrap_or (unwrap_or o x).fail (codes "What?\n")) e

no_fail : (r : List Command) → first r ≡ None → fail_text (map command_of r) ≡ codes "What?\n"
no_fail [] e = refl
no_fail (x ∷ xs) e = cc

-- the innermost command, which stands last, shows its text
pub fail_shown : (cs : List Command) (c : Command) → Some c ≡ slice_get cs (length cs - 1) → fail_text (commands_of cs) ≡ unwrap_or c.fail (codes "What?\n")
fail_shown cs c e = fail_of (reverse cs) c (sym (last_is cs) ∙ sym e)

pub no_fail_shown : (cs : List Command) → None ≡ slice_get cs (length cs - 1) → fail_text (commands_of cs) ≡ codes "What?\n"
no_fail_shown cs e = no_fail (reverse cs) (sym (last_is cs) ∙ sym e)

-- Telling

-- a message to a live object, by its connection
abbrev tell_to : Asker → ObjId → List ℕ → State → Option ℕ → Course Value
tell_to by o text s None = and_then (ask_value (Apply o (codes "catch_tell")) (values.Str text ∷ []) by s) (λ v s. gives zero_value s)
tell_to by o text s (Some k) = gives zero_value (told (outs.Text k text ∷ []) s)

told_to : (by : Asker) (o : ObjId) (text : List ℕ) (s : State) (c : Option ℕ)
    → elim c as (λ _. Course Value) [ Some k ↦ gives zero_value (told (outs.Text k text ∷ []) s) | None ↦ and_then (ask_value (Apply o (codes "catch_tell")) (values.Str text ∷ []) by s) (λ v s. gives zero_value s) ] ≡ tell_to by o text s c
told_to by o text s None = refl
told_to by o text s (Some k) = refl

telling : (by : Asker) (o : ObjId) (text : List ℕ) (s : State) (b : Bool) (c : Option ℕ) → is_live s.world o ≡ b → connection_of s.world o ≡ c → tell by o text s ≡ (if b then tell_to by o text s c else gives zero_value s)
telling by o text s b c l e =
    ap (λ x. if is_live s.world o then x else gives zero_value s) (told_to by o text s (connection_of s.world o))
    ∙ ap (λ x. if x then tell_to by o text s (connection_of s.world o) else gives zero_value s) l
    ∙ ap (λ x. if b then tell_to by o text s x else gives zero_value s) e

-- the course where no action is left
no_actions : (job : Commanding) (by : Asker) (s : State) (b : Bool) (c : Option ℕ) → job.is_told ≡ false → actions_left job ≡ [] → is_live s.world job.holder ≡ b → connection_of s.world job.holder ≡ c
    → before_end job by s ≡ and_then (if b then tell_to by job.holder (fail_text s.commands) s c else gives zero_value s) (λ v s. gives zero_value s)
no_actions job by s b c u n l e =
    untold job by s u ∙ ap (λ ys. trying_these job ys by s) n ∙ ap (λ c. and_then c (λ v s. gives zero_value s)) (telling by job.holder (fail_text s.commands) s b c l e)

live_at : (g : Setting) (live : Live) (turn : Turn) (b : ℕ) (s : State) (o : ObjId) (is : Bool) → At g live turn b s → live_in live.objects o ≡ is → is_live s.world o ≡ is
live_at g live turn b s o is h l = sym (ap (λ f. f o) (live_same g.told g.programs live s.world h.stands)) ∙ l

-- an object that was destructed is told nothing
pub dead_stops : (job : Commanding) (live : Live) (turn0 turn1 : Turn) → job.is_told ≡ false → actions_left job ≡ [] → live_in live.objects job.holder ≡ false → IsPopped turn0 turn1
    → EndsWith zero_value (course_of job) live turn0 live turn1
dead_stops job live turn0 turn1 u n l p =
    ends_popped zero_value (before_end job) live live turn0 turn1 p
    (λ g b by s h. (s, still_here g live turn0 b s h, no_actions job by s false (connection_of s.world job.holder) u n (live_at g live turn0 b s job.holder false h l) refl))

-- one with a connection is told by that
pub connected_stops : (job : Commanding) (live live1 : Live) (turn0 turn1 : Turn) (k : ℕ) (text : List ℕ) → job.is_told ≡ false → actions_left job ≡ [] → live_in live.objects job.holder ≡ true → Some k ≡ number_of live job.holder
    → text ≡ fail_text (commands_of turn0.commands.items) → live1 ≡ record live { outputs = live.outputs ++ outs.Text k text ∷ [] } → IsPopped turn0 turn1 → EndsWith zero_value (course_of job) live turn0 live1 turn1
connected_stops job live live1 turn0 turn1 k text u n l c f q p =
    ends_popped zero_value (before_end job) live live1 turn0 turn1 p
    (λ g b by s h.
    let t : State = told (outs.Text k text ∷ []) s in
    let same : fail_text s.commands ≡ text = ap fail_text h.commands ∙ sym f in (
      t,
      record { settled = record { at = subst (λ x. At g x turn0 b t) (sym q) (at_told g live turn0 b s (outs.Text k text) h); settles = still s.world }; world = refl },
      no_actions job by s true (Some k) u n (live_at g live turn0 b s job.holder true h l) (connection_same g live turn0 b s job.holder h ∙ sym c)
          ∙ ap (λ x. gives zero_value (told (outs.Text k x ∷ []) s)) same,
    ))

-- one without is asked for `catch_tell`
pub catch_tell_asked : (job job1 : Commanding) (live : Live) (turn : Turn) (stack0 stack1 : List Value) (text : List ℕ) → job.is_told ≡ false → actions_left job ≡ [] → live_in live.objects job.holder ≡ true → None ≡ number_of live job.holder
    → text ≡ fail_text (commands_of turn.commands.items) → stack1 ≡ stack0 ++ values.Str text ∷ [] → job1 ≡ record job { is_told = true }
    → Goes (steps.Asks (questions.CatchTell job.holder)) job live turn stack0 job1 live turn stack1
catch_tell_asked job job1 live turn stack0 stack1 text u n l c f t q =
    subst (λ j. Goes (steps.Asks (questions.CatchTell job.holder)) job live turn stack0 j live turn stack1) (sym q)
    (record {
      argument = values.Str text;
      stack = t;
      is_asking = tt;
      course = λ g b by s h.
          let same : fail_text s.commands ≡ text = ap fail_text h.commands ∙ sym f in (
            s,
            still_here g live turn b s h,
            ap (λ c. popping c) (no_actions job by s true None u n (live_at g live turn b s job.holder true h l) (connection_same g live turn b s job.holder h ∙ sym c)
                ∙ ap (λ x. and_then (and_then (ask_value (Apply job.holder (codes "catch_tell")) (values.Str x ∷ []) by s) (λ v s. gives zero_value s)) (λ v s. gives zero_value s)) same
                ∙ then_on (ask_value (Apply job.holder (codes "catch_tell")) (values.Str text ∷ []) by s) (λ v s. gives zero_value s) (λ v s. gives zero_value s))
                ∙ asks_behind (record job { is_told = true }) by (Apply job.holder (codes "catch_tell")) (values.Str text ∷ []) s (λ v s. gives zero_value s) (λ v s. refl),
          );
    })

-- it was told
pub told_stops : (job : Commanding) (live : Live) (turn0 turn1 : Turn) → job.is_told ≡ true → IsPopped turn0 turn1 → EndsWith zero_value (course_of job) live turn0 live turn1
told_stops job live turn0 turn1 u p = ends_popped zero_value (before_end job) live live turn0 turn1 p (λ g b by s h. (s, still_here g live turn0 b s h, told_it job by s u))

-- Actions

-- the next one is asked
pub action_asked : (job : Commanding) (live : Live) (turn : Turn) (stack0 stack1 : List Value) (q : Question) → job.is_told ≡ false → IsNext live job.holder job.left.items → Some q ≡ question_of (actions_left job)
    → stack1 ≡ stack0 ++ argument_value job.argument ∷ [] → Goes (steps.Asks q) job live turn stack0 job live turn stack1
action_asked job live turn stack0 stack1 q u n e t = by (actions_left job) refl
  where
    by : (ys : List Sentence) → actions_left job ≡ ys → Goes (steps.Asks q) job live turn stack0 job live turn stack1
    by [] l = let none : Some q ≡ None = e ∙ ap question_of l in let no : ⊥ = cc in absurd no
    by (x ∷ xs) l =
        let some : Some q ≡ Some (questions.Action x.giver x.function) = e ∙ ap question_of l in
        let is : q ≡ questions.Action x.giver x.function = cc in
        let count : length (actions_left job) ≡ length job.left.items = length-map (reverse job.left.items) (sentence_of job.holder) ∙ length-reverse job.left.items in
        let more : 0 < length job.left.items = omega (arith, count, ap length l) in
        subst (λ q. Goes (steps.Asks q) job live turn stack0 job live turn stack1) (sym is)
        (record {
          argument = argument_value job.argument;
          stack = t;
          is_asking = subst (λ b. IsAskingWith b (length job.left.items)) (sym u) more;
          course = λ g b by s h. (s, still_here g live turn b s h, action_asks job by s x xs u l (subst (λ ys. IsFirstTried s.world job.holder ys) l (n.tried g turn b s h)));
        })

-- and its giver has its row
pub giver_there : (live : Live) (left : List Sentence) (q : Question) → Some q ≡ question_of left → IsFirstLive live.objects left → IsAskedThere live.objects (steps.Asks q)
giver_there live [] q e l = let no : ⊥ = cc in absurd no
giver_there live (x ∷ xs) q e l =
    let is : q ≡ questions.Action x.giver x.function = cc in
    subst (λ q. IsAskedThere live.objects (steps.Asks q)) (sym is) (row_there live.objects x.giver l)

-- none is left
pub no_question : (left : List Sentence) → None ≡ question_of left → left ≡ []
no_question [] e = refl
no_question (x ∷ xs) e = cc

-- What goes on so from fewer actions goes on so from all, where trying those is trying these.
pub goes_from : (r : Step) (job0 job job1 : Commanding) (live live1 : Live) (turn turn1 : Turn) (stack0 stack1 : List Value) → job0.is_told ≡ false → job ≡ record job0 { left = job.left }
    → AreTriedAs live job0.holder job0.left.items job.left.items → Goes r job live turn stack0 job1 live1 turn1 stack1 → Goes r job0 live turn stack0 job1 live1 turn1 stack1
goes_from r job0 job job1 live live1 turn turn1 stack0 stack1 u q f = by r
  where
    same : (g : Setting) (b : ℕ) (by : Asker) (s : State) → At g live turn b s → course_of job0 by s ≡ course_of job by s
    same g b by s h =
        ap (λ c. popping c) (untold job0 by s u ∙ f g turn b by s (argument_value job0.argument) h ∙ sym (untold (record job0 { left = job.left }) by s u)) ∙ ap (λ j. course_of j by s) (sym q)

    by : (r : Step) → Goes r job live turn stack0 job1 live1 turn1 stack1 → Goes r job0 live turn stack0 job1 live1 turn1 stack1
    by (steps.Ends v) i = record { stack = i.stack; course = λ g b by s h. let t = i.course g b by s h in (t.0, t.1, same g b by s h ∙ t.2) }
    by (steps.Asks q) i = record {
      argument = i.argument;
      stack = i.stack;
      is_asking = i.is_asking;
      course = λ g b by s h. let t = i.course g b by s h in (t.0, t.1, same g b by s h ∙ t.2);
    }

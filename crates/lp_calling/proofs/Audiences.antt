-- Objects are given a text, one after another.
use Rattle.std.proofs.Common.{◌≡◌, ◌∙◌, ◌+◌, ◌-◌, ◌<◌, ◌≤◌, ◌++◌, ◌∷◌, [], ℕ, Bool, true, false, not, ◌&&◌, List, Option, Some, None, refl, ap, sym, subst, codes, drop, length, map, slice_get, arith, length-append, if◌then◌else◌}
use Rattle.std.proofs.lemmas.List.{drop_all, drop_at}
use Rattle.lp_values.specs.declared.id.ObjId.{ObjId}
use Rattle.lp_values.specs.declared.value.Value.{Value}
use Rattle.lp_values.specs.declared.value.Value.TheVariants as values
use Rattle.lp_cells.specs.Cells.{Store}
use Rattle.lp_events.specs.declared.out.Out.TheVariants as outs
use Rattle.lp_ops.specs.Operands.{operand}
use Rattle.lp_instr.specs.declared.efun.Efun.{Efun}
use Rattle.lp_instr.specs.declared.efun.Efun.TheVariants as efuns
use Rattle.lp_language.specs.World.{is_live}
use Rattle.lp_language.specs.Course.{Apply, Course, State, and_then, gives, zero_value}
use Rattle.lp_language.specs.Operations.{cells_of, living}
use Rattle.lp_places.specs.Places.{Lying, Shadowing, environment, inventory, is_at}
use Rattle.lp_places.specs.Stands as places
use Rattle.lp_meaning.specs.Askers.{Asker, ask_value, tell, told}
use Rattle.lp_meaning.specs.CallingEfuns.{calls, say_in, speaker, tell_each, with_live}
use Rattle.lp_meaning.specs.EfunArguments.{object_arg, opened_args, text_arg}
use Rattle.lp_meaning.specs.MovesAndCommands.{is_living}
use Rattle.lp_world.specs.Rows.{live_in, row_at}
use Rattle.lp_world.specs.declared.live.Live.{Live}
use Rattle.lp_world.proofs.Keeping.{live_same}
use Rattle.lp_efuns.specs.declared.caller.Caller.{Caller}
use Rattle.lp_efuns.specs.declared.caller.Turn.{Turn}
use Rattle.lp_efuns.specs.Subjects.{is_living_row, number_of}
use Rattle.lp_efuns.specs.Turns.{At}
use Rattle.lp_efuns.proofs.Looking.{connection_same, living_same, object_same}
use Rattle.lp_settling.proofs.Still.{still}
use Rattle.lp_calling.specs.declared.job.Applied.TheVariants as applies
use Rattle.lp_calling.specs.declared.job.Audience.{Audience}
use Rattle.lp_calling.specs.declared.job.Begun.TheVariants as begun
use Rattle.lp_calling.specs.declared.job.Question.TheVariants as questions
use Rattle.lp_calling.specs.declared.job.Stage.{Stage}
use Rattle.lp_calling.specs.declared.job.Stage.TheVariants as stages
use Rattle.lp_calling.specs.declared.job.Step.TheVariants as steps
use Rattle.lp_calling.specs.Audiences.{AreDone, Holds, IsAudienceIn, IsDone, IsHeard, IsToBeAsked, LiesIn, Speaks, told_by}
use Rattle.lp_calling.specs.Beginning.{Starts}
use Rattle.lp_calling.specs.Entering.{Advances, IsTold, is_told}
use Rattle.lp_calling.specs.Going.{StageGoes, StageTakes}
use Rattle.lp_calling.specs.Jobs.{ended, listeners_behind, say_around, telling}
use Rattle.lp_calling.specs.Targets.{reader}
use Rattle.lp_calling.proofs.Courses.{asked_on, then_on}
use Rattle.lp_calling.proofs.Entering.{settled_onward}
use Rattle.lp_calling.proofs.Lists.{left_at}
use Rattle.lp_calling.proofs.Settled.{settled_here}
use Rattle.lp_calling.proofs.Telling.{at_told, live_at, telling as telling_is}

-- Places

-- what the table of places tells
pub holds_so : (live : Live) (place : ObjId) (os : List ObjId) → ((lyings : List Lying) (shadows : List Shadowing) → places.Stands live.places lyings shadows → os ≡ inventory lyings place) → Holds live place os
holds_so live place os f g turn b s h = sym (f s.world.places s.world.shadows h.stands.rest.places)

pub lies_so : (live : Live) (o : ObjId) (place : Option ObjId) → ((lyings : List Lying) (shadows : List Shadowing) → places.Stands live.places lyings shadows → place ≡ environment lyings o) → LiesIn place live o
lies_so live o place f g turn b s h = sym (f s.world.places s.world.shadows h.stands.rest.places)

-- Who is told

all_three : (a b : Bool) → a ≡ true → b ≡ true → (n : Bool) → n ≡ true → a && b && n ≡ true
all_three true true e f true g = refl
all_three true true e f false g = g
all_three true false e f n g = cc
all_three false b e f n g = cc

not_first : (a b n : Bool) → a ≡ false → a && b && n ≡ false
not_first false b n e = refl
not_first true b n e = cc

not_last : (a b n : Bool) → n ≡ true → a && b && not n ≡ false
not_last a b n e = ap (λ n. a && b && not n) e ∙ none a b
  where
    none : (a b : Bool) → a && b && false ≡ false
    none true true = refl
    none true false = refl
    none false b = refl

middle : (a b n c : Bool) → a ≡ true → n ≡ false → b ≡ c → a && b && not n ≡ c
middle a b n c e f q = ap (λ a. a && b && not n) e ∙ ap (λ n. b && not n) f ∙ whole b ∙ q
  where
    whole : (b : Bool) → b && true ≡ b
    whole true = refl
    whole false = refl

pub dead_untold : (live : Live) (but : Option ObjId) (o : ObjId) → live_in live.objects o ≡ false → IsTold false live but o
dead_untold live but o l g turn b s h = sym (not_first (is_live s.world o) (is_living s.world o) (not (is_at but o)) (live_at g live turn b s o false h l))

pub left_out : (live : Live) (but : Option ObjId) (o : ObjId) → is_at but o ≡ true → IsTold false live but o
left_out live but o l g turn b s h = sym (not_last (is_live s.world o) (is_living s.world o) (is_at but o) l)

pub living_told : (live : Live) (but : Option ObjId) (o : ObjId) (is : Bool) → live_in live.objects o ≡ true → is_at but o ≡ false → is ≡ is_living_row (row_at live.objects o.0) → IsTold is live but o
living_told live but o is l n e g turn b s h =
    sym (middle (is_live s.world o) (is_living s.world o) (is_at but o) is (live_at g live turn b s o true h l) n (living_same g live turn b s o h l ∙ sym e))

-- One object

-- by whether it is told
tell_first : (by : Asker) (t : List ℕ) (but : Option ObjId) (o : ObjId) (os : List ObjId) (s : State) (b : Bool) → is_told s.world but o ≡ b
    → tell_each by t but (o ∷ os) s ≡ (if b then and_then (tell by o t s) (λ v s. tell_each by t but os s) else tell_each by t but os s)
tell_first by t but o os s b e = ap (λ b. if b then and_then (tell by o t s) (λ v s. tell_each by t but os s) else tell_each by t but os s) e

-- it is passed
pub passed_done : (a : Audience) (live : Live) (o : ObjId) → IsTold false live a.but o → IsDone a live live o
passed_done a live o n g turn b by s os h = (s, settled_here g live turn b s h, tell_first by a.text a.but o os s false (sym (n g turn b s h)))

-- it is told by its connection
pub told_done : (a : Audience) (live live1 : Live) (o : ObjId) (k : ℕ) → IsTold true live a.but o → live_in live.objects o ≡ true → Some k ≡ number_of live o → live1 ≡ told_by live k a.text → IsDone a live live1 o
told_done a live live1 o k y l c q g turn b by s os h = (
  told (outs.Text k a.text ∷ []) s,
  record { at = subst (λ x. At g x turn b (told (outs.Text k a.text ∷ []) s)) (sym q) (at_told g live turn b s (outs.Text k a.text) h); settles = still s.world },
  tell_first by a.text a.but o os s true (sym (y g turn b s h))
      ∙ ap (λ c. and_then c (λ v s. tell_each by a.text a.but os s)) (telling_is by o a.text s true (Some k) (live_at g live turn b s o true h l) (connection_same g live turn b s o h ∙ sym c)),
)

pub to_be_asked : (a : Audience) (live : Live) (o : ObjId) → IsTold true live a.but o → live_in live.objects o ≡ true → None ≡ number_of live o → IsToBeAsked a live live o
to_be_asked a live o y l c = record { same = refl; lives = l; told = y; unconnected = sym c }

-- One after another

pub none_heard : (a : Audience) (live : Live) → AreDone a live live a.done
none_heard a live g turn b by s h = (s, settled_here g live turn b s h, refl)

pub one_heard : (a : Audience) (live0 live1 live2 : Live) (n : ℕ) (o : ObjId) → slice_get a.listeners.items n ≡ Some o → AreDone a live0 live1 n → IsDone a live1 live2 o → AreDone a live0 live2 (n + 1)
one_heard a live0 live1 live2 n o e f d g turn b by s h =
    let t = f g turn b by s h in
    let u = d g turn b by t.0 (drop (n + 1) a.listeners.items) t.1.at in
    (u.0, settled_onward s.world t.0 u.0 g live2 turn b t.1.settles u.1, t.2 ∙ ap (λ os. telling a os by t.0) (left_at a.listeners.items n o e) ∙ u.2)

pub heard_up_to : (a : Audience) (live0 live1 live2 : Live) (n : ℕ) (o : ObjId) → slice_get a.listeners.items n ≡ Some o → a.done ≤ n → AreDone a live0 live1 n → IsToBeAsked a live1 live2 o → IsHeard a live0 live2 n
heard_up_to a live0 live1 live2 n o e m f d = record {
  done = subst (λ l. AreDone a live0 l n) (sym d.same) f;
  more = m;
  next = λ l. record { listener = o; is = e; lives = d.lives; told = d.told; unconnected = d.unconnected };
}

pub all_heard : (a : Audience) (live0 live1 : Live) (n : ℕ) → length a.listeners.items ≤ n → a.done ≤ n → AreDone a live0 live1 n → IsHeard a live0 live1 n
all_heard a live0 live1 n e m f = record { done = f; more = m; next = λ l. absurd (omega (arith, e, l)) }

-- Going on

-- some are left
pub advances_to : (a : Audience) (live0 live1 : Live) (turn : Turn) (n : ℕ) → AreDone a live0 live1 n → Advances (stages.TellEach a) live0 turn (stages.TellEach (record a { done = n })) live1 turn
advances_to a live0 live1 turn n f e own g b by s h = let t = f g turn b by s h in (t.0, t.1, ap (λ c. and_then c (ended e)) t.2)

-- none is left
pub advances_out : (a : Audience) (live0 live1 : Live) (turn : Turn) (n : ℕ) → length a.listeners.items ≤ n → AreDone a live0 live1 n → Advances (stages.TellEach a) live0 turn stages.Zero live1 turn
advances_out a live0 live1 turn n l f e own g b by s h =
    let t = f g turn b by s h in (t.0, t.1, ap (λ c. and_then c (ended e)) (t.2 ∙ ap (λ os. telling a os by t.0) (drop_all n a.listeners.items l)))

-- the next one is asked
pub listener_asks : (e : Efun) (a : Audience) (o : ObjId) (below : ℕ) (stack0 stack1 : List Value) (live : Live) (turn : Turn) (budget : ℕ) → below ≤ length stack0 → slice_get a.listeners.items a.done ≡ Some o
    → a.done < length a.listeners.items → live_in live.objects o ≡ true → IsTold true live a.but o → number_of live o ≡ None → stack1 ≡ stack0 ++ values.Str a.text ∷ []
    → StageGoes (steps.Asks (questions.Apply o applies.CatchTell) 1) e (stages.TellEach a) below live turn stack0 budget live turn stack1 budget
listener_asks e a o below stack0 stack1 live turn budget le at d l y c t low own q k =
    let rest : Asker → Value → State → Course Value = λ by v s. tell_each by a.text a.but (listeners_behind a) s in
    record {
      own = own;
      arguments = values.Str a.text ∷ [];
      stack = t ∙ ap (λ s. s ++ values.Str a.text ∷ []) q;
      count = refl;
      height = refl;
      fits = omega (arith, length-append low own, k);
      is_asking = d;
      with_these = tt;
      course = λ g by s h. (
        s,
        settled_here g live turn budget s h,
        ap (λ c. and_then c (ended e)) (ap (λ os. telling a os by s) (left_at a.listeners.items a.done o at)
            ∙ tell_first by a.text a.but o (listeners_behind a) s true (sym (y g turn budget s h))
            ∙ ap (λ c. and_then c (rest by)) (telling_is by o a.text s true None (live_at g live turn budget s o true h l) (connection_same g live turn budget s o h ∙ c))
            ∙ then_on (ask_value (Apply o (codes "catch_tell")) (values.Str a.text ∷ []) by s) (λ v s. gives zero_value s) (rest by))
            ∙ then_on (ask_value (Apply o (codes "catch_tell")) (values.Str a.text ∷ []) by s) (rest by) (ended e)
            ∙ asked_on e (stages.TellEach a) own by (ask_value (Apply o (codes "catch_tell")) (values.Str a.text ∷ []) by s) (λ p. refl),
      );
    }

-- it has answered
pub told_takes : (a : Audience) (v : Value) (l : ObjId → Bool) (below : ℕ) (stack : List Value) → StageTakes (stages.TellEach a) v l below stack (stages.TellEach (record a { done = a.done + 1 })) stack
told_takes a v l below stack low own q k = record { own = own; stack = q; course = λ e by s i. refl }

-- Beginning

-- those in an object are told
pub room_starts : (caller : Caller) (live : Live) (n : ℕ) (stack : List Value) (place : ObjId) (text : List ℕ) (a : Audience) → n ≤ length stack
    → ((cells : Store) → Some place ≡ object_arg (map (operand (live_in live.objects) cells) (drop n stack)) 0)
    → ((l : ObjId → Bool) (cells : Store) → text ≡ text_arg (map (operand l cells) (drop n stack)) 1)
    → IsAudienceIn a live place None text
    → Starts (begun.Runs (record { efun = efuns.TellRoom; low = n; stage = stages.TellEach a })) efuns.TellRoom caller live n stack stack
unfolding calls
room_starts caller live n stack place text a le f tx i turn b low vs q k =
    let same : drop n stack ≡ vs = ap (drop n) q ∙ drop_at low vs n k in
    record {
      own = vs;
      stack = q;
      height = k;
      fits = le;
      course = λ g by c s sc h. (
        s,
        settled_here g live turn b s h,
        ap (λ o. and_then (with_live o s (λ o. tell_each by (text_arg (opened_args s vs) 1) None (inventory s.world.places o) s)) (ended efuns.TellRoom))
            (object_same g live turn b s vs 0 (Some place) h (λ cells. f cells ∙ ap (λ ws. object_arg (map (operand (live_in live.objects) cells) ws) 0) same))
            ∙ ap (λ c. and_then c (ended efuns.TellRoom))
            (ap (λ t. tell_each by t None (inventory s.world.places place) s) (sym (tx (living s) (cells_of s) ∙ ap (λ ws. text_arg (opened_args s ws) 1) same) ∙ sym i.same_text)
            ∙ ap (λ os. tell_each by a.text None os s) (i.listeners g turn b s h)
            ∙ ap (λ but. tell_each by a.text but a.listeners.items s) (sym i.same_but)
            ∙ ap (λ m. telling a (drop m a.listeners.items) by s) (sym i.none_done)),
      );
    }

pub no_room_starts : (caller : Caller) (live : Live) (n : ℕ) (stack : List Value) → n ≤ length stack
    → ((cells : Store) → None ≡ object_arg (map (operand (live_in live.objects) cells) (drop n stack)) 0)
    → Starts (begun.Runs (record { efun = efuns.TellRoom; low = n; stage = stages.Zero })) efuns.TellRoom caller live n stack stack
unfolding calls
no_room_starts caller live n stack le f turn b low vs q k =
    let same : drop n stack ≡ vs = ap (drop n) q ∙ drop_at low vs n k in
    record {
      own = vs;
      stack = q;
      height = k;
      fits = le;
      course = λ g by c s sc h. (
        s,
        settled_here g live turn b s h,
        ap (λ o. and_then (with_live o s (λ o. tell_each by (text_arg (opened_args s vs) 1) None (inventory s.world.places o) s)) (ended efuns.TellRoom))
            (object_same g live turn b s vs 0 None h (λ cells. f cells ∙ ap (λ ws. object_arg (map (operand (live_in live.objects) cells) ws) 0) same)),
      );
    }

-- something is said
pub say_starts : (caller : Caller) (live : Live) (n : ℕ) (stack : List Value) (text : List ℕ) → n ≤ length stack
    → ((l : ObjId → Bool) (cells : Store) → text ≡ text_arg (map (operand l cells) (drop n stack)) 0)
    → Starts (begun.Runs (record { efun = efuns.Say; low = n; stage = stages.Say caller.this text })) efuns.Say caller live n stack stack
unfolding calls
say_starts caller live n stack text le f turn b low vs q k =
    let same : drop n stack ≡ vs = ap (drop n) q ∙ drop_at low vs n k in
    record {
      own = vs;
      stack = q;
      height = k;
      fits = le;
      course = λ g by c s sc h. (
        s,
        settled_here g live turn b s h,
        ap (λ t. and_then (say_around c.this t by s) (ended efuns.Say)) (sym (f (living s) (cells_of s) ∙ ap (λ ws. text_arg (opened_args s ws) 0) same))
            ∙ ap (λ o. and_then (say_around o text by s) (ended efuns.Say)) sc.this,
      );
    }

-- who says it
speaker_by : (live : ObjId → Bool) (s : State) (this : ObjId) (p r : Option ObjId) → live ≡ is_live s.world → r ≡ reader live p
    → speaker s.world this p ≡ elim r as (λ _. ObjId) [ Some o ↦ o | None ↦ this ]
speaker_by live s this None r e q = ap (λ r. elim r as (λ _. ObjId) [ Some o ↦ o | None ↦ this ]) (sym q)
speaker_by live s this (Some p) r e q = by (is_live s.world p) (q ∙ ap (λ f. if f p then Some p else None) e)
  where
    by : (b : Bool) → r ≡ (if b then Some p else None) → (if b then p else this) ≡ elim r as (λ _. ObjId) [ Some o ↦ o | None ↦ this ]
    by true q = ap (λ r. elim r as (λ _. ObjId) [ Some o ↦ o | None ↦ this ]) (sym q)
    by false q = ap (λ r. elim r as (λ _. ObjId) [ Some o ↦ o | None ↦ this ]) (sym q)

pub player_speaks : (live : Live) (turn : Turn) (this o : ObjId) → Some o ≡ reader (live_in live.objects) turn.player → Speaks o live turn this
player_speaks live turn this o e g b s h =
    ap (speaker s.world this) h.player ∙ speaker_by (live_in live.objects) s this turn.player (Some o) (live_same g.told g.programs live s.world h.stands) e

pub object_speaks : (live : Live) (turn : Turn) (this : ObjId) → None ≡ reader (live_in live.objects) turn.player → Speaks this live turn this
object_speaks live turn this e g b s h =
    ap (speaker s.world this) h.player ∙ speaker_by (live_in live.objects) s this turn.player None (live_same g.told g.programs live s.world h.stands) e

-- those around are told
pub says_in : (live live1 : Live) (turn : Turn) (o this place : ObjId) (text : List ℕ) (a : Audience) (stage : Stage) → Speaks o live turn this → LiesIn (Some place) live o → IsAudienceIn a live place (Some o) text
    → Advances (stages.TellEach a) live turn stage live1 turn → Advances (stages.Say this text) live turn stage live1 turn
says_in live live1 turn o this place text a stage sp li i f e own g b by s h =
    let t = f e own g b by s h in (
      t.0,
      t.1,
      ap (λ p. and_then (say_in by p text (environment s.world.places p) s) (ended e)) (sp g b s h)
          ∙ ap (λ p. and_then (say_in by o text p s) (ended e)) (li g turn b s h)
          ∙ ap (λ c. and_then c (ended e))
          (ap (λ x. tell_each by x (Some o) (inventory s.world.places place) s) (sym i.same_text)
          ∙ ap (λ os. tell_each by a.text (Some o) os s) (i.listeners g turn b s h)
          ∙ ap (λ but. tell_each by a.text but a.listeners.items s) (sym i.same_but)
          ∙ ap (λ m. telling a (drop m a.listeners.items) by s) (sym i.none_done))
          ∙ t.2,
    )

-- there is nobody
pub says_nowhere : (live : Live) (turn : Turn) (o this : ObjId) (text : List ℕ) → Speaks o live turn this → LiesIn None live o → Advances (stages.Say this text) live turn stages.Zero live turn
says_nowhere live turn o this text sp li e own g b by s h = (
  s,
  settled_here g live turn b s h,
  ap (λ p. and_then (say_in by p text (environment s.world.places p) s) (ended e)) (sp g b s h) ∙ ap (λ p. and_then (say_in by o text p s) (ended e)) (li g turn b s h),
)

-- `call_other`.
use Rattle.std.proofs.Common.{◌≡◌, ◌∙◌, ◌≤◌, ◌++◌, ◌∷◌, [], ℕ, pos, Bool, true, false, List, Option, Some, None, refl, ap, sym, subst, drop, length, map, take, arith, length-append, append_assoc, unwrap_or, if◌then◌else◌}
use Rattle.std.proofs.lemmas.List.{take_at, drop_at, take-append-drop}
use Rattle.std.proofs.lemmas.List.Elements.{All-push, All-take}
use Rattle.lp_values.specs.declared.error.ErrorKind.TheVariants.{BadTarget}
use Rattle.lp_values.specs.declared.error.RunError.{RunError}
use Rattle.lp_values.specs.Errors.{plain}
use Rattle.lp_values.specs.declared.id.ObjId.{ObjId}
use Rattle.lp_values.specs.declared.value.Value.{Value}
use Rattle.lp_values.specs.declared.value.Value.TheVariants as values
use Rattle.lp_cells.specs.Cells.{IsThere, Store}
use Rattle.lp_ops.specs.Operands.{Opened, Number, Chars, Array, Mapping, Object, opened, operand}
use Rattle.lp_instr.specs.declared.efun.Efun.{Efun}
use Rattle.lp_instr.specs.declared.efun.Efun.TheVariants as efuns
use Rattle.lp_objects.specs.Objects as names
use Rattle.lp_objects.specs.Stands as named
use Rattle.lp_language.specs.World.{is_live, object_named}
use Rattle.lp_language.specs.Course.{Course, Failed, Other, Over, Scene, State, Stops, and_then, gives, here, stops, zero_value}
use Rattle.lp_language.specs.Operations.{cells_of, living}
use Rattle.lp_meaning.specs.Askers.{Asker, ask_value}
use Rattle.lp_meaning.specs.CallingEfuns.{calls, with_target}
use Rattle.lp_meaning.specs.EfunArguments.{arg, opened_args, text_arg}
use Rattle.lp_meaning.specs.FileLoads.{as_target, load_value}
use Rattle.lp_meaning.specs.WorldSteps.{as_name, is_clone_name}
use Rattle.lp_world.specs.Rows.{live_in}
use Rattle.lp_world.specs.declared.live.Live.{Live}
use Rattle.lp_world.proofs.Keeping.{live_same}
use Rattle.lp_step.specs.Steps.{IsFit}
use Rattle.lp_efuns.specs.declared.answer.Answer.TheVariants as answers
use Rattle.lp_efuns.specs.declared.caller.Caller.{Caller}
use Rattle.lp_efuns.specs.declared.caller.Turn.{Turn}
use Rattle.lp_efuns.specs.Turns.{At, IsScene, Setting}
use Rattle.lp_efuns.proofs.Looking.{found_same}
use Rattle.lp_calling.specs.declared.job.Begun.TheVariants as begun
use Rattle.lp_calling.specs.declared.job.Question.TheVariants as questions
use Rattle.lp_calling.specs.declared.job.Stage.{Stage}
use Rattle.lp_calling.specs.declared.job.Stage.TheVariants as stages
use Rattle.lp_calling.specs.declared.job.Step.TheVariants as steps
use Rattle.lp_calling.specs.declared.target.CallTarget.{CallTarget}
use Rattle.lp_calling.specs.declared.target.CallTarget.TheVariants as targets
use Rattle.lp_calling.specs.Beginning.{Starts, acts}
use Rattle.lp_calling.specs.Going.{StageGoes, StageTakes}
use Rattle.lp_calling.specs.Jobs.{ended, stage_rest}
use Rattle.lp_calling.specs.Targets.{IsNamed, IsTarget, IsUnnamedTarget, MeansName, Targeted, target_of}
use Rattle.lp_calling.proofs.Courses.{asked_on}
use Rattle.lp_calling.proofs.Ending.{cut_to}
use Rattle.lp_calling.proofs.Settled.{settled_here}

-- Targets

-- by the first argument
live_target : (by : Asker) (x : Opened) (s : State) (go : Targeted) (o : ObjId) → targets.Live o ≡ target_of x → with_target by x s go ≡ go o s
live_target by (Object p) s go o e = let q : p ≡ o = cc in ap (λ p. go p s) q
live_target by (Chars t) s go o e = cc
live_target by (Number n) s go o e = cc
live_target by (Array c vs) s go o e = cc
live_target by (Mapping c ps) s go o e = cc

no_target : (by : Asker) (x : Opened) (s : State) (go : Targeted) → targets.Nothing ≡ target_of x → with_target by x s go ≡ stops (Failed (plain BadTarget)) s
no_target by (Object p) s go e = cc
no_target by (Chars t) s go e = cc
no_target by (Number n) s go e = refl
no_target by (Array c vs) s go e = refl
no_target by (Mapping c ps) s go e = refl

-- what the arguments name on the state is what they name in the meaning
target_at : (g : Setting) (live : Live) (turn : Turn) (b : ℕ) (s : State) (vs : List Value) (r : CallTarget) → At g live turn b s
    → ((cells : Store) → r ≡ target_of (arg (map (operand (live_in live.objects) cells) vs) 0)) → r ≡ target_of (arg (opened_args s vs) 0)
target_at g live turn b s vs r h f = f (cells_of s) ∙ ap (λ l. target_of (arg (map (operand l (cells_of s)) vs) 0)) (live_same g.told g.programs live s.world h.stands)

-- an object is the target
pub object_target : (live : Live) (vs : List Value) (o : ObjId) → ((cells : Store) → targets.Live o ≡ target_of (arg (map (operand (live_in live.objects) cells) vs) 0)) → IsTarget live vs o
object_target live vs o f g turn b by s go h = live_target by (arg (opened_args s vs) 0) s go o (target_at g live turn b s vs (targets.Live o) h f)

-- in each state for which the live state stands there is no target
abbrev pub HasNoTarget : Live → List Value → Type 0
HasNoTarget live vs = (g : Setting) (turn : Turn) (budget : ℕ) (by : Asker) (s : State) (go : Targeted) → At g live turn budget s → with_target by (arg (opened_args s vs) 0) s go ≡ stops (Failed (plain BadTarget)) s

pub nothing_targeted : (live : Live) (vs : List Value) → ((cells : Store) → targets.Nothing ≡ target_of (arg (map (operand (live_in live.objects) cells) vs) 0)) → HasNoTarget live vs
nothing_targeted live vs f g turn b by s go h = no_target by (arg (opened_args s vs) 0) s go (target_at g live turn b s vs targets.Nothing h f)

-- An object that a text names is the target where it is live, and else there is none.
picked : (o : ObjId) (s : State) (go : Targeted) (b : Bool)
    → elim (if b then Some o else None) as (λ _. Course Value) [ Some p ↦ go p s | None ↦ stops (Failed (plain BadTarget)) s ] ≡ (if b then go o s else stops (Failed (plain BadTarget)) s)
picked o s go true = refl
picked o s go false = refl

as_found : (o : ObjId) (s : State) (go : Targeted) (b : Bool) → is_live s.world o ≡ b → as_target (values.Obj o) s go ≡ (if b then go o s else stops (Failed (plain BadTarget)) s)
as_found o s go b e = picked o s go (is_live s.world o) ∙ ap (λ x. if x then go o s else stops (Failed (plain BadTarget)) s) e

lives_at : (g : Setting) (live : Live) (turn : Turn) (b : ℕ) (s : State) (o : ObjId) (is : Bool) → At g live turn b s → live_in live.objects o ≡ is → is_live s.world o ≡ is
lives_at g live turn b s o is h l = sym (ap (λ f. f o) (live_same g.told g.programs live s.world h.stands)) ∙ l

pub named_target : (live : Live) (vs : List Value) (o : ObjId) → IsNamed live vs o → live_in live.objects o ≡ true → IsTarget live vs o
named_target live vs o n l g turn b by s go h = n g turn b by s go h ∙ as_found o s go true (lives_at g live turn b s o true h l)

pub dead_target : (live : Live) (vs : List Value) (o : ObjId) → IsNamed live vs o → live_in live.objects o ≡ false → HasNoTarget live vs
dead_target live vs o n l g turn b by s go h = n g turn b by s go h ∙ as_found o s go false (lives_at g live turn b s o false h l)

-- a text is there where one is the target
named_text : (l : ObjId → Bool) (cells : Store) (vs : List Value) → targets.Named ≡ target_of (arg (map (operand l cells) vs) 0) → (t : List ℕ) × (ws : List Value) × (vs ≡ values.Str t ∷ ws)
named_text l cells [] e = absurd cc
named_text l cells (values.Str t ∷ vs) e = (t, vs, refl)
named_text l cells (values.Int n ∷ vs) e = absurd cc
named_text l cells (values.Arr c ∷ vs) e = absurd cc
named_text l cells (values.Map c ∷ vs) e = absurd cc
named_text l cells (values.Obj o ∷ vs) e = absurd (by (l o) e)
  where
    by : (b : Bool) → targets.Named ≡ target_of (opened l cells (unwrap_or (if b then Some (values.Obj o) else None) (values.Int (pos 0)))) → ⊥
    by true e = cc
    by false e = cc

-- what a text comes to, by the object with the name that it means
text_led : (by : Asker) (t : List ℕ) (s : State) (go : Targeted) (r : Option ObjId) → object_named s.world (as_name t) ≡ r → with_target by (Chars t) s go ≡ and_then (elim r as (λ _. Course Value) [
  | Some o ↦ gives (values.Obj o) s
  | None ↦ if is_clone_name (as_name t) then stops (Failed (plain BadTarget)) s else load_value by (as_name t) s
]) (λ v s. as_target v s go)
text_led by t s go r e =
    ap (λ x. and_then (elim x as (λ _. Course Value) [ Some o ↦ gives (values.Obj o) s | None ↦ if is_clone_name (as_name t) then stops (Failed (plain BadTarget)) s else load_value by (as_name t) s ]) (λ v s. as_target v s go)) e

-- what the table of names has for a name is what the meaning has for the text
abbrev pub FoundBy : Live → List ℕ → Option ObjId → Type 0
FoundBy live name r = (objects : List names.Named) → named.Stands live.names objects → r ≡ names.object_named objects name

named_first : (live : Live) (t : List ℕ) (ws : List Value) (name : List ℕ) (o : ObjId) → name ≡ as_name t → FoundBy live name (Some o) → IsNamed live (values.Str t ∷ ws) o
named_first live t ws name o e f g turn b by s go h = text_led by t s go (Some o) (sym (found_same g live turn b s (as_name t) name (Some o) h f e))

pub named_is : (live : Live) (vs : List Value) (name : List ℕ) (o : ObjId) → ((cells : Store) → targets.Named ≡ target_of (arg (map (operand (live_in live.objects) cells) vs) 0)) → MeansName vs name
    → FoundBy live name (Some o) → IsNamed live vs o
named_is live vs name o e m f =
    let n = named_text (live_in live.objects) [] vs (e []) in
    subst (λ vs. IsNamed live vs o) (sym n.2)
    (named_first live n.0 n.1 name o (m (live_in live.objects) [] ∙ ap (λ ws. as_name (text_arg (map (operand (live_in live.objects) []) ws) 0)) n.2) f)

pub unnamed_is : (live : Live) (vs : List Value) (name : List ℕ) → ((cells : Store) → targets.Named ≡ target_of (arg (map (operand (live_in live.objects) cells) vs) 0)) → MeansName vs name
    → FoundBy live name None → IsUnnamedTarget live vs name
unnamed_is live vs name e m f =
    let n = named_text (live_in live.objects) [] vs (e []) in
    subst (λ vs. IsUnnamedTarget live vs name) (sym n.2)
    (m (live_in live.objects) [] ∙ ap (λ ws. as_name (text_arg (map (operand (live_in live.objects) []) ws) 0)) n.2, λ g turn b s h. sym (found_same g live turn b s name name None h f refl))

-- no live object has the name of a clone
pub clone_unnamed : (live : Live) (vs : List Value) (name : List ℕ) → IsUnnamedTarget live vs name → is_clone_name name ≡ true → HasNoTarget live vs
clone_unnamed live [] name u c g turn b by s go h = absurd u
clone_unnamed live (values.Str t ∷ vs) name u c g turn b by s go h =
    text_led by t s go None (ap (object_named s.world) (sym u.0) ∙ u.1 g turn b s h)
    ∙ ap (λ x. and_then (if x then stops (Failed (plain BadTarget)) s else load_value by (as_name t) s) (λ v s. as_target v s go)) (ap is_clone_name (sym u.0) ∙ c)
clone_unnamed live (values.Int n ∷ vs) name u c g turn b by s go h = absurd u
clone_unnamed live (values.Arr d ∷ vs) name u c g turn b by s go h = absurd u
clone_unnamed live (values.Map d ∷ vs) name u c g turn b by s go h = absurd u
clone_unnamed live (values.Obj o ∷ vs) name u c g turn b by s go h = absurd u

-- In each state for which the live state stands the object of another name is loaded, and is the target where it lives then.
abbrev IsLoaded : Live → List Value → List ℕ → Type 0
IsLoaded live vs name = (g : Setting) (turn : Turn) (budget : ℕ) (by : Asker) (s : State) (go : Targeted) → At g live turn budget s
    → with_target by (arg (opened_args s vs) 0) s go ≡ and_then (load_value by name s) (λ v s. as_target v s go)

unnamed_loads : (live : Live) (vs : List Value) (name : List ℕ) → IsUnnamedTarget live vs name → is_clone_name name ≡ false → IsLoaded live vs name
unnamed_loads live [] name u c g turn b by s go h = absurd u
unnamed_loads live (values.Str t ∷ vs) name u c g turn b by s go h =
    text_led by t s go None (ap (object_named s.world) (sym u.0) ∙ u.1 g turn b s h)
    ∙ ap (λ x. and_then (if x then stops (Failed (plain BadTarget)) s else load_value by (as_name t) s) (λ v s. as_target v s go)) (ap is_clone_name (sym u.0) ∙ c)
    ∙ ap (λ n. and_then (load_value by n s) (λ v s. as_target v s go)) (sym u.0)
unnamed_loads live (values.Int n ∷ vs) name u c g turn b by s go h = absurd u
unnamed_loads live (values.Arr d ∷ vs) name u c g turn b by s go h = absurd u
unnamed_loads live (values.Map d ∷ vs) name u c g turn b by s go h = absurd u
unnamed_loads live (values.Obj o ∷ vs) name u c g turn b by s go h = absurd u

-- Beginning

-- an error ends an efun before it asks
pub error_starts : (e : Efun) (x : RunError) (caller : Caller) (live : Live) (n : ℕ) (stack0 stack1 : List Value) → stack1 ≡ take n stack0
    → ((turn : Turn) (b : ℕ) (g : Setting) (by : Asker) (c : Scene) (s : State) → IsScene caller c → At g live turn b s → acts e (drop n stack0) by c s ≡ Over (Stops (here (Failed x)) s))
    → Starts (begun.Ends (answers.Error x)) e caller live n stack0 stack1
error_starts e x caller live n stack0 stack1 t f turn b low vs q k =
    let same : drop n stack0 ≡ vs = ap (drop n) q ∙ drop_at low vs n k in
    record {
      stack = cut_to stack0 stack1 low vs n t q k;
      course = λ g by c s sc h. (Stops (here (Failed x)) s, ap (λ ws. acts e ws by c s) (sym same) ∙ f turn b g by c s sc h, (refl, settled_here g live turn b s h));
    }

pub call_starts : (caller : Caller) (live : Live) (n : ℕ) (stack : List Value) (o : ObjId) (name : List ℕ) → n ≤ length stack → IsTarget live (drop n stack) o
    → ((l : ObjId → Bool) (cells : Store) → name ≡ text_arg (map (operand l cells) (drop n stack)) 1)
    → Starts (begun.Runs (record { efun = efuns.CallOther; low = n; stage = stages.Call o name })) efuns.CallOther caller live n stack stack
unfolding calls
call_starts caller live n stack o name le t f turn b low vs q k =
    let same : drop n stack ≡ vs = ap (drop n) q ∙ drop_at low vs n k in
    let target : IsTarget live vs o = subst (λ ws. IsTarget live ws o) same t in
    record {
      own = vs;
      stack = q;
      height = k;
      fits = le;
      course = λ g by c s sc h. (
        s,
        settled_here g live turn b s h,
        ap (λ c. and_then c (ended efuns.CallOther)) (target g turn b by s (λ o t. ask_value (Other o (text_arg (opened_args s vs) 1)) (drop 2 vs) by t) h)
            ∙ ap (λ m. and_then (ask_value (Other o m) (drop 2 vs) by s) (ended efuns.CallOther)) (ap (λ ws. text_arg (map (operand (living s) (cells_of s)) ws) 1) (sym same) ∙ sym (f (living s) (cells_of s))),
      );
    }

pub target_starts : (caller : Caller) (live : Live) (n : ℕ) (stack : List Value) (name fun : List ℕ) → n ≤ length stack → IsUnnamedTarget live (drop n stack) name → is_clone_name name ≡ false
    → ((l : ObjId → Bool) (cells : Store) → fun ≡ text_arg (map (operand l cells) (drop n stack)) 1)
    → Starts (begun.Runs (record { efun = efuns.CallOther; low = n; stage = stages.Target name fun })) efuns.CallOther caller live n stack stack
unfolding calls
target_starts caller live n stack name fun le u o f turn b low vs q k =
    let same : drop n stack ≡ vs = ap (drop n) q ∙ drop_at low vs n k in
    let loads : IsLoaded live vs name = subst (λ ws. IsLoaded live ws name) same (unnamed_loads live (drop n stack) name u o) in
    record {
      own = vs;
      stack = q;
      height = k;
      fits = le;
      course = λ g by c s sc h. (
        s,
        settled_here g live turn b s h,
        ap (λ c. and_then c (ended efuns.CallOther)) (loads g turn b by s (λ o t. ask_value (Other o (text_arg (opened_args s vs) 1)) (drop 2 vs) by t) h)
            ∙ ap (λ m. and_then (and_then (load_value by name s) (λ v s. as_target v s (λ o t. ask_value (Other o m) (drop 2 vs) by t))) (ended efuns.CallOther)) (ap (λ ws. text_arg (map (operand (living s) (cells_of s)) ws) 1) (sym same) ∙ sym (f (living s) (cells_of s))),
      );
    }

pub no_call_starts : (caller : Caller) (live : Live) (n : ℕ) (stack0 stack1 : List Value) → stack1 ≡ take n stack0 → HasNoTarget live (drop n stack0)
    → Starts (begun.Ends (answers.Error (plain BadTarget))) efuns.CallOther caller live n stack0 stack1
unfolding calls
no_call_starts caller live n stack0 stack1 t f =
    error_starts efuns.CallOther (plain BadTarget) caller live n stack0 stack1 t
    (λ turn b g by c s sc h. ap (λ c. and_then c (ended efuns.CallOther)) (f g turn b by s (λ o t. ask_value (Other o (text_arg (opened_args s (drop n stack0)) 1)) (drop 2 (drop n stack0)) by t) h))

-- Going on

-- the further arguments lie on top
pub call_asks : (e : Efun) (o : ObjId) (name : List ℕ) (below n : ℕ) (stack : List Value) (live : Live) (turn : Turn) (budget : ℕ) → n ≡ length (drop 2 (drop below stack))
    → StageGoes (steps.Asks (questions.Other o name) n) e (stages.Call o name) below live turn stack budget live turn stack budget
call_asks e o name below n stack live turn budget c low own q k =
    let same : drop below stack ≡ own = ap (drop below) q ∙ drop_at low own below k in
    record {
      own = take 2 own;
      arguments = drop 2 own;
      stack = q ∙ ap (λ l. low ++ l) (sym (take-append-drop 2 own)) ∙ sym (append_assoc low (take 2 own) (drop 2 own));
      count = sym (c ∙ ap (λ l. length (drop 2 l)) same);
      height = refl;
      fits = omega (arith, length-append low (take 2 own), k);
      is_asking = tt;
      with_these = tt;
      course = λ g by s h. (s, settled_here g live turn budget s h, asked_on e (stages.Call o name) (take 2 own) by (ask_value (Other o name) (drop 2 own) by s) (λ p. refl));
    }

-- Answers

pub call_takes : (o : ObjId) (name : List ℕ) (v : Value) (l : ObjId → Bool) (below : ℕ) (stack0 stack1 : List Value) → stack1 ≡ take below stack0 ++ v ∷ []
    → StageTakes (stages.Call o name) v l below stack0 stages.Value stack1
call_takes o name v l below stack0 stack1 e low own q k = record {
  own = v ∷ [];
  stack = e ∙ ap (λ s. s ++ v ∷ []) (ap (take below) q ∙ take_at low own below k);
  course = λ e by s i. refl;
}

-- a value that is there, on what lay below
pub fit_with : (live : Live) (stack0 stack1 : List Value) (n : ℕ) (v : Value) → stack1 ≡ take n stack0 ++ v ∷ [] → IsThere live.cells v → IsFit live stack0 → IsFit live stack1
fit_with live stack0 stack1 n v e i h = subst (λ s. IsFit live s) (sym e) (record { closed = h.closed; there = All-push (IsThere live.cells) (take n stack0) v (All-take (IsThere live.cells) n stack0 h.there) i })

-- what has ended with 0 takes no other value
pub zero_takes : (stage : Stage) (v : Value) (l : ObjId → Bool) (below : ℕ) (stack : List Value) → ((e : Efun) (own : List Value) (by : Asker) (s : State) → stage_rest e stage own by v s ≡ ended e zero_value s)
    → StageTakes stage v l below stack stages.Zero stack
zero_takes stage v l below stack f low own q k = record { own = own; stack = q; course = λ e by s i. f e own by s }

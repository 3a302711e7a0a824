-- The master is asked for leave.
use Rattle.std.proofs.Common.{◌≡◌, ◌∙◌, ◌+◌, ◌≤◌, ◌++◌, ◌∷◌, [], ℕ, suc, pos, Bool, true, false, ◌&&◌, ◌||◌, not, List, Option, Some, None, IfSome, is_some, refl, ap, sym, subst, drop, length, map, arith, append-nil, append_assoc, unwrap_or, slice_get, codes, if◌then◌else◌}
use mathlib.Core.Path.{fun_ext}
use Rattle.std.specs.Option.{option_map}
use Rattle.std.specs.Prelude.{string_bytes}
use Rattle.std.specs.Str.{chars}
use Rattle.std.specs.declared.alloc.Global.{Global}
use Rattle.std.specs.declared.string.String.{String}
use Rattle.std.proofs.lemmas.List.{drop_at}
use Rattle.lp_values.specs.declared.id.ObjId.{ObjId}
use Rattle.lp_values.specs.declared.value.Value.{Value}
use Rattle.lp_values.specs.declared.value.Value.TheVariants as values
use Rattle.lp_values.specs.Read.{is_zero}
use Rattle.lp_cells.specs.Cells.{Store}
use Rattle.lp_ops.specs.Operands.{operand}
use Rattle.lp_save.specs.SaveText.{FaultyLine, Restored, Values, restored_text, saved_text}
use Rattle.lp_instr.specs.declared.efun.Efun.{Efun}
use Rattle.lp_instr.specs.declared.efun.Efun.TheVariants as efuns
use Rattle.lp_instr.specs.EfunList.{efun_name, is_name}
use Rattle.lp_language.specs.World.{Object as ObjectOf, World, is_live, named_from, no_object, object_at, object_named, object_value, with_object}
use Rattle.lp_language.specs.Course.{Apply, Course, Scene, State, and_then, gives, zero_value}
use Rattle.lp_language.specs.Operations.{cells_of, is_false, living, with_store, with_world}
use Rattle.lp_meaning.specs.Askers.{Asker, ask_value}
use Rattle.lp_meaning.specs.CallingEfuns.{may_begin, one_value, with_shadow}
use Rattle.lp_meaning.specs.EfunArguments.{opened_args, text_arg}
use Rattle.lp_meaning.specs.FileEfuns.{files, is_path, named_value, path_answered, path_if, restored, restoring, restoring_from, saved_bytes, saved_of, saving, with_leave, with_o, with_values, with_variables, written_to}
use Rattle.lp_meaning.specs.FileLoads.{live_object, load_value, master_call, object_of_value}
use Rattle.lp_meaning.specs.Questions.{acting}
use Rattle.lp_meaning.specs.WorldSteps.{file_at, master_name}
use Rattle.lp_world.specs.Rows.{live_in}
use Rattle.lp_world.specs.declared.live.Live.{Live}
use Rattle.lp_world.specs.declared.objects.Object.{Object}
use Rattle.lp_world.proofs.Keeping.{live_same}
use Rattle.lp_efuns.specs.declared.caller.Caller.{Caller}
use Rattle.lp_efuns.specs.declared.caller.Turn.{Turn}
use Rattle.lp_efuns.specs.Turns.{At, Setting}
use Rattle.lp_efuns.proofs.Enabled.{row_there}
use Rattle.lp_efuns.proofs.Looking.{found_same}
use Rattle.lp_calling.specs.declared.job.Applied.{Applied}
use Rattle.lp_calling.specs.declared.job.Begun.TheVariants as begun
use Rattle.lp_calling.specs.declared.job.Question.TheVariants as questions
use Rattle.lp_calling.specs.declared.job.Stage.{Stage}
use Rattle.lp_calling.specs.declared.job.Stage.TheVariants as stages
use Rattle.lp_calling.specs.declared.job.Step.TheVariants as steps
use Rattle.lp_calling.specs.declared.wish.FileDeed.{FileDeed}
use Rattle.lp_calling.specs.declared.wish.FileDeed.TheVariants as deeds
use Rattle.lp_calling.specs.declared.wish.Wish.{Wish}
use Rattle.lp_calling.specs.declared.wish.Wish.TheVariants as wishes
use Rattle.lp_calling.specs.Beginning.{Starts}
use Rattle.lp_calling.specs.Going.{StageGoes, StageTakes}
use Rattle.lp_calling.specs.Jobs.{IsStageOn, IsStageReady, ended, stage_course, stage_rest}
use Rattle.lp_calling.specs.Leave.{IsWish, asked_in, asker_value, file_deed, granted, leave_function, scene_of, wish_arguments, wish_function}
use Rattle.lp_calling.specs.Leaving.{AsksLeave, AsksToShadow, GrantedAs, IsDeedOf, IsLiveObject, IsMaster, master_stage, where_live}
use Rattle.lp_calling.specs.Questions.{applied_name}
use Rattle.lp_calling.proofs.Calling.{FoundBy}
use Rattle.lp_calling.proofs.Courses.{asked_on, then_on}
use Rattle.lp_calling.proofs.Settled.{settled_here}

-- Words

pub chars-master : chars (codes "/secure/master") ≡ codes "/secure/master"
unfolding chars
chars-master = refl

-- The master

first_true : (a b : Bool) → (a && b) ≡ true → a ≡ true
first_true true b e = refl
first_true false b e = cc

-- an object that has a name lives
named_lives : (name : List ℕ) (n : ℕ) (xs : List ObjectOf) (o : ObjId) → named_from name n xs ≡ Some o → (k : ℕ) × (o.0 ≡ n + k) × ((unwrap_or (slice_get xs k) no_object).is_live ≡ true)
named_lives name n [] o e = absurd cc
named_lives name n (x ∷ xs) o e = by (λ q. named_lives name (suc n) xs o q) (x.is_live && is_name x.name name) refl e
  where
    by : (named_from name (suc n) xs ≡ Some o → (k : ℕ) × (o.0 ≡ suc n + k) × ((unwrap_or (slice_get xs k) no_object).is_live ≡ true)) → (b : Bool) → (x.is_live && is_name x.name name) ≡ b → (if b then Some (record { 0 = n }) else named_from name (suc n) xs) ≡ Some o → (k : ℕ) × (o.0 ≡ n + k) × ((unwrap_or (slice_get (x ∷ xs) k) no_object).is_live ≡ true)
    by f true r q =
        let m : ObjId = record { 0 = n } in
        let z : m ≡ o = cc in
        let at : n ≡ o.0 = ap (λ (i : ObjId). i.0) z in
        (0, omega arith, first_true x.is_live (is_name x.name name) r)
    by f false r q = let i = f q in (suc i.0, omega (arith, i.1), i.2)

master_lives : (w : World) (o : ObjId) → object_named w master_name ≡ Some o → is_live w o ≡ true
master_lives w o e =
    let i = named_lives master_name 0 w.objects o e in
    let at : o.0 ≡ i.0 = omega (arith, i.1) in
    ap (λ k. (unwrap_or (slice_get w.objects k) no_object).is_live) at ∙ i.2

pub found_master : (live : Live) (name : List ℕ) (m : ObjId) → name ≡ master_name → FoundBy live name (Some m) → IsMaster live (where_live (live_in live.objects) m)
found_master live name m e f g turn b s h =
    let at : object_named s.world master_name ≡ Some m = sym (found_same g live turn b s master_name name (Some m) h f e) in
    let lives : live_in live.objects m ≡ true = ap (λ l. l m) (live_same g.told g.programs live s.world h.stands) ∙ master_lives s.world m at in
    at ∙ sym (ap (λ x. if x then Some m else None) lives)

pub no_master : (live : Live) (name : List ℕ) → name ≡ master_name → FoundBy live name None → IsMaster live None
no_master live name e f g turn b s h = sym (found_same g live turn b s master_name name None h f e)

-- a call to it, by whether it lives
abbrev call_of : Asker → List ℕ → List Value → State → Option ObjId → Course Value
call_of by fun xs s None = and_then (load_value by master_name s) (λ v s. asked_in fun xs by v s)
call_of by fun xs s (Some m) = ask_value (Apply m fun) xs by s

call_is : (by : Asker) (fun : List ℕ) (xs : List Value) (s : State) (m : Option ObjId) → elim m as (λ _. Course Value) [
  | Some m ↦ ask_value (Apply m fun) xs by s
  | None ↦ and_then (load_value by master_name s) (λ v s. elim (live_object s.world v) as (λ _. Course Value) [ Some m ↦ ask_value (Apply m fun) xs by s | None ↦ gives zero_value s ])
] ≡ call_of by fun xs s m
call_is by fun xs s None = refl
call_is by fun xs s (Some m) = refl

master_called : (by : Asker) (fun : List ℕ) (xs : List Value) (s : State) (m : Option ObjId) → object_named s.world master_name ≡ m → master_call by fun xs s ≡ call_of by fun xs s m
master_called by fun xs s m e = call_is by fun xs s (object_named s.world master_name) ∙ ap (λ m. call_of by fun xs s m) e

-- Beginning

-- the object that asks
shown : (o : ObjId) (x : Bool) → unwrap_or (if x then Some (values.Obj o) else None) (values.Int (pos 0)) ≡ asker_value (if x then Some o else None)
shown o true = refl
shown o false = refl

asker_is : (live : Live) (g : Setting) (turn : Turn) (b : ℕ) (s : State) (o : ObjId) → At g live turn b s → object_value s.world (Some o) ≡ asker_value (where_live (live_in live.objects) o)
asker_is live g turn b s o h = shown o (is_live s.world o) ∙ ap (λ l. asker_value (where_live l o)) (sym (live_same g.told g.programs live s.world h.stands))

staged : (e : Efun) (w : Wish) (own : List Value) (by : Asker) (s : State) (m : Option ObjId)
    → and_then (and_then (call_of by (wish_function w) (wish_arguments e w) s m) (granted w)) (ended e) ≡ stage_course e (master_stage m w) own by s
staged e w own by s None = refl
staged e w own by s (Some m) = refl

pub leave_asks : (live : Live) (this : ObjId) (d : FileDeed) (path : List ℕ) (m : Option ObjId) → is_path path ≡ true → IsMaster live m
    → AsksLeave live this d path (master_stage m (wishes.File d path (where_live (live_in live.objects) this)))
leave_asks live this d path m p is e g turn b by c s own t h =
    let w : Wish = wishes.File d path (where_live (live_in live.objects) this) in
    let asker : object_value s.world (Some c.this) ≡ asker_value (where_live (live_in live.objects) this) = ap (λ o. object_value s.world (Some o)) t ∙ asker_is live g turn b s this h in
    ap (λ x. and_then (if x then and_then (master_call by (leave_function d) (values.Str path ∷ zero_value ∷ values.Str (efun_name e) ∷ object_value s.world (Some c.this) ∷ []) s) (granted w) else file_deed d None s) (ended e)) p
    ∙ ap (λ v. and_then (and_then (master_call by (leave_function d) (values.Str path ∷ zero_value ∷ values.Str (efun_name e) ∷ v ∷ []) s) (granted w)) (ended e)) asker
    ∙ ap (λ k. and_then (and_then k (granted w)) (ended e)) (master_called by (leave_function d) (wish_arguments e w) s m (is g turn b s h))
    ∙ staged e w own by s m

pub refused_asks : (live : Live) (this : ObjId) (d : FileDeed) (path : List ℕ) → is_path path ≡ false → AsksLeave live this d path (stages.File d None)
refused_asks live this d path p e g turn b by c s own t h =
    ap (λ x. and_then (if x then and_then (master_call by (leave_function d) (values.Str path ∷ zero_value ∷ values.Str (efun_name e) ∷ object_value s.world (Some c.this) ∷ []) s) (granted (wishes.File d path None)) else file_deed d None s) (ended e)) p

pub shadow_asks : (live : Live) (this o : ObjId) (m : Option ObjId) → IsMaster live m → AsksToShadow live this o (master_stage m (wishes.Shadow this o))
shadow_asks live this o m is g turn b by s own h =
    ap (λ k. and_then (and_then k (granted (wishes.Shadow this o))) (ended efuns.Shadow)) (master_called by (codes "query_allow_shadow") (values.Obj o ∷ []) s m (is g turn b s h))
    ∙ staged efuns.Shadow (wishes.Shadow this o) own by s m

pub master_on : (m : Option ObjId) (w : Wish) (low n : ℕ) → IsWish w → low ≤ n → IsStageOn (master_stage m w) low n
master_on None w low n i l = (l, i)
master_on (Some m) w low n i l = (l, i)

pub master_ready : (objects : List (Option Object)) (m : Option ObjId) (w : Wish) → IfSome m (λ o. live_in objects o ≡ true) → IsStageReady objects (master_stage m w)
master_ready objects None w h = tt
master_ready objects (Some m) w h = row_there objects m h

pub deed_starts : (e : Efun) (caller : Caller) (live : Live) (n : ℕ) (stack : List Value) (d : FileDeed) (path : List ℕ) (stage : Stage) → n ≤ length stack → IsDeedOf e caller d path (drop n stack)
    → AsksLeave live caller.this d path stage → ((low k : ℕ) → low ≤ k → IsStageOn stage low k)
    → Starts (begun.Runs (record { efun = e; low = n; stage = stage })) e caller live n stack stack
deed_starts e caller live n stack d path stage le i a on turn b low vs q k =
    let same : drop n stack ≡ vs = ap (drop n) q ∙ drop_at low vs n k in
    let j : IsDeedOf e caller d path vs = subst (λ ws. IsDeedOf e caller d path ws) same i in
    record {
      own = vs;
      stack = q;
      height = k;
      fits = on n (length stack) le;
      course = λ g by c s sc h. (
        s,
        settled_here g live turn b s h,
        ap (λ x. acting x e by c vs (opened_args s vs) s) j.of_files ∙ ap (λ x. and_then x (ended e)) (j.means by c s sc) ∙ a e g turn b by c s vs sc.this h,
      );
    }

-- what each efun asks for
pub read_means : (caller : Caller) (path : List ℕ) (vs : List Value) → ((l : ObjId → Bool) (cells : Store) → path ≡ text_arg (map (operand l cells) vs) 0) → IsDeedOf efuns.ReadFile caller deeds.Read path vs
unfolding files
read_means caller path vs f = record { of_files = refl; means = λ by c s sc. ap (λ t. with_leave by c (codes "valid_read") efuns.ReadFile t s (file_deed deeds.Read)) (sym (f (living s) (cells_of s))) }

pub size_means : (caller : Caller) (path : List ℕ) (vs : List Value) → ((l : ObjId → Bool) (cells : Store) → path ≡ text_arg (map (operand l cells) vs) 0) → IsDeedOf efuns.FileSize caller deeds.Size path vs
unfolding files
size_means caller path vs f = record { of_files = refl; means = λ by c s sc. ap (λ t. with_leave by c (codes "valid_read") efuns.FileSize t s (file_deed deeds.Size)) (sym (f (living s) (cells_of s))) }

pub append_means : (caller : Caller) (path text : List ℕ) (vs : List Value) → ((l : ObjId → Bool) (cells : Store) → path ≡ text_arg (map (operand l cells) vs) 0)
    → ((l : ObjId → Bool) (cells : Store) → text ≡ text_arg (map (operand l cells) vs) 1) → IsDeedOf efuns.WriteFile caller (deeds.Write text) path vs
unfolding files
append_means caller path text vs f t = record {
  of_files = refl;
  means = λ by c s sc.
      ap (λ p. with_leave by c (codes "valid_write") efuns.WriteFile p s (λ q u. written_to q (text_arg (opened_args s vs) 1) u)) (sym (f (living s) (cells_of s)))
      ∙ ap (λ x. with_leave by c (codes "valid_write") efuns.WriteFile path s (λ q u. written_to q x u)) (sym (t (living s) (cells_of s)));
}

pub remove_means : (caller : Caller) (path : List ℕ) (vs : List Value) → ((l : ObjId → Bool) (cells : Store) → path ≡ text_arg (map (operand l cells) vs) 0) → IsDeedOf efuns.Rm caller deeds.Remove path vs
unfolding files
remove_means caller path vs f = record { of_files = refl; means = λ by c s sc. ap (λ t. with_leave by c (codes "valid_write") efuns.Rm t s (file_deed deeds.Remove)) (sym (f (living s) (cells_of s))) }

-- saving and restoring look at the object alone
save_same : (c : Scene) (o : ObjId) → c.this ≡ o → (p : Option (List ℕ)) (s : State) → saving c p s ≡ file_deed (deeds.Save o) p s
save_same c o e None s = refl
save_same c o e (Some path) s = ap (λ x. saved_bytes path (saved_text (living s) (cells_of s) (map (named_value (object_at s.world x).variables) (saved_of s.world x))) s) e

restored_same : (c : Scene) (o : ObjId) → c.this ≡ o → (path : List ℕ) (r : Restored) (s : State) → restored c path r s ≡ restored (scene_of o) path r s
restored_same c o e path (FaultyLine n) s = refl
restored_same c o e path (Values given cells) s =
    ap (λ y. let x : ObjectOf = object_at s.world y in let t : State = with_store s cells in gives (values.Int (pos 1)) (with_world t (with_object t.world y (with_variables x (with_values x.variables (saved_of s.world y) given))))) e

restore_same : (c : Scene) (o : ObjId) → c.this ≡ o → (p : Option (List ℕ)) (s : State) → restoring c p s ≡ file_deed (deeds.Restore o) p s
restore_same c o e None s = refl
restore_same c o e (Some path) s = by (file_at s.world.files path)
  where
    by : (b : Option (List ℕ)) → restoring_from c path b s ≡ restoring_from (scene_of o) path b s
    by None = refl
    by (Some bytes) =
        ap (λ x. restored c path (restored_text (map (λ y. y.name) (saved_of s.world x)) bytes (cells_of s)) s) e
        ∙ restored_same c o e path (restored_text (map (λ y. y.name) (saved_of s.world o)) bytes (cells_of s)) s

pub save_means : (caller : Caller) (path : List ℕ) (vs : List Value) → ((l : ObjId → Bool) (cells : Store) → path ≡ with_o (text_arg (map (operand l cells) vs) 0)) → IsDeedOf efuns.SaveObject caller (deeds.Save caller.this) path vs
unfolding files
save_means caller path vs f = record {
  of_files = refl;
  means = λ by c s sc.
      ap (λ t. with_leave by c (codes "valid_write") efuns.SaveObject t s (saving c)) (sym (f (living s) (cells_of s)))
      ∙ ap (λ g. with_leave by c (codes "valid_write") efuns.SaveObject path s g) (fun_ext (λ p. fun_ext (λ u. save_same c caller.this sc.this p u)));
}

pub restore_means : (caller : Caller) (path : List ℕ) (vs : List Value) → ((l : ObjId → Bool) (cells : Store) → path ≡ with_o (text_arg (map (operand l cells) vs) 0)) → IsDeedOf efuns.RestoreObject caller (deeds.Restore caller.this) path vs
unfolding files
restore_means caller path vs f = record {
  of_files = refl;
  means = λ by c s sc.
      ap (λ t. with_leave by c (codes "valid_read") efuns.RestoreObject t s (restoring c)) (sym (f (living s) (cells_of s)))
      ∙ ap (λ g. with_leave by c (codes "valid_read") efuns.RestoreObject path s g) (fun_ext (λ p. fun_ext (λ u. restore_same c caller.this sc.this p u)));
}

-- Going on

pub master_loads : (e : Efun) (w : Wish) (below : ℕ) (stack : List Value) (live : Live) (turn : Turn) (budget : ℕ) → below ≤ length stack → IsWish w
    → StageGoes (steps.Asks (questions.Load master_name) 0) e (stages.MasterLoad w) below live turn stack budget live turn stack budget
master_loads e w below stack live turn budget le i low own q k = record {
  own = own;
  arguments = [];
  stack = q ∙ sym (append-nil (low ++ own));
  count = refl;
  height = refl;
  fits = (subst (λ l. below ≤ length l) q le, i);
  is_asking = tt;
  with_these = refl;
  course = λ g by s h. (
    s,
    settled_here g live turn budget s h,
    ap (λ c. and_then c (ended e)) (then_on (load_value by master_name s) (λ v s. asked_in (wish_function w) (wish_arguments e w) by v s) (granted w))
        ∙ then_on (load_value by master_name s) (λ v s. and_then (asked_in (wish_function w) (wish_arguments e w) by v s) (granted w)) (ended e)
        ∙ asked_on e (stages.MasterLoad w) own by (load_value by master_name s) (λ p. refl),
  );
}

pub master_asked : (e : Efun) (m : ObjId) (w : Wish) (a : Applied) (n below : ℕ) (stack0 stack1 : List Value) (live : Live) (turn : Turn) (budget : ℕ) → below ≤ length stack0 → IsWish w → applied_name a ≡ wish_function w
    → n ≡ length (wish_arguments e w) → stack1 ≡ stack0 ++ wish_arguments e w
    → StageGoes (steps.Asks (questions.Apply m a) n) e (stages.Master m w) below live turn stack0 budget live turn stack1 budget
master_asked e m w a n below stack0 stack1 live turn budget le i f c t low own q k = record {
  own = own;
  arguments = wish_arguments e w;
  stack = t ∙ ap (λ s. s ++ wish_arguments e w) q;
  count = sym c;
  height = refl;
  fits = (subst (λ l. below ≤ length l) q le, i);
  is_asking = tt;
  with_these = tt;
  course = λ g by s h. (
    s,
    settled_here g live turn budget s h,
    then_on (ask_value (Apply m (wish_function w)) (wish_arguments e w) by s) (granted w) (ended e)
        ∙ ap (λ x. and_then (ask_value (Apply m x) (wish_arguments e w) by s) (λ v s. stage_rest e (stages.Master m w) own by v s)) (sym f)
        ∙ asked_on e (stages.Master m w) own by (ask_value (Apply m (applied_name a)) (wish_arguments e w) by s) (λ p. refl),
  );
}

-- Answers

pub given_live : (l : ObjId → Bool) (v : Value) (o : ObjId) → Some o ≡ object_of_value v → IsLiveObject l v (where_live l o)
given_live l v o e w i =
    ap (λ (x : Option ObjId). elim x as (λ _. Option ObjId) [ Some o ↦ if is_live w o then Some o else None | None ↦ None ]) (sym e)
    ∙ ap (λ k. where_live k o) i

pub none_live : (l : ObjId → Bool) (v : Value) → None ≡ object_of_value v → IsLiveObject l v None
none_live l v e w i = ap (λ (x : Option ObjId). elim x as (λ _. Option ObjId) [ Some o ↦ if is_live w o then Some o else None | None ↦ None ]) (sym e)

pub file_refused : (l : ObjId → Bool) (d : FileDeed) (path : List ℕ) (o : Option ObjId) → GrantedAs l (wishes.File d path o) zero_value (stages.File d None)
file_refused l d path o e own by s i = refl

pub shadow_refused : (l : ObjId → Bool) (this o : ObjId) → GrantedAs l (wishes.Shadow this o) zero_value stages.Zero
unfolding is_false
shadow_refused l this o e own by s i = refl

pub master_takes : (w : Wish) (v : Value) (m : ObjId) (l : ObjId → Bool) (below : ℕ) (stack : List Value) → IsLiveObject l v (Some m) → StageTakes (stages.MasterLoad w) v l below stack (stages.Master m w) stack
master_takes w v m l below stack f low own q k = record {
  own = own;
  stack = q;
  course = λ e by s i.
      ap (λ x. and_then (and_then (elim x as (λ _. Course Value) [ Some m ↦ ask_value (Apply m (wish_function w)) (wish_arguments e w) by s | None ↦ gives zero_value s ]) (granted w)) (ended e)) (f s.world i);
}

pub no_master_takes : (w : Wish) (v : Value) (l : ObjId → Bool) (below : ℕ) (stack : List Value) (stage : Stage) → IsLiveObject l v None → GrantedAs l w zero_value stage → StageTakes (stages.MasterLoad w) v l below stack stage stack
no_master_takes w v l below stack stage f h low own q k = record {
  own = own;
  stack = q;
  course = λ e by s i.
      ap (λ x. and_then (and_then (elim x as (λ _. Course Value) [ Some m ↦ ask_value (Apply m (wish_function w)) (wish_arguments e w) by s | None ↦ gives zero_value s ]) (granted w)) (ended e)) (f s.world i)
      ∙ h e own by s i;
}

pub path_granted : (l : ObjId → Bool) (d : FileDeed) (path : List ℕ) (o : Option ObjId) (v : Value) (p : Option (String Global)) → ((cells : Store) → option_map string_bytes p ≡ path_answered path (operand l cells v))
    → GrantedAs l (wishes.File d path o) v (stages.File d p)
path_granted l d path o v p f e own by s i = ap (λ x. and_then (file_deed d x s) (ended e)) (ap (λ k. path_answered path (operand k (cells_of s) v)) i ∙ sym (f (cells_of s)))

-- by whether the answer is 0
abbrev shadow_by : ObjId → ObjId → Bool → State → Course Value
shadow_by this o b s = if b || not (may_begin s.world this o) then gives zero_value s else gives one_value (record s { world = with_shadow s.world this o })

pub shadow_granted : (l : ObjId → Bool) (this o : ObjId) (v : Value) → is_zero l v ≡ false → GrantedAs l (wishes.Shadow this o) v (stages.Shadow this o)
unfolding is_false
shadow_granted l this o v z e own by s i = ap (λ b. and_then (shadow_by this o b s) (ended e)) (ap (λ k. is_zero k v) i ∙ z)

pub shadow_denied : (l : ObjId → Bool) (this o : ObjId) (v : Value) → is_zero l v ≡ true → GrantedAs l (wishes.Shadow this o) v stages.Zero
unfolding is_false
shadow_denied l this o v z e own by s i = ap (λ b. and_then (shadow_by this o b s) (ended e)) (ap (λ k. is_zero k v) i ∙ z)

pub leave_takes : (m : ObjId) (w : Wish) (v : Value) (l : ObjId → Bool) (below : ℕ) (stack : List Value) (stage : Stage) → GrantedAs l w v stage → StageTakes (stages.Master m w) v l below stack stage stack
leave_takes m w v l below stack stage h low own q k = record { own = own; stack = q; course = λ e by s i. h e own by s i }

-- whether a text is a path, by the path that it is
pub is_path_by : (t : List ℕ) (o : Option (String Global)) → option_map string_bytes o ≡ path_if t → is_some o ≡ is_path t
is_path_by t o e = by (is_path t) o e
  where
    by : (b : Bool) (o : Option (String Global)) → option_map string_bytes o ≡ (if b then Some t else None) → is_some o ≡ b
    by true None e = absurd cc
    by true (Some p) e = refl
    by false None e = refl
    by false (Some p) e = absurd cc

-- what is laid on top of the stack, one after another
pub laid : (s0 s1 s2 s3 : List Value) (a b c d x : Value) → s1 ≡ s0 ++ a ∷ b ∷ [] → s2 ≡ s1 ++ c ∷ [] → s3 ≡ s2 ++ x ∷ [] → x ≡ d → s3 ≡ s0 ++ a ∷ b ∷ c ∷ d ∷ []
laid s0 s1 s2 s3 a b c d x p q r e =
    r ∙ ap (λ v. s2 ++ v ∷ []) e ∙ ap (λ l. l ++ d ∷ []) q ∙ append_assoc s1 (c ∷ []) (d ∷ []) ∙ ap (λ l. l ++ c ∷ d ∷ []) p ∙ append_assoc s0 (a ∷ b ∷ []) (c ∷ d ∷ [])

-- Efuns that look at objects, places and shadows.
use Rattle.std.proofs.Common.{◌≡◌, ◌∙◌, ℕ, Bool, true, false, List, [], ◌∷◌, Option, Some, None, All, refl, ap, sym, slice_get, unwrap_or, map, find, nat_eq, option_map, if◌then◌else◌, suc, ◌&&◌}
use Rattle.std.proofs.lemmas.List.Elements.{All-cons, All-nil}
use Rattle.lp_values.specs.declared.id.ObjId.{ObjId}
use Rattle.lp_values.specs.declared.value.Value.{Value}
use Rattle.lp_values.specs.declared.value.Value.TheVariants.{Obj}
use Rattle.lp_values.specs.Read.{as_read}
use Rattle.lp_objects.specs.Stands as named
use Rattle.lp_objects.specs.Objects as names
use Rattle.lp_ops.specs.declared.effect.Effect.{Effect}
use Rattle.lp_ops.specs.declared.effect.Effect.TheVariants.{Gives}
use Rattle.lp_ops.specs.Operands.{operand}
use Rattle.lp_cells.specs.Cells.{IsThere, Store}
use Rattle.lp_instr.specs.declared.efun.Efun.{Efun}
use Rattle.lp_places.specs.Places.{is_object}
use Rattle.lp_language.specs.Course.{Scene, State}
use Rattle.lp_language.specs.Operations.{cells_of, living}
use Rattle.lp_instr.specs.EfunList.{is_name}
use Rattle.lp_language.specs.World as world
use Rattle.lp_language.specs.World.{World, is_live, no_object, object_at, object_named, object_value}
use Rattle.lp_meaning.specs.EfunArguments.{bad, object_arg, opened_args}
use Rattle.lp_meaning.specs.WorldEfuns.{Deed, Yields, answers_object, object_or_this, object_values, of_live, of_object, zero}
use Rattle.lp_meaning.specs.WorldSteps.{connection_of}
use Rattle.lp_world.specs.Rows.{live_in, row_at}
use Rattle.lp_world.specs.Stands.{ObjectIs, Stands, named_of}
use Rattle.lp_world.specs.Stands as stands
use Rattle.lp_world.specs.declared.connections.Connection.{Connection}
use Rattle.lp_world.specs.declared.live.Live.{Live}
use Rattle.lp_world.specs.declared.objects.Object.{Object}
use Rattle.lp_world.proofs.Keeping.{live_same}
use Rattle.lp_efuns.specs.declared.caller.Caller.{Caller}
use Rattle.lp_efuns.specs.declared.caller.Turn.{Turn}
use Rattle.lp_efuns.specs.Deeds.{bounded}
use Rattle.lp_efuns.specs.Subjects.{is_living_row, object_read, subject}
use Rattle.lp_efuns.specs.Turns.{At, IsScene, Setting}
use Rattle.lp_efuns.proofs.KnownNames.{name_given, name_known}

-- an object as a value is one in both
read_same : (l : ObjId → Bool) (w : World) (o : Option ObjId) → l ≡ is_live w → object_value w o ≡ object_read l o
read_same l w None e = refl
read_same l w (Some o) e = ap (λ l. as_read l (Obj o)) (sym e)

-- an efun answers an object
pub answered : (g : Setting) (live : Live) (turn : Turn) (b : ℕ) (s : State) (o p : Option ObjId) (e : Effect) → At g live turn b s → o ≡ p → e ≡ Gives (object_read (live_in live.objects) o)
    → answers_object p s ≡ Yields (bounded e) s
answered g live turn b s o p e h q r =
    ap (λ v. Yields (Gives v) s) (ap (object_value s.world) (sym q) ∙ read_same (live_in live.objects) s.world o (live_same g.told g.programs live s.world h.stands)) ∙ ap (λ e. Yields (bounded e) s) (sym r)

-- the object that an efun is about
pub subject_same : (g : Setting) (live : Live) (turn : Turn) (b : ℕ) (s : State) (caller : Caller) (c : Scene) (vs : List Value) (n : ℕ) (r : Option ObjId) → At g live turn b s → IsScene caller c
    → ((cells : Store) → r ≡ subject (live_in live.objects) caller.this (map (operand (live_in live.objects) cells) vs) n) → object_or_this c s (opened_args s vs) n ≡ r
subject_same g live turn b s caller c vs n r h sc f =
    ap (λ o. subject (living s) o (opened_args s vs) n) sc.this
    ∙ sym (f (cells_of s) ∙ ap (λ l. subject l caller.this (map (operand l (cells_of s)) vs) n) (live_same g.told g.programs live s.world h.stands))

-- an object that an argument is
pub object_same : (g : Setting) (live : Live) (turn : Turn) (b : ℕ) (s : State) (vs : List Value) (n : ℕ) (r : Option ObjId) → At g live turn b s
    → ((cells : Store) → r ≡ object_arg (map (operand (live_in live.objects) cells) vs) n) → object_arg (opened_args s vs) n ≡ r
object_same g live turn b s vs n r h f = sym (f (cells_of s) ∙ ap (λ l. object_arg (map (operand l (cells_of s)) vs) n) (live_same g.told g.programs live s.world h.stands))

-- it is there, or the argument is bad
pub about_object : (e : Efun) (n : ℕ) (o : Option ObjId) (s : State) (go : ObjId → Deed) (p : ObjId) (x : Effect) → o ≡ Some p → go p ≡ Yields (bounded x) s → of_object e n o s go ≡ Yields (bounded x) s
about_object e n o s go p x q r = ap (λ o. of_object e n o s go) q ∙ r

pub about_nothing : (e : Efun) (n : ℕ) (o : Option ObjId) (s : State) (go : ObjId → Deed) (x : Effect) → o ≡ None → x ≡ bad e n → of_object e n o s go ≡ Yields (bounded x) s
about_nothing e n o s go x q r = ap (λ o. of_object e n o s go) q ∙ ap (λ e. Yields (bounded e) s) (sym r)

-- the same where a missing object is 0
pub about_live : (o : Option ObjId) (s : State) (go : ObjId → Deed) (p : ObjId) (x : Effect) → o ≡ Some p → go p ≡ Yields (bounded x) s → of_live o s go ≡ Yields (bounded x) s
about_live o s go p x q r = ap (λ o. of_live o s go) q ∙ r

pub about_none : (o : Option ObjId) (s : State) (go : ObjId → Deed) (x : Effect) → o ≡ None → x ≡ zero → of_live o s go ≡ Yields (bounded x) s
about_none o s go x q r = ap (λ o. of_live o s go) q ∙ ap (λ e. Yields (bounded e) s) (sym r)

-- whether an object is living
living_row : (told : _) (part whole : _) (n : ℕ) (row : Option (Option Object)) (x : Option world.Object) → ObjectIs told part whole n row x → (unwrap_or x no_object).is_live ≡ true
    → (unwrap_or x no_object).is_living ≡ is_living_row (unwrap_or row None)
living_row told part whole n None None h l = refl
living_row told part whole n None (Some x) h l = absurd h
living_row told part whole n (Some o) None h l = absurd h
living_row told part whole n (Some None) (Some x) h l = absurd (differ (sym h ∙ l))
  where
    differ : false ≡ true → ⊥
    differ q = cc
living_row told part whole n (Some (Some o)) (Some x) h l = sym h.living

pub living_same : (g : Setting) (live : Live) (turn : Turn) (b : ℕ) (s : State) (o : ObjId) → At g live turn b s → live_in live.objects o ≡ true → (object_at s.world o).is_living ≡ is_living_row (row_at live.objects o.0)
living_same g live turn b s o h l =
    living_row g.told live.cells s.world.cells o.0 (slice_get live.objects o.0) (slice_get s.world.objects o.0) (h.stands.objects o.0) (sym (ap (λ f. f o) (live_same g.told g.programs live s.world h.stands)) ∙ l)

-- the connection of an object
find_map : {A B : Type 0} (f : A → B) (p : B → Bool) (xs : List A) → find p (map f xs) ≡ option_map f (find (λ x. p (f x)) xs)
find_map f p [] = refl
find_map f p (x ∷ xs) = here (p (f x)) (find_map f p xs)
  where
    here : (b : Bool) → find p (map f xs) ≡ option_map f (find (λ x. p (f x)) xs) → (if b then Some (f x) else find p (map f xs)) ≡ option_map f (if b then Some x else find (λ x. p (f x)) xs)
    here true i = refl
    here false i = i

number_same : (o : Option Connection) → option_map (λ c. c.number) (option_map stands.connection_of o) ≡ option_map (λ c. c.number) o
number_same None = refl
number_same (Some c) = refl

pub connection_same : (g : Setting) (live : Live) (turn : Turn) (b : ℕ) (s : State) (o : ObjId) → At g live turn b s
    → connection_of s.world o ≡ option_map (λ c. c.number) (find (λ c. nat_eq c.object.0 o.0) live.connections.opened)
connection_same g live turn b s o h =
    ap (λ cs. option_map (λ c. c.number) (find (λ c. is_object c.object o) cs)) (sym h.stands.rest.connections)
    ∙ ap (option_map (λ c. c.number)) (find_map stands.connection_of (λ c. is_object c.object o) live.connections.opened)
    ∙ number_same (find (λ c. is_object c.object o) live.connections.opened)

-- the name of a live object
pub name_same : (g : Setting) (live : Live) (turn : Turn) (b : ℕ) (s : State) (o : ObjId) (r : Option (List ℕ)) → At g live turn b s → live_in live.objects o ≡ true
    → ((objects : List names.Named) → named.Stands live.names objects → r ≡ option_map (λ x. x.name) (named.known_at live.names objects o.0)) → (object_at s.world o).name ≡ unwrap_or r []
name_same g live turn b s o r h l f =
    ap (λ n. unwrap_or n []) (name_known g.told g.programs live s.world h.stands o l ∙ sym (name_given live.names (record { objects = map named_of s.world.objects; stands = h.stands.names }) o r f))

-- objects name no cells
pub objects_there : (cells : Store) (os : List ObjId) → All (IsThere cells) (object_values os)
objects_there cells [] = All-nil (IsThere cells)
objects_there cells (o ∷ os) = All-cons (IsThere cells) (Obj o) (object_values os) tt (objects_there cells os)

-- the live object with a name
found_named : (name : List ℕ) (n : ℕ) (xs : List world.Object) → names.named_from name n (map named_of xs) ≡ world.named_from name n xs
found_named name n [] = refl
found_named name n (x ∷ xs) = ap (λ o. if x.is_live && is_name x.name name then Some (record { 0 = n }) else o) (found_named name (suc n) xs)

pub found_same : (g : Setting) (live : Live) (turn : Turn) (b : ℕ) (s : State) (name given : List ℕ) (r : Option ObjId) → At g live turn b s
    → ((objects : List names.Named) → named.Stands live.names objects → r ≡ names.object_named objects given) → given ≡ name → r ≡ object_named s.world name
found_same g live turn b s name given r h f e =
    f (map named_of s.world.objects) h.stands.names ∙ found_named given 0 s.world.objects ∙ ap (object_named s.world) e

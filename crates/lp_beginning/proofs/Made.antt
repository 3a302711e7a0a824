-- A new object in the world.
use Rattle.std.proofs.Common.{◌≡◌, ◌∙◌, ℕ, suc, arith, refl, sym, ap, subst, Bool, true, false, List, [], ◌∷◌, ◌++◌, map, length, Option, Some, None, IsSome, slice_get, unwrap_or}
use Rattle.std.specs.Prelude.{◌+◌, codes, filter, nat_lt, if◌then◌else◌}
use Rattle.std.proofs.lemmas.List.Elements.{All-weaker}
use Rattle.lp_values.specs.declared.id.ObjId.{ObjId}
use Rattle.lp_values.specs.declared.id.ProgId.{ProgId}
use Rattle.lp_values.specs.declared.value.Value.{Value}
use Rattle.lp_values.specs.declared.value.Value.TheVariants.{Obj}
use Rattle.lp_values.specs.declared.error.ErrorKind.TheVariants.{TooMany}
use Rattle.lp_values.specs.Errors.{plain}
use Rattle.lp_code.specs.declared.program.RawProgram.{RawProgram}
use Rattle.lp_swapfile.specs.Device.{Bytes}
use Rattle.lp_objects.specs.Objects as named
use Rattle.lp_objects.specs.declared.fault.ObjectFault.{ObjectFault}
use Rattle.lp_objects.specs.declared.fault.ObjectFault.TheVariants as objects
use Rattle.lp_places.specs.Places.{Shadowing}
use Rattle.lp_step.specs.Steps.{KeepsVariables}
use Rattle.lp_language.specs.World as world
use Rattle.lp_language.specs.World.{World, is_live, no_object, object_at}
use Rattle.lp_language.specs.Course.{Apply, Course, Failed, Over, Plain, Reply, State, and_then, gives, in_any_case, stops}
use Rattle.lp_language.specs.Resolve.{heritage, heritage_of}
use Rattle.lp_meaning.specs.Limits.{max_live}
use Rattle.lp_meaning.specs.WorldSteps as steps
use Rattle.lp_meaning.specs.WorldSteps.{has_room, next_object}
use Rattle.lp_meaning.specs.Askers.{Asker, ask_value}
use Rattle.lp_meaning.specs.FileLoads.{begun_end, beginning, initialised_parts, initialising, making}
use Rattle.lp_world.specs.Additions.{new_object}
use Rattle.lp_world.specs.declared.live.Live.{Live}
use Rattle.lp_world.specs.declared.objects.Object.{Object}
use Rattle.lp_world.specs.Rows.{variables_at, variables_in}
use Rattle.lp_world.specs.Stands.{ObjectIs, Stands, named_of}
use Rattle.lp_world.proofs.BareWorlds.{heritage_same}
use Rattle.lp_part_laws.specs.Versions.{AreCompiled, heritage_in}
use Rattle.lp_part_laws.proofs.Lists.{past, within}
use Rattle.lp_making.specs.Objects.{StandsWithObject, with_object}
use Rattle.lp_making.specs.Objects as making_of
use Rattle.lp_making.specs.Trees.{HasTables}
use Rattle.lp_efuns.specs.declared.caller.Turn.{Turn}
use Rattle.lp_efuns.specs.Turns.{Setting}
use Rattle.lp_beginning.specs.declared.job.LoadKind.{LoadKind}
use Rattle.lp_beginning.specs.declared.job.Making.{Making}
use Rattle.lp_beginning.specs.Beginning.{Fits, HasItsParts, IsRefusedFor, refusal_of}
use Rattle.lp_beginning.specs.Jobs.{kind_of, made_from}

-- Serials

same_length : {A B : Type 0} (P : ℕ → Option A → Option B → Type 0) → ((n : ℕ) (y : B) → P n None (Some y) → ⊥) → ((n : ℕ) (x : A) → P n (Some x) None → ⊥) → (xs : List A) (ys : List B) → ((n : ℕ) → P n (slice_get xs n) (slice_get ys n)) → length xs ≡ length ys
same_length P f g [] [] a = refl
same_length P f g [] (v ∷ ys) a = absurd (f 0 v (a 0))
same_length P f g (u ∷ xs) [] a = absurd (g 0 u (a 0))
same_length P f g (u ∷ xs) (v ∷ ys) a = ap suc (same_length (λ m. P (suc m)) (λ m. f (suc m)) (λ m. g (suc m)) xs ys (λ m. a (suc m)))

same_serials : (told : Option Bytes) (programs : List RawProgram) (live : Live) (w : World) → Stands told programs live w → length live.objects ≡ length w.objects
same_serials told programs live w s = same_length (λ n o x. ObjectIs told live.cells w.cells n o x) (λ n y a. a) (λ n x a. a) live.objects w.objects s.objects

last_there : {A : Type 0} (xs : List A) (x : A) (k : ℕ) → k ≡ length xs → slice_get (xs ++ x ∷ []) k ≡ Some x
last_there xs x k e = ap (slice_get (xs ++ x ∷ [])) (let z : k ≡ length xs + 0 = omega (arith, e) in z) ∙ past xs (x ∷ []) 0

-- The world

-- what was live is live
live_before : (xs : List world.Object) (x : world.Object) (k : ℕ) (o : Option world.Object) → slice_get xs k ≡ o → (unwrap_or o no_object).is_live ≡ true → (unwrap_or (slice_get (xs ++ x ∷ []) k) no_object).is_live ≡ true
live_before xs x k None e l = cc
live_before xs x k (Some y) e l = ap (λ (o : Option world.Object). (unwrap_or o no_object).is_live) (within xs (x ∷ []) k y e) ∙ l

still_live : (w : World) (name : List ℕ) (v : ProgId) (o : ObjId) → is_live w o ≡ true → is_live (steps.with_new_object w name v) o ≡ true
still_live w name v o l = live_before w.objects _ o.0 (slice_get w.objects o.0) refl l

-- the tree of the new object is that of its version
new_tree : (w : World) (name : List ℕ) (v : ProgId) → heritage_of (steps.with_new_object w name v) (next_object w) ≡ heritage_in w.versions v
new_tree w name v =
    let u = steps.with_new_object w name v in
    let is : (object_at u (next_object w)).version ≡ v = ap (λ (o : Option world.Object). (unwrap_or o no_object).version) (last_there w.objects _ (length w.objects) refl) in
    ap (heritage u) is ∙ heritage_same u v

-- where programs fit, each has the tables of its version
tabled : (programs : List RawProgram) (w : World) (v : ProgId) → AreCompiled programs w.versions → (raw : RawProgram) → slice_get programs v.0 ≡ Some raw → HasTables (heritage_in w.versions v) raw
tabled programs w v c raw e = let f = c.fit v.0 raw e in record { tables = sym f.own.own; numbered = f.own.numbered }

-- The live state with the object stands for the state with it.
pub fits_with : (g : Setting) (old new : Live) (turn : Turn) (budget : ℕ) (s : State) (name : List ℕ) (v : ProgId) (vs : List Value)
    → new ≡ with_object old v vs new.names new.timers → StandsWithObject old new name v → Fits g old turn budget s
    → Fits g new turn budget (record s { world = steps.with_new_object s.world name v }) × (has_room s.world ≡ true)
fits_with g old new turn budget s name v vs after stands f =
    let w = s.world in
    let x = stands g.told g.programs w f.world.stands (tabled g.programs w v f.world.compiled) in (
      record {
        at = record { stands = x.0; left = f.at.left; outputs = ap (λ (l : Live). l.outputs) after ∙ f.at.outputs; player = f.at.player; commands = f.at.commands };
        world = record {
          stands = x.0;
          compiled = f.world.compiled;
          shadows = All-weaker (λ (q : Shadowing). is_live w q.shadow ≡ true) (λ (q : Shadowing). is_live (steps.with_new_object w name v) q.shadow ≡ true) (λ q l. still_live w name v q.shadow l) w.shadows f.world.shadows;
        };
      },
      x.1,
    )

-- The course

-- the serial of the new object
next_is : (told : Option Bytes) (programs : List RawProgram) (old : Live) (o : ObjId) (w : World) → Stands told programs old w → o.0 ≡ length old.objects → next_object w ≡ o
next_is told programs old o w h serial = ap (λ (n : ℕ). record { 0 = n }) (sym (same_serials told programs old w h) ∙ sym serial)

-- its parts with initialisers, in the world with it
pub parts_made : (told : Option Bytes) (programs : List RawProgram) (old : Live) (w : World) (name : List ℕ) (v : ProgId) (job : Making)
    → Stands told programs old w → job.object.0 ≡ length old.objects → job.parts.items ≡ initialised_parts (heritage_in w.versions v) → job.done ≡ 0 → HasItsParts (steps.with_new_object w name v) job
parts_made told programs old w name v job h serial e done = record {
  parts = e ∙ ap initialised_parts (sym (new_tree w name v)) ∙ ap (λ o. initialised_parts (heritage_of (steps.with_new_object w name v) o)) (next_is told programs old job.object w h serial);
  done = done;
}

-- the course of the new object, whose parts with initialisers are known
pub made_course : (told : Option Bytes) (programs : List RawProgram) (old : Live) (kind : LoadKind) (o : ObjId) (found : List ℕ) (by : Asker) (s : State) (name : List ℕ) (v : ProgId)
    → Stands told programs old s.world → o.0 ≡ length old.objects → found ≡ initialised_parts (heritage_in s.world.versions v) → has_room s.world ≡ true
    → making (kind_of kind) by name v s ≡ made_from kind o found by (record s { world = steps.with_new_object s.world name v })
made_course told programs old kind o found by s name v h serial e room =
    let w = s.world in
    let t : State = record s { world = steps.with_new_object w name v } in
    let same : next_object w ≡ o = next_is told programs old o w h serial in
    let parts : initialised_parts (heritage_of t.world (next_object w)) ≡ found = ap initialised_parts (new_tree w name v) ∙ sym e in
    ap (λ (b : Bool). if b then in_any_case (beginning by (next_object w) t) (λ e. Over (begun_end (kind_of kind) by (next_object w) e)) else making_stop s) room
    ∙ ap (λ ns. in_any_case (from by (next_object w) ns t) (λ e. Over (begun_end (kind_of kind) by (next_object w) e))) parts
    ∙ ap (λ x. made_from kind x found by t) same
  where
    from : Asker → ObjId → List ℕ → State → Course Reply
    from by o ns s = and_then (initialising by o ns s) (λ v s. and_then (ask_value (Apply o (codes "create")) [] by s) (λ v s. gives (Plain (Obj o)) s))

    making_stop : State → Course Reply
    making_stop s = stops (Failed (plain TooMany)) s

-- Room

counted : (xs : List world.Object) → named.live_count (map named_of xs) ≡ length (filter (λ (x : world.Object). x.is_live) xs)
counted [] = refl
counted (x ∷ xs) = by x.is_live (counted xs)
  where
    by : (b : Bool) → named.live_count (map named_of xs) ≡ length (filter (λ (y : world.Object). y.is_live) xs)
        → (if b then 1 else 0) + named.live_count (map named_of xs) ≡ length (if b then x ∷ filter (λ (y : world.Object). y.is_live) xs else filter (λ (y : world.Object). y.is_live) xs)
    by true e = omega (arith, e)
    by false e = omega (arith, e)

-- the table of names tells whether there is room in the world
pub room_told : (told : Option Bytes) (programs : List RawProgram) (live : Live) (w : World) (b : Bool) → Stands told programs live w → b ≡ nat_lt (named.live_count (map named_of w.objects)) named.max_live → b ≡ has_room w
room_told told programs live w b s e = e ∙ ap (λ n. nat_lt n max_live) (counted w.objects)

-- Memory

-- the new object is in memory
pub new_home : (old : Live) (rows : List (Option Object)) (o : ObjId) (v : ProgId) (vs : List Value) → rows ≡ old.objects ++ Some (new_object v old.clock vs) ∷ [] → o.0 ≡ length old.objects → IsSome (variables_at rows o)
new_home old rows o v vs e serial =
    subst (λ (r : List (Option Object)). IsSome (variables_at r o)) (sym e)
    (subst (λ (q : Option (Option Object)). IsSome (variables_in (unwrap_or q None))) (sym (last_there old.objects (Some (new_object v old.clock vs)) o.0 serial)) refl)

row_before : (xs : List (Option Object)) (x : Option Object) (k : ℕ) (q : Option (Option Object)) (vs : List Value) → slice_get xs k ≡ q → variables_in (unwrap_or q None) ≡ Some vs → variables_in (unwrap_or (slice_get (xs ++ x ∷ []) k) None) ≡ Some vs
row_before xs x k None vs e l = cc
row_before xs x k (Some y) vs e l = ap (λ (o : Option (Option Object)). variables_in (unwrap_or o None)) (within xs (x ∷ []) k y e) ∙ l

-- and each other one has its variables still
pub others_home : (old rows : List (Option Object)) (x : Option Object) → rows ≡ old ++ x ∷ [] → KeepsVariables old rows
others_home old rows x e o vs l =
    (vs, ap (λ (r : List (Option Object)). variables_at r o) e ∙ row_before old x o.0 (slice_get old o.0) vs refl l, refl)

pub same_home : (old rows : List (Option Object)) → rows ≡ old → KeepsVariables old rows
same_home old rows e o vs l = (vs, ap (λ (r : List (Option Object)). variables_at r o) e ∙ l, refl)

-- Refusals

pub refused_so : (told : Option Bytes) (old new : Live) (name : List ℕ) (e : ObjectFault) → making_of.StandsStill old new name e → IsRefusedFor told old name (refusal_of e)
refused_so told old new name objects.NameTaken s = λ programs w h. (s told programs w h).1
refused_so told old new name objects.TooMany s = tt
refused_so told old new name objects.NoMemory s = tt

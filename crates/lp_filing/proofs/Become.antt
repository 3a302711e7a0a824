-- The variables of an object in memory become others.
use Rattle.std.proofs.Common.{◌≡◌, ◌++◌, ℕ, suc, zero, List, [], ◌∷◌, Option, Some, None, refl, ap, ◌∙◌, sym, subst, inl, inr, slice_get, unwrap_or, length, IsSome, All, map, option_map, option_to_list, true}
use Rattle.std.specs.Prelude.{slice_set, IfSome}
use Rattle.std.specs.List.{flat_map}
use Rattle.std.proofs.lemmas.List.Elements.{All-head, All-nil, All-set, All-tail}
use Rattle.std.proofs.Math.ListN.{length-set}
use Rattle.lp_values.specs.declared.id.ObjId.{ObjId}
use Rattle.lp_values.specs.declared.id.ProgId.{ProgId}
use Rattle.lp_values.specs.declared.value.Value.{Value}
use Rattle.lp_cells.specs.Cells.{IsThere, Store, content_at}
use Rattle.lp_code.specs.declared.program.RawProgram.{RawProgram}
use Rattle.lp_swapfile.specs.Device.{Bytes}
use Rattle.lp_swapfile.specs.Room.{AreTaken}
use Rattle.lp_swapper.specs.Swap.{extent_of}
use Rattle.lp_language.specs.World as world
use Rattle.lp_language.specs.World.{World, new_world, no_object, object_at, with_object}
use Rattle.lp_meaning.specs.FileEfuns.{Saved, with_values, with_variables}
use Rattle.lp_meaning.specs.IdleAndKept.{IsKept, by_object, by_child}
use Rattle.lp_world.specs.Closed.{IsClosed, IsObjectClosed, object_extents, version_extents}
use Rattle.lp_world.specs.Rows.{object_ticket, own_in, own_of, row_at, shared_of, variables_at, variables_in, variables_of}
use Rattle.lp_world.specs.Stands.{IsObject, ObjectIs, Stands, named_of}
use Rattle.lp_world.specs.declared.live.Live.{Live}
use Rattle.lp_world.specs.declared.objects.Object.{Object}
use Rattle.lp_world.specs.declared.objects.ObjectState.TheVariants as objects_of
use Rattle.lp_world.proofs.Keeping.{get_set, get_set_here, object_behind, resident_same, same_or_not}
use Rattle.lp_filing.specs.Rows.{KeepsVariables, with_given, with_places}

-- Worlds

kept_by : (versions : List world.Version) (old new : List world.Object)
    → ((n : ℕ) (x : world.Object) → slice_get new n ≡ Some x → x.is_live ≡ true → (y : world.Object) × (slice_get old n ≡ Some y) × (y.is_live ≡ true) × (y.version ≡ x.version))
    → (v : ProgId) → IsKept (record (new_world [] 0 0) { objects = new; versions = versions }) v → IsKept (record (new_world [] 0 0) { objects = old; versions = versions }) v
kept_by versions old new f _ (by_object n x e l) =
    let t = f n x e l in subst (λ p. IsKept (record (new_world [] 0 0) { objects = old; versions = versions }) p) t.3 (by_object n t.0 t.1 t.2)
kept_by versions old new f _ (by_child v p k c) = by_child v p (kept_by versions old new f v k) c

named_set : (xs : List world.Object) (n : ℕ) (x y : world.Object) → slice_get xs n ≡ Some x → named_of y ≡ named_of x → map named_of (slice_set xs n y) ≡ map named_of xs
named_set [] n x y e q = refl
named_set (z ∷ xs) zero x y e q =
    let s : x ≡ z = ap (λ o. unwrap_or o x) (sym e) in
    ap (λ k. k ∷ map named_of xs) (q ∙ ap named_of s)
named_set (z ∷ xs) (suc n) x y e q = ap (λ l. named_of z ∷ l) (named_set xs n x y e q)

-- an object in memory with these variables
abbrev pub with_these : Object → List Value → Object
with_these x us = record x { state = objects_of.Resident us }

module _ (live : Live) (o : ObjId) (row : Object) (vs us : List Value) (e : slice_get live.objects o.0 ≡ Some (Some row)) (r : row.state ≡ objects_of.Resident vs) where
  -- the variables of an object are those that it has in the world, ..
  pub world_has : (told : Option Bytes) (programs : List RawProgram) (w : World) → Stands told programs live w → (object_at w o).variables ≡ vs
  world_has told programs w h =
      let b = object_behind told live.cells w.cells o.0 row (slice_get w.objects o.0) (subst (λ q. ObjectIs told live.cells w.cells o.0 q (slice_get w.objects o.0)) e (h.objects o.0)) in
      ap (λ (q : Option world.Object). (unwrap_or q no_object).variables) b.1 ∙ sym (resident_same told live.cells w.cells (record { 0 = o.0 }) vs b.0.variables row.state r b.2.variables)

  -- .. and so they are where both become others
  pub stands_become : (told : Option Bytes) (programs : List RawProgram) (w : World) → Stands told programs live w
      → Stands told programs (record live { objects = slice_set live.objects o.0 (Some (with_these row us)) }) (with_object w o (with_variables (object_at w o) us))
  stands_become told programs w h =
      let b = object_behind told live.cells w.cells o.0 row (slice_get w.objects o.0) (subst (λ q. ObjectIs told live.cells w.cells o.0 q (slice_get w.objects o.0)) e (h.objects o.0)) in
      let at : object_at w o ≡ b.0 = ap (λ q. unwrap_or q no_object) b.1 in
      let new : world.Object = with_variables (object_at w o) us in
      let is : IsObject told live.cells w.cells o.0 (with_these row us) new = subst (λ x. IsObject told live.cells w.cells o.0 (with_these row us) (with_variables x us)) (sym at) (record {
        version = b.2.version;
        live = b.2.live;
        living = b.2.living;
        latest = b.2.latest;
        variables = refl;
      }) in
      record {
        cells = h.cells;
        objects = λ n. elim (same_or_not o.0 n) [
          | inl q ↦ subst (λ n. ObjectIs told live.cells w.cells n (slice_get (slice_set live.objects o.0 (Some (with_these row us))) n) (slice_get (slice_set w.objects o.0 new) n)) q
              (rw (get_set_here live.objects o.0 (Some (with_these row us)) (Some row) e, get_set_here w.objects o.0 new b.0 b.1) is)
          | inr d ↦ rw (get_set live.objects o.0 n (Some (with_these row us)) d, get_set w.objects o.0 n new d) (h.objects n)
        ];
        names = rw (named_set w.objects o.0 b.0 new b.1 (ap (λ x. named_of (with_variables x us)) at)) h.names;
        versions = h.versions;
        kept = λ p g. h.kept p (kept_by w.versions w.objects (slice_set w.objects o.0 new)
            (λ n x g l. elim (same_or_not o.0 n) [
              | inl q ↦
                  let x_new : new ≡ x = ap (λ o. unwrap_or o new) (sym (get_set_here w.objects o.0 new b.0 b.1) ∙ ap (λ n. slice_get (slice_set w.objects o.0 new) n) q ∙ g) in
                  let x_old : with_variables b.0 us ≡ x = ap (λ y. with_variables y us) (sym at) ∙ x_new in
                  (b.0, ap (λ n. slice_get w.objects n) (sym q) ∙ b.1, ap (λ y. y.is_live) x_old ∙ l, ap (λ y. y.version) x_old)
              | inr d ↦ (x, sym (get_set w.objects o.0 n new d) ∙ g, l, refl)
            ]) p g);
        rest = h.rest;
      }

-- Closed states

extents_set : (xs : List (Option Object)) (n : ℕ) (x y : Option Object) → slice_get xs n ≡ Some x → object_extents y ≡ object_extents x → flat_map object_extents (slice_set xs n y) ≡ flat_map object_extents xs
extents_set [] n x y e q = refl
extents_set (z ∷ xs) zero x y e q =
    let s : x ≡ z = ap (λ o. unwrap_or o x) (sym e) in
    ap (λ l. l ++ flat_map object_extents xs) (q ∙ ap object_extents s)
extents_set (z ∷ xs) (suc n) x y e q = ap (λ l. object_extents z ++ l) (extents_set xs n x y e q)

module _ (live : Live) (o : ObjId) (row : Object) (vs us : List Value) (h : IsClosed live) (e : slice_get live.objects o.0 ≡ Some (Some row)) (r : row.state ≡ objects_of.Resident vs) (many : length us ≡ length vs) (there : All (IsThere live.cells) us) where
  pub closed_become : IsClosed (record live { objects = slice_set live.objects o.0 (Some (with_these row us)) })
  closed_become = record {
    clock = h.clock;
    cells = h.cells;
    objects = λ n x g. elim (same_or_not o.0 n) [
      | inl q ↦
          let s : Some (Some new) ≡ Some (Some x) = sym (get_set_here live.objects o.0 (Some new) (Some row) e) ∙ ap (λ n. slice_get (slice_set live.objects o.0 (Some new)) n) q ∙ g in
          let is : new ≡ x = ap (λ o. unwrap_or (unwrap_or o None) new) s in
          subst (IsObjectClosed live.cells live.versions) is new_closed
      | inr d ↦ h.objects n x (sym (get_set live.objects o.0 n (Some new) d) ∙ g)
    ];
    apart = λ n m j i c a b. h.apart n m j i c (ap (λ l. slice_get l j) (sym (own_same n)) ∙ a) (ap (λ l. slice_get l i) (sym (own_same m)) ∙ b);
    versions = h.versions;
    call_outs = h.call_outs;
    waiting = h.waiting;
    placed = h.placed;
    numbered = h.numbered;
    room = subst (λ l. AreTaken (l ++ flat_map version_extents live.versions) live.swapper)
        (sym (extents_set live.objects o.0 (Some row) (Some new) e (sym (ap (λ s. option_to_list (option_map extent_of (object_ticket s))) r)))) h.room;
  }
    where
      new : Object
      new = with_these row us

      was : IsObjectClosed live.cells live.versions row
      was = h.objects o.0 row e

      values : (ws : List Value) → variables_of (objects_of.Resident us) ≡ Some ws → ws ≡ us
      values ws q = ap (λ o. unwrap_or o ws) (sym q)

      new_closed : IsObjectClosed live.cells live.versions new
      new_closed =
          let i = was.variables vs (ap variables_of r) in
          record {
            version = was.version;
            there = was.there;
            variables = λ ws q. let u = sym (values ws q) in subst (λ l. (length l ≡ was.version.outline.variables) × All (IsThere live.cells) l) u (many ∙ i.0, there);
            shared = All-nil (λ c. IsSome (content_at live.cells c));
            own = refl;
          }

      own_same : (n : ℕ) → own_in (row_at (slice_set live.objects o.0 (Some new)) n) ≡ own_in (row_at live.objects n)
      own_same n = elim (same_or_not o.0 n) [
        | inl q ↦
            ap (λ n. own_in (row_at (slice_set live.objects o.0 (Some new)) n)) (sym q)
            ∙ ap (λ o. own_in (unwrap_or o None)) (get_set_here live.objects o.0 (Some new) (Some row) e)
            ∙ sym (ap own_of r) ∙ ap (λ o. own_in (unwrap_or o None)) (sym e) ∙ ap (λ n. own_in (row_at live.objects n)) q
        | inr d ↦ ap (λ o. own_in (unwrap_or o None)) (get_set live.objects o.0 n (Some new) d)
      ]

-- each object in memory stays there, with as many variables
pub keeps_become : (rows : List (Option Object)) (o : ObjId) (row : Object) (vs us : List Value) → slice_get rows o.0 ≡ Some (Some row) → row.state ≡ objects_of.Resident vs → length us ≡ length vs
    → KeepsVariables rows (slice_set rows o.0 (Some (with_these row us)))
keeps_become rows o row vs us e r many p ws g = elim (same_or_not o.0 p.0) [
  | inl q ↦
      let same : Some vs ≡ Some ws = ap variables_of (sym r) ∙ ap (λ x. variables_in (unwrap_or x None)) (sym e) ∙ ap (λ n. variables_in (row_at rows n)) q ∙ g in
      let is : vs ≡ ws = ap (λ x. unwrap_or x vs) same in
      (us, ap (λ n. variables_in (row_at (slice_set rows o.0 (Some (with_these row us))) n)) (sym q) ∙ ap (λ x. variables_in (unwrap_or x None)) (get_set_here rows o.0 (Some (with_these row us)) (Some row) e), many ∙ ap length is)
  | inr d ↦ (ws, ap (λ x. variables_in (unwrap_or x None)) (get_set rows o.0 p.0 (Some (with_these row us)) d) ∙ g, refl)
]

-- Values at places

given_many : (vs : List Value) (p : ℕ) (x : Option Value) → length (with_given vs p x) ≡ length vs
given_many vs p None = refl
given_many vs p (Some v) = length-set vs p v

pub places_many : (vs : List Value) (ps : List ℕ) (given : List (Option Value)) → length (with_places vs ps given) ≡ length vs
places_many vs [] given = refl
places_many vs (p ∷ ps) [] = refl
places_many vs (p ∷ ps) (x ∷ given) = places_many (with_given vs p x) ps given ∙ given_many vs p x

given_there : (cells : Store) (vs : List Value) (p : ℕ) (x : Option Value) → All (IsThere cells) vs → IfSome x (IsThere cells) → All (IsThere cells) (with_given vs p x)
given_there cells vs p None h t = h
given_there cells vs p (Some v) h t = All-set (IsThere cells) vs p v t h

pub places_there : (cells : Store) (vs : List Value) (ps : List ℕ) (given : List (Option Value)) → All (IsThere cells) vs → All (λ x. IfSome x (IsThere cells)) given → All (IsThere cells) (with_places vs ps given)
places_there cells vs [] given h t = h
places_there cells vs (p ∷ ps) [] h t = h
places_there cells vs (p ∷ ps) (x ∷ given) h t =
    places_there cells (with_given vs p x) ps given (given_there cells vs p x h (All-head (λ x. IfSome x (IsThere cells)) x given t)) (All-tail (λ x. IfSome x (IsThere cells)) x given t)

-- the variables with what was read are those at the places of the saved ones
pub places_are : (vs : List Value) (xs : List Saved) (given : List (Option Value)) → with_places vs (map (λ x. x.place) xs) given ≡ with_values vs xs given
places_are vs [] given = refl
places_are vs (x ∷ xs) [] = refl
places_are vs (x ∷ xs) (None ∷ given) = places_are vs xs given
places_are vs (x ∷ xs) (Some v ∷ given) = places_are (slice_set vs x.place v) xs given

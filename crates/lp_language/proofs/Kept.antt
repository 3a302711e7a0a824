-- What stays in a world: versions, objects, and cells of their kinds.
use Rattle.std.proofs.Common.{◌≡◌, ◌⊎◌, ◌++◌, ℕ, suc, zero, ◌≤◌, List, [], ◌∷◌, Option, Some, None, refl, ap, ◌∙◌, sym, subst, inl, inr, unwrap_or, IsSome, arith, length, length-append}
use Rattle.std.specs.Prelude.{slice_get, slice_set}
use Rattle.std.proofs.lemmas.List.{length-set}
use Rattle.lp_values.specs.declared.id.CellId.{CellId}
use Rattle.lp_values.specs.declared.id.ObjId.{ObjId}
use Rattle.lp_values.specs.declared.value.Value.{Value}
use Rattle.lp_values.specs.declared.value.Value.TheVariants.{Int, Str, Arr, Map, Obj}
use Rattle.lp_cells.specs.declared.content.Content.{Content}
use Rattle.lp_cells.specs.declared.content.Content.TheVariants.{Array, Mapping}
use Rattle.lp_cells.specs.declared.content.Kind.TheVariants as kind
use Rattle.lp_cells.specs.Cells.{KeepsThere, Store, as_items, as_pairs, content_at, content_set, item_set, items_at, items_of, kind_of, pairs_at, with_cell}
use Rattle.lp_language.specs.World.{World, Version, Object, IsSameVersion, IsSameObject, Keeps, object_at, with_object, with_cells, no_object}
use Rattle.lp_language.specs.Course.{Typed, AreSameCommands}
use Rattle.lp_language.specs.Operations.{with_variable}

pub same_version : (v : Version) → IsSameVersion v v
same_version v = record { path = refl; items = refl; parents = refl; pragmas = refl; simuls = refl }

version_trans : (u v w : Version) → IsSameVersion u v → IsSameVersion v w → IsSameVersion u w
version_trans u v w a b = record { path = b.path ∙ a.path; items = b.items ∙ a.items; parents = b.parents ∙ a.parents; pragmas = b.pragmas ∙ a.pragmas; simuls = b.simuls ∙ a.simuls }

pub same_object : (x : Object) → IsSameObject x x
same_object x = record { name = refl; version = refl }

object_trans : (x y z : Object) → IsSameObject x y → IsSameObject y z → IsSameObject x z
object_trans x y z a b = record { name = b.name ∙ a.name; version = b.version ∙ a.version }

pub keeps_same : (w : World) → Keeps w w
keeps_same w = record {
  versions = λ n v e. (v, e, same_version v);
  objects = λ n x e. (x, e, same_object x);
  cells = λ v h. h;
  no_fewer = omega arith;
}

pub keeps_trans : (u v w : World) → Keeps u v → Keeps v w → Keeps u w
keeps_trans u v w a b = record {
  versions = λ n x e. let i = a.versions n x e in let j = b.versions n i.0 i.1 in (j.0, j.1, version_trans x i.0 j.0 i.2 j.2);
  objects = λ n x e. let i = a.objects n x e in let j = b.objects n i.0 i.1 in (j.0, j.1, object_trans x i.0 j.0 i.2 j.2);
  cells = λ x h. b.cells x (a.cells x h);
  no_fewer = (let i = a.no_fewer in let j = b.no_fewer in omega arith);
}

pub commands_same : (cs : List Typed) → AreSameCommands cs cs
commands_same [] = tt
commands_same (c ∷ cs) = (refl, refl)

pub commands_trans : (xs bs cs : List Typed) → AreSameCommands xs bs → AreSameCommands bs cs → AreSameCommands xs cs
commands_trans [] [] [] h g = tt
commands_trans [] [] (c ∷ cs) h g = g
commands_trans [] (b ∷ bs) cs h g = absurd h
commands_trans (a ∷ xs) [] cs h g = absurd h
commands_trans (a ∷ xs) (b ∷ bs) [] h g = g
commands_trans (a ∷ xs) (b ∷ bs) (c ∷ cs) h g = (h.0 ∙ g.0, h.1 ∙ g.1)

-- cells
abbrev pub SameKinds : Store → Store → Type 0
SameKinds old new = (c : CellId) (y : Content) → content_at old c ≡ Some y → kind_of (content_at new c) ≡ kind_of (Some y)

array_kind : (o : Option Content) → kind_of o ≡ kind.Array → IsSome (as_items o)
array_kind (Some (Array vs)) h = refl
array_kind (Some (Mapping ps)) h = cc
array_kind None h = cc

mapping_kind : (o : Option Content) → kind_of o ≡ kind.Mapping → IsSome (as_pairs o)
mapping_kind (Some (Array vs)) h = cc
mapping_kind (Some (Mapping ps)) h = refl
mapping_kind None h = cc

array_there : (old new : Store) (c : CellId) → SameKinds old new → (o : Option Content) → content_at old c ≡ o → IsSome (as_items o) → IsSome (as_items (content_at new c))
array_there old new c k (Some (Array vs)) e h = array_kind (content_at new c) (k c (Array vs) e)
array_there old new c k (Some (Mapping ps)) e h = cc
array_there old new c k None e h = cc

mapping_there : (old new : Store) (c : CellId) → SameKinds old new → (o : Option Content) → content_at old c ≡ o → IsSome (as_pairs o) → IsSome (as_pairs (content_at new c))
mapping_there old new c k (Some (Array vs)) e h = cc
mapping_there old new c k (Some (Mapping ps)) e h = mapping_kind (content_at new c) (k c (Mapping ps) e)
mapping_there old new c k None e h = cc

pub there_by_kinds : (old new : Store) → SameKinds old new → KeepsThere old new
there_by_kinds old new k (Int n) h = tt
there_by_kinds old new k (Str s) h = tt
there_by_kinds old new k (Arr c) h = array_there old new c k (content_at old c) refl h
there_by_kinds old new k (Map c) h = mapping_there old new c k (content_at old c) refl h
there_by_kinds old new k (Obj o) h = tt

slot_of : (o : Option (Option Content)) (y : Content) → unwrap_or o None ≡ Some y → o ≡ Some (Some y)
slot_of None y e = cc
slot_of (Some x) y e = ap Some e

pub get_kept : {A : Type 0} (xs ys : List A) (i : ℕ) (x : A) → slice_get xs i ≡ Some x → slice_get (xs ++ ys) i ≡ Some x
get_kept [] ys i x h = cc
get_kept (y ∷ xs) ys zero x h = h
get_kept (y ∷ xs) ys (suc i) x h = get_kept xs ys i x h

pub set_kept : {A : Type 0} (xs : List A) (i j : ℕ) (a b : A) → slice_get xs j ≡ Some b → (slice_get (slice_set xs i a) j ≡ Some b) ⊎ ((slice_get (slice_set xs i a) j ≡ Some a) × (slice_get xs i ≡ Some b))
set_kept [] i j a b h = inl h
set_kept (z ∷ xs) zero zero a b h = inr (refl, h)
set_kept (z ∷ xs) zero (suc j) a b h = inl h
set_kept (z ∷ xs) (suc i) zero a b h = inl h
set_kept (z ∷ xs) (suc i) (suc j) a b h = set_kept xs i j a b h

pub kinds_with_cell : (cells : Store) (x : Content) → SameKinds cells (with_cell cells x)
kinds_with_cell cells x c y e = ap (λ o. kind_of (unwrap_or o None)) (get_kept cells (Some x ∷ []) c.0 (Some y) (slot_of (slice_get cells c.0) y e))

pub kinds_set : (cells : Store) (c : CellId) (x : Content) → kind_of (content_at cells c) ≡ kind_of (Some x) → SameKinds cells (content_set cells c x)
kinds_set cells c x k d y e =
    elim (set_kept cells c.0 d.0 (Some x) (Some y) (slot_of (slice_get cells d.0) y e)) [ inl was ↦ ap (λ o. kind_of (unwrap_or o None)) was | inr both ↦ ap (λ o. kind_of (unwrap_or o None)) both.0 ∙ sym k ∙ ap (λ o. kind_of (unwrap_or o None)) both.1 ]

pub keeps_cells : (w : World) (cells : Store) → KeepsThere w.cells cells → length w.cells ≤ length cells → Keeps w (with_cells w cells)
keeps_cells w cells k l = record {
  versions = λ n v e. (v, e, same_version v);
  objects = λ n x e. (x, e, same_object x);
  cells = k;
  no_fewer = l;
}

pub keeps_cell : (w : World) (x : Content) → Keeps w (with_cells w (with_cell w.cells x))
keeps_cell w x = keeps_cells w (with_cell w.cells x) (there_by_kinds w.cells (with_cell w.cells x) (kinds_with_cell w.cells x)) (omega (arith, length-append w.cells (Some x ∷ [])))

keeps_set : (w : World) (c : CellId) (x : Content) → kind_of (content_at w.cells c) ≡ kind_of (Some x) → Keeps w (with_cells w (content_set w.cells c x))
keeps_set w c x k = keeps_cells w (content_set w.cells c x) (there_by_kinds w.cells (content_set w.cells c x) (kinds_set w.cells c x k)) (omega (arith, length-set w.cells c.0 (Some x)))

array_at : (o : Option Content) → IsSome (as_items o) → kind_of o ≡ kind.Array
array_at (Some (Array vs)) h = refl
array_at (Some (Mapping ps)) h = cc
array_at None h = cc

mapping_at : (o : Option Content) (ps : List (Value × Value)) → as_pairs o ≡ Some ps → kind_of o ≡ kind.Mapping
mapping_at (Some (Array vs)) ps h = cc
mapping_at (Some (Mapping qs)) ps h = refl
mapping_at None ps h = cc

pub keeps_item : (w : World) (c : CellId) (i : ℕ) (v : Value) → IsSome (items_at w.cells c) → Keeps w (with_cells w (item_set w.cells c i v))
keeps_item w c i v h = keeps_set w c (Array (slice_set (items_of w.cells c) i v)) (array_at (content_at w.cells c) h)

pub keeps_pairs : (w : World) (c : CellId) (ps qs : List (Value × Value)) → pairs_at w.cells c ≡ Some ps → Keeps w (with_cells w (content_set w.cells c (Mapping qs)))
keeps_pairs w c ps qs h = keeps_set w c (Mapping qs) (mapping_at (content_at w.cells c) ps h)

object_was : (o : Option Object) (x : Object) → o ≡ Some x → unwrap_or o no_object ≡ x
object_was o x e = ap (λ o. unwrap_or o no_object) e

pub object_kept : (w : World) (o : ObjId) (y : Object) → IsSameObject (object_at w o) y → (n : ℕ) (x : Object) → slice_get w.objects n ≡ Some x → (x' : Object) × (slice_get (slice_set w.objects o.0 y) n ≡ Some x') × IsSameObject x x'
object_kept w o y h n x e =
    elim (set_kept w.objects o.0 n y x e) [ inl was ↦ (x, was, same_object x) | inr both ↦ (y, both.0, subst (λ z. IsSameObject z y) (object_was (slice_get w.objects o.0) x both.1) h) ]

pub keeps_variable : (w : World) (o : ObjId) (i : ℕ) (v : Value) → Keeps w (with_object w o (with_variable (object_at w o) i v))
keeps_variable w o i v = record {
  versions = λ n x e. (x, e, same_version x);
  objects = object_kept w o (with_variable (object_at w o) i v) (record { name = refl; version = refl });
  cells = λ v h. h;
  no_fewer = omega arith;
}

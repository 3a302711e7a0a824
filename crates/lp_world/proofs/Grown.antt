-- What is closed stays closed where a version or an object comes behind the others.
use Rattle.std.proofs.Common.{◌≡◌, ◌∙◌, ◌+◌, ◌++◌, ◌≤◌, ℕ, List, [], ◌∷◌, Option, Some, None, IsSome, All, refl, ap, sym, subst, inl, inr, slice_get, unwrap_or, length, option_map, option_to_list, suc, zero}
use Rattle.std.specs.List.{flat_map}
use Rattle.std.proofs.lemmas.List.Elements.{All-nil, All-weaker, All-head, All-tail}
use Rattle.lp_values.specs.declared.id.ProgId.{ProgId}
use Rattle.lp_values.specs.declared.value.Value.{Value}
use Rattle.lp_cells.specs.Cells.{IsThere, Store, content_at}
use Rattle.lp_code.specs.declared.program.RawProgram.{RawProgram}
use Rattle.lp_code.specs.declared.tables.Slot.{Slot}
use Rattle.lp_swapfile.specs.Room.{AreTaken}
use Rattle.lp_swapfile.specs.declared.extent.Extent.{Extent}
use Rattle.lp_swapper.specs.Swap.{extent_of}
use Rattle.lp_world.specs.declared.objects.Object.{Object}
use Rattle.lp_world.specs.declared.objects.ObjectState.TheVariants as objects_of
use Rattle.lp_world.specs.declared.versions.Version.{Version}
use Rattle.lp_world.specs.Additions.{NewObjectStaysClosed, NewVersionStaysClosed, new_object}
use Rattle.lp_world.specs.Closed.{IsFunctionThere, IsObjectClosed, IsProgramClosed, IsRowThere, IsSlotClosed, IsVersionClosed, object_extents, parts_in, parts_together, variables_in, variables_together, version_extents}
use Rattle.lp_world.specs.Rows.{own_in, program_ticket, row_at, variables_of}
use Rattle.lp_world.proofs.Keeping.{get_new}

row_kept : {A : Type 0} (xs ys : List (Option A)) (i : ℕ) (x : A) → row_at xs i ≡ Some x → row_at (xs ++ ys) i ≡ Some x
row_kept [] ys i x h = cc
row_kept (y ∷ xs) ys zero x h = h
row_kept (y ∷ xs) ys (suc i) x h = row_kept xs ys i x h

there_kept : {A : Type 0} (xs ys : List (Option A)) (i : ℕ) → IsSome (row_at xs i) → row_at (xs ++ ys) i ≡ row_at xs i
there_kept [] ys i h = cc
there_kept (y ∷ xs) ys zero h = refl
there_kept (y ∷ xs) ys (suc i) h = there_kept xs ys i h

some_same : {A : Type 0} (a b : Option A) → a ≡ b → IsSome b → IsSome a
some_same a b e s = subst (λ o. IsSome o) (sym e) s

module _ (old : List (Option Version)) (more : List (Option Version)) where
  parts_kept : (ps : List ProgId) → All (λ (p : ProgId). IsSome (row_at old p.0)) ps → parts_together (old ++ more) ps ≡ parts_together old ps
  parts_kept [] h = refl
  parts_kept (p ∷ ps) h =
      ap (λ n. n + parts_together (old ++ more) ps) (ap parts_in (there_kept old more p.0 (All-head (λ (p : ProgId). IsSome (row_at old p.0)) p ps h)))
      ∙ ap (λ n. parts_in (row_at old p.0) + n) (parts_kept ps (All-tail (λ (p : ProgId). IsSome (row_at old p.0)) p ps h))

  variables_kept : (ps : List ProgId) → All (λ (p : ProgId). IsSome (row_at old p.0)) ps → variables_together (old ++ more) ps ≡ variables_together old ps
  variables_kept [] h = refl
  variables_kept (p ∷ ps) h =
      ap (λ n. n + variables_together (old ++ more) ps) (ap variables_in (there_kept old more p.0 (All-head (λ (p : ProgId). IsSome (row_at old p.0)) p ps h)))
      ∙ ap (λ n. variables_in (row_at old p.0) + n) (variables_kept ps (All-tail (λ (p : ProgId). IsSome (row_at old p.0)) p ps h))

  function_kept : (parts : List ProgId) (part fun : ℕ) → IsFunctionThere old parts part fun → IsFunctionThere (old ++ more) parts part fun
  function_kept parts part fun h = record { number = h.number; listed = h.listed; version = h.version; there = row_kept old more h.number.0 h.version h.there; row = h.row }

  called_kept : (parents : List ProgId) (parent slot : ℕ) → IsRowThere old parents parent slot → IsRowThere (old ++ more) parents parent slot
  called_kept parents parent slot h = record { number = h.number; listed = h.listed; version = h.version; there = row_kept old more h.number.0 h.version h.there; row = h.row }

  slot_kept : (parts : List ProgId) (s : Slot) → IsSlotClosed old parts s → IsSlotClosed (old ++ more) parts s
  slot_kept parts s (inl n) = inl n
  slot_kept parts s (inr h) = inr (function_kept parts s.part s.fun h)

  program_kept : (v : Version) (p : RawProgram) → IsProgramClosed old v p → IsProgramClosed (old ++ more) v p
  program_kept v p h = record {
    outline = h.outline;
    slots = All-weaker (IsSlotClosed old p.tables.parts) (IsSlotClosed (old ++ more) p.tables.parts) (λ s c. slot_kept p.tables.parts s c) p.tables.slots h.slots;
    rows = λ at parent slot n e. called_kept p.tables.parents parent slot (h.rows at parent slot n e);
    targets = λ part slot f e. function_kept p.tables.parts f.part f.fun (h.targets part slot f e);
  }

  version_kept : (n : ℕ) (v : Version) → IsVersionClosed old n v → IsVersionClosed (old ++ more) n v
  version_kept n v h = record {
    lower = h.lower;
    parents = All-weaker (λ (p : ProgId). IsSome (row_at old p.0)) (λ (p : ProgId). IsSome (row_at (old ++ more) p.0)) (λ p s. some_same (row_at (old ++ more) p.0) (row_at old p.0) (there_kept old more p.0 s) s) v.outline.parents h.parents;
    parts = h.parts ∙ ap (λ k. k + 1) (sym (parts_kept v.outline.parents h.parents));
    variables = subst (λ k. k ≤ v.outline.variables) (sym (variables_kept v.outline.parents h.parents)) h.variables;
    program = λ p e. program_kept v p (h.program p e);
  }

  object_kept : (cells : Store) (o : Object) → IsObjectClosed cells old o → IsObjectClosed cells (old ++ more) o
  object_kept cells o h = record {
    version = h.version;
    there = row_kept old more o.program.0 h.version h.there;
    variables = h.variables;
    shared = h.shared;
    own = h.own;
  }

append_nil : {A : Type 0} (xs : List A) → xs ++ [] ≡ xs
append_nil [] = refl
append_nil (x ∷ xs) = ap (λ l. x ∷ l) (append_nil xs)

extents_kept : {A : Type 0} (f : A → List Extent) (xs : List A) (x : A) → f x ≡ [] → flat_map f (xs ++ x ∷ []) ≡ flat_map f xs
extents_kept f [] x e = ap (λ l. l ++ []) e
extents_kept f (y ∷ xs) x e = ap (λ l. f y ++ l) (extents_kept f xs x e)

pub closed_with_new_version : NewVersionStaysClosed
closed_with_new_version live v p h e c = record {
  clock = h.clock;
  cells = h.cells;
  objects = λ n o g. object_kept live.versions (Some v ∷ []) live.cells o (h.objects n o g);
  apart = h.apart;
  versions = λ n x g. elim (get_new live.versions (Some v) n (Some x) g) [
    | inl was ↦ version_kept live.versions (Some v ∷ []) n x (h.versions n x was)
    | inr is ↦
        let s : v ≡ x = ap (λ o. unwrap_or (unwrap_or o None) v) is.0 in
        subst (λ n. IsVersionClosed after n x) (sym is.1) (subst (IsVersionClosed after (length live.versions)) s c)
  ];
  call_outs = h.call_outs;
  waiting = h.waiting;
  placed = h.placed;
  numbered = h.numbered;
  room = subst (λ l. AreTaken (flat_map object_extents live.objects ++ l) live.swapper)
      (sym (extents_kept version_extents live.versions (Some v) (ap (λ s. option_to_list (option_map extent_of (program_ticket s))) e))) h.room;
}
  where
    after : List (Option Version)
    after = live.versions ++ Some v ∷ []

own_end : (xs : List (Option Object)) (o : Object) → own_in (Some o) ≡ [] → (n : ℕ) → own_in (row_at (xs ++ Some o ∷ []) n) ≡ own_in (row_at xs n)
own_end [] o e zero = e
own_end [] o e (suc n) = refl
own_end (x ∷ xs) o e zero = refl
own_end (x ∷ xs) o e (suc n) = own_end xs o e n

pub closed_with_new_object : NewObjectStaysClosed
closed_with_new_object live p time vs version h there count values = record {
  clock = h.clock;
  cells = h.cells;
  objects = λ n x g. elim (get_new live.objects (Some new) n (Some x) g) [
    | inl was ↦ h.objects n x was
    | inr is ↦ subst (IsObjectClosed live.cells live.versions) (ap (λ o. unwrap_or (unwrap_or o None) new) is.0) new_closed
  ];
  apart = λ n m j k c a b. h.apart n m j k c (ap (λ l. slice_get l j) (sym (own_end live.objects new refl n)) ∙ a) (ap (λ l. slice_get l k) (sym (own_end live.objects new refl m)) ∙ b);
  versions = h.versions;
  call_outs = h.call_outs;
  waiting = h.waiting;
  placed = h.placed;
  numbered = h.numbered;
  room = subst (λ l. AreTaken (l ++ flat_map version_extents live.versions) live.swapper) (sym (extents_kept object_extents live.objects (Some new) refl)) h.room;
}
  where
    new : Object
    new = new_object p time vs

    same : (us : List Value) → variables_of (objects_of.Resident vs) ≡ Some us → vs ≡ us
    same us q = ap (λ o. unwrap_or o vs) q

    new_closed : IsObjectClosed live.cells live.versions new
    new_closed = record {
      version = version;
      there = there;
      variables = λ us q. subst (λ l. (length l ≡ version.outline.variables) × All (IsThere live.cells) l) (same us q) (count, values);
      shared = All-nil (λ c. IsSome (content_at live.cells c));
      own = refl;
    }

-- What the state still stands for where cells or a variable change in it and in the world alike.
use Rattle.std.proofs.Common.{◌≡◌, ◌⊎◌, ◌++◌, ℕ, suc, zero, Bool, true, false, List, [], ◌∷◌, Option, Some, None, refl, ap, ◌∙◌, sym, subst, inl, inr, slice_get, unwrap_or, IsSome, map, length, length-append, arith, All, if◌then◌else◌, pos}
use Rattle.std.specs.Prelude.{slice_set}
use Rattle.std.proofs.lemmas.List.Elements.{All-head, All-tail, All-weaker}
use Rattle.std.proofs.Math.ListN.{length-set}
use mathlib.Core.Path.{fun_ext}
use Rattle.lp_values.specs.declared.id.CellId.{CellId}
use Rattle.lp_values.specs.declared.id.ObjId.{ObjId}
use Rattle.lp_values.specs.declared.id.ProgId.{ProgId}
use Rattle.lp_values.specs.declared.value.Value.{Value}
use Rattle.lp_values.specs.declared.value.Value.TheVariants.{Int, Str, Arr, Map, Obj}
use Rattle.lp_cells.specs.Cells.{IsThere, Store, as_items, as_pairs, content_at, content_set, with_cell}
use Rattle.lp_cells.specs.Mapping.{pairs_there}
use Rattle.lp_cells.specs.declared.content.Content.{Content}
use Rattle.lp_language.specs.Operands.{Array, Mapping, opened}
use Rattle.lp_code.specs.declared.program.RawProgram.{RawProgram}
use Rattle.lp_image.specs.Image.{IsRecord, image}
use Rattle.lp_swapfile.specs.Device.{Bytes}
use Rattle.lp_swapper.specs.Swap.{IsOutAt}
use Rattle.lp_swapper.specs.declared.ticket.Ticket.{Ticket}
use Rattle.lp_language.specs.World as world
use Rattle.lp_language.specs.World.{World, new_world, no_object, object_at, with_cells}
use Rattle.lp_language.specs.Operations.{with_variable}
use Rattle.lp_meaning.specs.IdleAndKept.{IsKept, by_object, by_child}
use Rattle.lp_world.specs.declared.live.Live.{Live}
use Rattle.lp_world.specs.declared.objects.Object.{Object}
use Rattle.lp_world.specs.declared.objects.ObjectState.{ObjectState}
use Rattle.lp_world.specs.declared.objects.ObjectState.TheVariants as objects_of
use Rattle.lp_world.specs.Laws.{NewCellStands, TheSameLive, TheSameOperands, VariableStands, WriteStands}
use Rattle.lp_world.specs.Records.{contents_of, record_for, shared_for}
use Rattle.lp_world.specs.Rows.{is_live_row, live_in, with_value}
use Rattle.lp_world.specs.Stands.{IsObject, IsOut, IsOwn, IsPart, ObjectIs, Stands, VariablesAre, named_of}

-- Lists

pub same_or_not : (i j : ℕ) → (i ≡ j) ⊎ (i ≡ j → ⊥)
same_or_not zero zero = inl refl
same_or_not zero (suc j) = inr (λ e. omega (arith, e))
same_or_not (suc i) zero = inr (λ e. omega (arith, e))
same_or_not (suc i) (suc j) = elim (same_or_not i j) [ inl e ↦ inl (ap suc e) | inr n ↦ inr (λ e. n (omega (arith, e))) ]

pub get_kept : {A : Type 0} (xs ys : List A) (i : ℕ) (x : A) → slice_get xs i ≡ Some x → slice_get (xs ++ ys) i ≡ Some x
get_kept [] ys i x h = cc
get_kept (y ∷ xs) ys zero x h = h
get_kept (y ∷ xs) ys (suc i) x h = get_kept xs ys i x h

pub get_end : {A : Type 0} (xs : List A) (x : A) → slice_get (xs ++ x ∷ []) (length xs) ≡ Some x
get_end [] x = refl
get_end (y ∷ xs) x = get_end xs x

pub get_new : {A : Type 0} (xs : List A) (x : A) (i : ℕ) (y : A) → slice_get (xs ++ x ∷ []) i ≡ Some y → (slice_get xs i ≡ Some y) ⊎ ((Some x ≡ Some y) × (i ≡ length xs))
get_new [] x zero y h = inr (h, refl)
get_new [] x (suc i) y h = cc
get_new (z ∷ xs) x zero y h = inl h
get_new (z ∷ xs) x (suc i) y h = elim (get_new xs x i y h) [ inl was ↦ inl was | inr is ↦ inr (is.0, ap suc is.1) ]

pub get_set : {A : Type 0} (xs : List A) (i j : ℕ) (a : A) → (i ≡ j → ⊥) → slice_get (slice_set xs i a) j ≡ slice_get xs j
get_set [] i j a n = refl
get_set (x ∷ xs) zero zero a n = absurd (n refl)
get_set (x ∷ xs) zero (suc j) a n = refl
get_set (x ∷ xs) (suc i) zero a n = refl
get_set (x ∷ xs) (suc i) (suc j) a n = get_set xs i j a (λ e. n (ap suc e))

pub get_set_here : {A : Type 0} (xs : List A) (i : ℕ) (a y : A) → slice_get xs i ≡ Some y → slice_get (slice_set xs i a) i ≡ Some a
get_set_here [] i a y h = cc
get_set_here (x ∷ xs) zero a y h = refl
get_set_here (x ∷ xs) (suc i) a y h = get_set_here xs i a y h

-- Cells

pub part_with_cell : (a b : Store) (x : Content) → IsPart a b → IsPart (with_cell a x) (with_cell b x)
part_with_cell a b x h = record {
  same = λ c y e. elim (get_new a (Some x) c (Some y) e) [
    | inl was ↦ get_kept b (Some x ∷ []) c (Some y) (h.same c y was)
    | inr is ↦ ap (λ n. slice_get (b ++ Some x ∷ []) n) (is.1 ∙ h.next) ∙ get_end b (Some x) ∙ is.0
  ];
  next = omega (arith, h.next, length-append a (Some x ∷ []), length-append b (Some x ∷ []));
}

pub part_set : (a b : Store) (c : CellId) (y x : Content) → IsPart a b → slice_get a c.0 ≡ Some (Some y) → IsPart (content_set a c x) (content_set b c x)
part_set a b c y x h e = record {
  same = λ d z g. elim (same_or_not c.0 d) [
    | inl q ↦
        ap (λ n. slice_get (slice_set b c.0 (Some x)) n) (sym q) ∙ get_set_here b c.0 (Some x) (Some y) (h.same c.0 y e)
        ∙ sym (get_set_here a c.0 (Some x) (Some y) e) ∙ ap (λ n. slice_get (slice_set a c.0 (Some x)) n) q ∙ g
    | inr n ↦ get_set b c.0 d (Some x) n ∙ h.same d z (sym (get_set a c.0 d (Some x) n) ∙ g)
  ];
  next = length-set a c.0 (Some x) ∙ h.next ∙ sym (length-set b c.0 (Some x));
}

-- what an object took out with it stays as it was
abbrev pub KeepsOwn : Store → Store → Store → Store → Type 0
KeepsOwn part whole part' whole' = (c : CellId) → IsOwn part whole c → IsOwn part' whole' c × (content_at whole' c ≡ content_at whole c)

found_there : (o : Option (Option Content)) → IsSome (unwrap_or o None) → (x : Option Content) × (o ≡ Some x)
found_there None h = cc
found_there (Some x) h = (x, refl)

own_with_cell : (part whole : Store) (x : Content) → KeepsOwn part whole (with_cell part x) (with_cell whole x)
own_with_cell part whole x c h =
    let t = found_there (slice_get whole c.0) h.there in
    let same : content_at (with_cell whole x) c ≡ content_at whole c = ap (λ o. unwrap_or o None) (get_kept whole (Some x ∷ []) c.0 t.0 t.1 ∙ sym t.1) in
    (record { absent = get_kept part (Some x ∷ []) c.0 None h.absent; there = subst IsSome (sym same) h.there }, same)

own_set : (part whole : Store) (d : CellId) (y x : Content) → slice_get part d.0 ≡ Some (Some y) → KeepsOwn part whole (content_set part d x) (content_set whole d x)
own_set part whole d y x e c h =
    let n : d.0 ≡ c.0 → ⊥ = λ q. let s : Some (Some y) ≡ Some None = sym e ∙ ap (λ k. slice_get part k) q ∙ h.absent in cc in
    let same : content_at (content_set whole d x) c ≡ content_at whole c = ap (λ o. unwrap_or o None) (get_set whole d.0 c.0 (Some x) n) in
    (record { absent = get_set part d.0 c.0 (Some x) n ∙ h.absent; there = subst IsSome (sym same) h.there }, same)

contents_same : (old new : Store) (own : List CellId) → All (λ c. content_at new c ≡ content_at old c) own → contents_of new own ≡ contents_of old own
contents_same old new [] h = refl
contents_same old new (c ∷ cs) h =
    ap (λ x. x ∷ contents_of new cs) (All-head (λ c. content_at new c ≡ content_at old c) c cs h)
    ∙ ap (λ l. content_at old c ∷ l) (contents_same old new cs (All-tail (λ c. content_at new c ≡ content_at old c) c cs h))

out_kept : (told : Option Bytes) (part whole part' whole' : Store) (o : ObjId) (vs : List Value) (t : Ticket) (shared own : List CellId)
    → KeepsOwn part whole part' whole' → IsOut told part whole o vs t shared own → IsOut told part' whole' o vs t shared own
out_kept told part whole part' whole' o vs t shared own k h =
    let same : contents_of whole' own ≡ contents_of whole own = contents_same whole whole' own (All-weaker (IsOwn part whole) (λ c. content_at whole' c ≡ content_at whole c) (λ c i. (k c i).1) own h.kept) in
    record {
      fits = subst (λ l. IsRecord (record_for o vs own l)) (sym same) h.fits;
      out = subst (λ l. IsOutAt told t (image (record_for o vs own l))) (sym same) h.out;
      named = h.named ∙ ap (λ l. shared_for vs own l) (sym same);
      kept = All-weaker (IsOwn part whole) (IsOwn part' whole') (λ c i. (k c i).0) own h.kept;
    }

variables_kept : (told : Option Bytes) (part whole part' whole' : Store) (o : ObjId) (vs : List Value) (s : ObjectState)
    → KeepsOwn part whole part' whole' → VariablesAre told part whole o vs s → VariablesAre told part' whole' o vs s
variables_kept told part whole part' whole' o vs (objects_of.Resident us) k h = h
variables_kept told part whole part' whole' o vs (objects_of.Swapped t shared own) k h = out_kept told part whole part' whole' o vs t shared own k h

object_kept : (told : Option Bytes) (part whole part' whole' : Store) (n : ℕ) (r : Option (Option Object)) (x : Option world.Object)
    → KeepsOwn part whole part' whole' → ObjectIs told part whole n r x → ObjectIs told part' whole' n r x
object_kept told part whole part' whole' n None None k h = h
object_kept told part whole part' whole' n None (Some x) k h = h
object_kept told part whole part' whole' n (Some r) None k h = absurd h
object_kept told part whole part' whole' n (Some None) (Some x) k h = h
object_kept told part whole part' whole' n (Some (Some o)) (Some x) k h = record {
  version = h.version;
  live = h.live;
  living = h.living;
  latest = h.latest;
  variables = variables_kept told part whole part' whole' (record { 0 = n }) x.variables o.state k h.variables;
}

pub with_other_cells : (told : Option Bytes) (programs : List RawProgram) (live : Live) (w : World) (part whole : Store)
    → Stands told programs live w → IsPart part whole → KeepsOwn live.cells w.cells part whole → Stands told programs (record live { cells = part }) (with_cells w whole)
with_other_cells told programs live w part whole h p k = record {
  cells = p;
  objects = λ n. object_kept told live.cells w.cells part whole n (slice_get live.objects n) (slice_get w.objects n) k (h.objects n);
  names = h.names;
  versions = h.versions;
  kept = h.kept;
  rest = h.rest;
}

pub stands_with_cell : NewCellStands
stands_with_cell told programs live w x h =
    with_other_cells told programs live w (with_cell live.cells x) (with_cell w.cells x) h (part_with_cell live.cells w.cells x h.cells) (own_with_cell live.cells w.cells x)

pub stands_with_content : WriteStands
stands_with_content told programs live w c old new h e =
    with_other_cells told programs live w (content_set live.cells c new) (content_set w.cells c new) h (part_set live.cells w.cells c old new h.cells e) (own_set live.cells w.cells c old new e)

-- Liveness

row_same : (told : Option Bytes) (part whole : Store) (n : ℕ) (r : Option (Option Object)) (x : Option world.Object) → ObjectIs told part whole n r x → is_live_row (unwrap_or r None) ≡ (unwrap_or x no_object).is_live
row_same told part whole n None None h = refl
row_same told part whole n None (Some x) h = absurd h
row_same told part whole n (Some r) None h = absurd h
row_same told part whole n (Some None) (Some x) h = sym h
row_same told part whole n (Some (Some o)) (Some x) h = h.live

pub live_same : TheSameLive
unfolding live_in
live_same told programs live w h = fun_ext (λ o. row_same told live.cells w.cells o.0 (slice_get live.objects o.0) (slice_get w.objects o.0) (h.objects o.0))

-- Operands

items_from : (part whole : Store) (c : CellId) (o : Option (Option Content)) → IsPart part whole → slice_get part c.0 ≡ o → IsSome (as_items (unwrap_or o None)) → slice_get whole c.0 ≡ o
items_from part whole c None h e i = cc
items_from part whole c (Some None) h e i = cc
items_from part whole c (Some (Some x)) h e i = h.same c.0 x e

pairs_from : (part whole : Store) (c : CellId) (o : Option (Option Content)) → IsPart part whole → slice_get part c.0 ≡ o → IsSome (as_pairs (unwrap_or o None)) → slice_get whole c.0 ≡ o
pairs_from part whole c None h e i = cc
pairs_from part whole c (Some None) h e i = cc
pairs_from part whole c (Some (Some x)) h e i = h.same c.0 x e

-- an array or a mapping that is there holds the same in both
pub items_same : (part whole : Store) (c : CellId) → IsPart part whole → IsThere part (Arr c) → content_at whole c ≡ content_at part c
items_same part whole c h i = ap (λ o. unwrap_or o None) (items_from part whole c (slice_get part c.0) h refl i)

pub pairs_same : (part whole : Store) (c : CellId) → IsPart part whole → IsThere part (Map c) → content_at whole c ≡ content_at part c
pairs_same part whole c h i = ap (λ o. unwrap_or o None) (pairs_from part whole c (slice_get part c.0) h refl i)

read_same : (l : ObjId → Bool) (part whole : Store) (o : ObjId) (b : Bool) → opened l part (unwrap_or (if b then Some (Obj o) else None) (Int (pos 0))) ≡ opened l whole (unwrap_or (if b then Some (Obj o) else None) (Int (pos 0)))
read_same l part whole o true = refl
read_same l part whole o false = refl

pub operand_same : TheSameOperands
operand_same l part whole (Int n) h i = refl
operand_same l part whole (Str s) h i = refl
operand_same l part whole (Arr c) h i = ap (λ o. Array c (unwrap_or (as_items o) [])) (sym (items_same part whole c h i))
operand_same l part whole (Map c) h i = ap (λ o. Mapping c (pairs_there l (unwrap_or (as_pairs o) []))) (sym (pairs_same part whole c h i))
operand_same l part whole (Obj o) h i = read_same l part whole o (l o)

-- Variables

-- versions stay kept by live objects of the same versions
kept_by : (versions : List world.Version) (old new : List world.Object)
    → ((n : ℕ) (x : world.Object) → slice_get new n ≡ Some x → x.is_live ≡ true → (y : world.Object) × (slice_get old n ≡ Some y) × (y.is_live ≡ true) × (y.version ≡ x.version))
    → (v : ProgId) → IsKept (record (new_world [] 0 0) { objects = new; versions = versions }) v → IsKept (record (new_world [] 0 0) { objects = old; versions = versions }) v
kept_by versions old new f _ (by_object n x e l) =
    let t = f n x e l in subst (λ p. IsKept (record (new_world [] 0 0) { objects = old; versions = versions }) p) t.3 (by_object n t.0 t.1 t.2)
kept_by versions old new f _ (by_child v p k c) = by_child v p (kept_by versions old new f v k) c

named_set : (xs : List world.Object) (n : ℕ) (x y : world.Object) → slice_get xs n ≡ Some x → named_of y ≡ named_of x → map named_of (slice_set xs n y) ≡ map named_of xs
named_set [] n x y e q = refl
named_set (z ∷ xs) zero x y e q =
    let s : x ≡ z = ap (λ o. unwrap_or o x) (sym e) in
    ap (λ k. k ∷ map named_of xs) (q ∙ ap named_of s)
named_set (z ∷ xs) (suc n) x y e q = ap (λ l. named_of z ∷ l) (named_set xs n x y e q)

-- the object of the world behind a row that is there
pub object_behind : (told : Option Bytes) (part whole : Store) (n : ℕ) (row : Object) (o : Option world.Object) → ObjectIs told part whole n (Some (Some row)) o → (x : world.Object) × (o ≡ Some x) × IsObject told part whole n row x
object_behind told part whole n row None h = absurd h
object_behind told part whole n row (Some x) h = (x, refl, h)

pub resident_same : (told : Option Bytes) (part whole : Store) (o : ObjId) (us vs : List Value) (s : ObjectState) → s ≡ objects_of.Resident us → VariablesAre told part whole o vs s → us ≡ vs
resident_same told part whole o us vs s e h = subst (λ s. VariablesAre told part whole o vs s) e h

pub stands_with_variable : VariableStands
stands_with_variable told programs live w o row vs k v h e r =
    let b = object_behind told live.cells w.cells o.0 row (slice_get w.objects o.0) (subst (λ q. ObjectIs told live.cells w.cells o.0 q (slice_get w.objects o.0)) e (h.objects o.0)) in
    let at : object_at w o ≡ b.0 = ap (λ q. unwrap_or q no_object) b.1 in
    let new : world.Object = with_variable (object_at w o) k v in
    let old_vs : vs ≡ b.0.variables = resident_same told live.cells w.cells (record { 0 = o.0 }) vs b.0.variables row.state r b.2.variables in
    let is : IsObject told live.cells w.cells o.0 (with_value row vs k v) new = subst (λ x. IsObject told live.cells w.cells o.0 (with_value row vs k v) (with_variable x k v)) (sym at) (record {
      version = b.2.version;
      live = b.2.live;
      living = b.2.living;
      latest = b.2.latest;
      variables = ap (λ l. slice_set l k v) old_vs;
    }) in
    record {
      cells = h.cells;
      objects = λ n. elim (same_or_not o.0 n) [
        | inl q ↦ subst (λ n. ObjectIs told live.cells w.cells n (slice_get (slice_set live.objects o.0 (Some (with_value row vs k v))) n) (slice_get (slice_set w.objects o.0 new) n)) q
            (rw (get_set_here live.objects o.0 (Some (with_value row vs k v)) (Some row) e, get_set_here w.objects o.0 new b.0 b.1) is)
        | inr d ↦ rw (get_set live.objects o.0 n (Some (with_value row vs k v)) d, get_set w.objects o.0 n new d) (h.objects n)
      ];
      names = rw (named_set w.objects o.0 b.0 new b.1 (ap (λ x. named_of (with_variable x k v)) at)) h.names;
      versions = h.versions;
      kept = λ p g. h.kept p (kept_by w.versions w.objects (slice_set w.objects o.0 new)
          (λ n x g l. elim (same_or_not o.0 n) [
            | inl q ↦
                let x_new : new ≡ x = ap (λ o. unwrap_or o new) (sym (get_set_here w.objects o.0 new b.0 b.1) ∙ ap (λ n. slice_get (slice_set w.objects o.0 new) n) q ∙ g) in
                let x_old : with_variable b.0 k v ≡ x = ap (λ y. with_variable y k v) (sym at) ∙ x_new in
                (b.0, ap (λ n. slice_get w.objects n) (sym q) ∙ b.1, ap (λ y. y.is_live) x_old ∙ l, ap (λ y. y.version) x_old)
            | inr d ↦ (x, sym (get_set w.objects o.0 n new d) ∙ g, l, refl)
          ]) p g);
      rest = h.rest;
    }

-- What the state stands for, and that it is closed, where a version's program goes out or comes back.
use Rattle.std.proofs.Common.{◌≡◌, ◌∙◌, ◌+◌, ◌<◌, ◌≤◌, ℕ, List, [], ◌∷◌, Option, Some, None, IsSome, refl, ap, sym, subst, inl, inr, slice_get, unwrap_or, option_map}
use Rattle.std.specs.Prelude.{slice_set}
use Rattle.std.proofs.Math.ListN.{length-set}
use Rattle.std.proofs.lemmas.List.Elements.{All-weaker}
use Rattle.lp_cells.specs.Cells.{Store}
use Rattle.lp_values.specs.declared.id.ProgId.{ProgId}
use Rattle.lp_code.specs.declared.program.RawProgram.{RawProgram}
use Rattle.lp_code.specs.declared.tables.Slot.{Slot}
use Rattle.lp_swapfile.specs.Device.{Bytes}
use Rattle.lp_swapfile.specs.Room.{AreTaken, Room}
use Rattle.lp_language.specs.World.{World}
use Rattle.lp_world.specs.Closed.{IsClosed, IsFunctionThere, IsObjectClosed, IsProgramClosed, IsRowThere, IsSlotClosed, IsVersionClosed, extents_of, parts_in, parts_together, variables_in, variables_together}
use Rattle.lp_world.specs.Rows.{row_at}
use Rattle.lp_world.specs.Stands.{IsVersion, Stands}
use Rattle.lp_world.specs.declared.live.Live.{Live}
use Rattle.lp_world.specs.declared.objects.Object.{Object}
use Rattle.lp_world.specs.declared.versions.Outline.{Outline}
use Rattle.lp_world.specs.declared.versions.Version.{Version}
use Rattle.lp_world.proofs.Keeping.{get_set, get_set_here, same_or_not}

abbrev pub outline_in : Option Version → Option Outline
outline_in o = option_map (λ v. v.outline) o

-- the same versions are there, with the same outlines
abbrev pub HaveSameOutlines : List (Option Version) → List (Option Version) → Type 0
HaveSameOutlines old new = (n : ℕ) → outline_in (row_at new n) ≡ outline_in (row_at old n)

outlined : (a b : Option Version) (v : Version) → outline_in a ≡ outline_in b → b ≡ Some v → (u : Version) × (a ≡ Some u) × (u.outline ≡ v.outline)
outlined None None v e s = cc
outlined None (Some b) v e s = cc
outlined (Some a) None v e s = cc
outlined (Some a) (Some b) v e s = (a, refl, ap (λ o. unwrap_or o a.outline) e ∙ ap (λ o. (unwrap_or o b).outline) s)

parts_same : (a b : Option Version) → outline_in a ≡ outline_in b → parts_in a ≡ parts_in b
parts_same None None e = refl
parts_same None (Some b) e = cc
parts_same (Some a) None e = cc
parts_same (Some a) (Some b) e = ap (λ o. (unwrap_or o a.outline).parts) e

variables_same : (a b : Option Version) → outline_in a ≡ outline_in b → variables_in a ≡ variables_in b
variables_same None None e = refl
variables_same None (Some b) e = cc
variables_same (Some a) None e = cc
variables_same (Some a) (Some b) e = ap (λ o. (unwrap_or o a.outline).variables) e

there_same : (a b : Option Version) → outline_in a ≡ outline_in b → IsSome b → IsSome a
there_same None None e s = s
there_same None (Some b) e s = cc
there_same (Some a) None e s = refl
there_same (Some a) (Some b) e s = refl

module _ (old new : List (Option Version)) (same : HaveSameOutlines old new) where
  parts_together_same : (ps : List ProgId) → parts_together new ps ≡ parts_together old ps
  parts_together_same [] = refl
  parts_together_same (p ∷ ps) =
      ap (λ n. n + parts_together new ps) (parts_same (row_at new p.0) (row_at old p.0) (same p.0)) ∙ ap (λ n. parts_in (row_at old p.0) + n) (parts_together_same ps)

  variables_together_same : (ps : List ProgId) → variables_together new ps ≡ variables_together old ps
  variables_together_same [] = refl
  variables_together_same (p ∷ ps) =
      ap (λ n. n + variables_together new ps) (variables_same (row_at new p.0) (row_at old p.0) (same p.0)) ∙ ap (λ n. variables_in (row_at old p.0) + n) (variables_together_same ps)

  function_there : (parts : List ProgId) (part fun : ℕ) → IsFunctionThere old parts part fun → IsFunctionThere new parts part fun
  function_there parts part fun h =
      let u = outlined (row_at new h.number.0) (row_at old h.number.0) h.version (same h.number.0) h.there in
      record { number = h.number; listed = h.listed; version = u.0; there = u.1; row = subst (λ (o : Outline). fun < o.functions) (sym u.2) h.row }

  row_called : (parents : List ProgId) (parent slot : ℕ) → IsRowThere old parents parent slot → IsRowThere new parents parent slot
  row_called parents parent slot h =
      let u = outlined (row_at new h.number.0) (row_at old h.number.0) h.version (same h.number.0) h.there in
      record { number = h.number; listed = h.listed; version = u.0; there = u.1; row = subst (λ (o : Outline). slot < o.slots) (sym u.2) h.row }

  slot_closed : (parts : List ProgId) (s : Slot) → IsSlotClosed old parts s → IsSlotClosed new parts s
  slot_closed parts s (inl n) = inl n
  slot_closed parts s (inr h) = inr (function_there parts s.part s.fun h)

  pub program_closed : (v : Version) (p : RawProgram) → IsProgramClosed old v p → IsProgramClosed new v p
  program_closed v p h = record {
    outline = h.outline;
    slots = All-weaker (IsSlotClosed old p.tables.parts) (IsSlotClosed new p.tables.parts) (λ s c. slot_closed p.tables.parts s c) p.tables.slots h.slots;
    rows = λ at parent slot n e. row_called p.tables.parents parent slot (h.rows at parent slot n e);
    targets = λ part slot f e. function_there p.tables.parts f.part f.fun (h.targets part slot f e);
  }

  pub version_closed : (n : ℕ) (v : Version) → IsVersionClosed old n v → IsVersionClosed new n v
  version_closed n v h = record {
    lower = h.lower;
    parents = All-weaker (λ (p : ProgId). IsSome (row_at old p.0)) (λ (p : ProgId). IsSome (row_at new p.0)) (λ p s. there_same (row_at new p.0) (row_at old p.0) (same p.0) s) v.outline.parents h.parents;
    parts = h.parts ∙ ap (λ k. k + 1) (sym (parts_together_same v.outline.parents));
    variables = subst (λ k. k ≤ v.outline.variables) (sym (variables_together_same v.outline.parents)) h.variables;
    program = λ p e. program_closed v p (h.program p e);
  }

  pub object_closed : (cells : Store) (o : Object) → IsObjectClosed cells old o → IsObjectClosed cells new o
  object_closed cells o h =
      let u = outlined (row_at new o.program.0) (row_at old o.program.0) h.version (same o.program.0) h.there in
      record {
        version = u.0;
        there = u.1;
        variables = λ vs e. let j = h.variables vs e in (j.0 ∙ ap (λ (o : Outline). o.variables) (sym u.2), j.1);
        shared = h.shared;
        own = h.own;
      }

-- one version with the same outline
pub same_outlines : (versions : List (Option Version)) (n : ℕ) (v new : Version) → slice_get versions n ≡ Some (Some v) → new.outline ≡ v.outline → HaveSameOutlines versions (slice_set versions n (Some new))
same_outlines versions n v new e o m = elim (same_or_not n m) [
  | inl s ↦ subst (λ m. outline_in (row_at (slice_set versions n (Some new)) m) ≡ outline_in (row_at versions m)) s (rw (get_set_here versions n (Some new) (Some v) e, e) (ap (λ o. Some o) o))
  | inr d ↦ ap (λ r. outline_in (unwrap_or r None)) (get_set versions n m (Some new) d)
]

-- a closed state with another version of the same outline
pub closed_with_version : (live : Live) (n : ℕ) (v new : Version) (room : Room)
    → IsClosed live → slice_get live.versions n ≡ Some (Some v) → new.outline ≡ v.outline → IsVersionClosed live.versions n new
    → AreTaken (extents_of live.objects (slice_set live.versions n (Some new))) room
    → IsClosed (record live { versions = slice_set live.versions n (Some new); swapper = room })
closed_with_version live n v new room h e o c taken = record {
  clock = h.clock;
  cells = h.cells;
  objects = λ m x g. object_closed live.versions after same live.cells x (h.objects m x g);
  apart = h.apart;
  versions = λ m x g. elim (same_or_not n m) [
    | inl s ↦
        let t : Some (Some new) ≡ Some (Some x) = sym (get_set_here live.versions n (Some new) (Some v) e) ∙ ap (λ k. slice_get after k) s ∙ g in
        let is : new ≡ x = ap (λ o. unwrap_or (unwrap_or o None) new) t in
        subst (λ m. IsVersionClosed after m x) s (subst (IsVersionClosed after n) is (version_closed live.versions after same n new c))
    | inr d ↦ version_closed live.versions after same m x (h.versions m x (sym (get_set live.versions n m (Some new) d) ∙ g))
  ];
  call_outs = h.call_outs;
  waiting = h.waiting;
  placed = h.placed;
  numbered = h.numbered;
  room = taken;
}
  where
    after : List (Option Version)
    after = slice_set live.versions n (Some new)

    same : HaveSameOutlines live.versions after
    same = same_outlines live.versions n v new e o

-- another version that stands for the same one
pub stands_with_version : (told : Option Bytes) (programs : List RawProgram) (live : Live) (w : World) (n : ℕ) (v new : Version)
    → Stands told programs live w → slice_get live.versions n ≡ Some (Some v) → IsVersion told programs w.versions n new
    → Stands told programs (record live { versions = slice_set live.versions n (Some new) }) w
stands_with_version told programs live w n v new h e is = record {
  cells = h.cells;
  objects = h.objects;
  names = h.names;
  versions = record {
    each = λ m x g. elim (same_or_not n m) [
      | inl s ↦
          let t : Some (Some new) ≡ Some (Some x) = sym (get_set_here live.versions n (Some new) (Some v) e) ∙ ap (λ k. slice_get (slice_set live.versions n (Some new)) k) s ∙ g in
          subst (λ m. IsVersion told programs w.versions m x) s (subst (IsVersion told programs w.versions n) (ap (λ o. unwrap_or (unwrap_or o None) new) t) is)
      | inr d ↦ h.versions.each m x (sym (get_set live.versions n m (Some new) d) ∙ g)
    ];
    next = length-set live.versions n (Some new) ∙ h.versions.next;
    whole = h.versions.whole;
  };
  kept = λ p k. elim (same_or_not n p.0) [
    | inl s ↦ subst (λ m. IsSome (row_at (slice_set live.versions n (Some new)) m)) s (rw (get_set_here live.versions n (Some new) (Some v) e) refl)
    | inr d ↦ rw (get_set live.versions n p.0 (Some new) d) (h.kept p k)
  ];
  rest = h.rest;
}

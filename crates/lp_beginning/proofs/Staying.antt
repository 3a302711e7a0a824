-- The parts of a new object that have initialisers are there in each later world, and have them.
use Rattle.std.proofs.Common.{◌≡◌, ◌∙◌, ◌+◌, ◌<◌, ℕ, zero, suc, arith, refl, sym, ap, subst, Bool, true, false, List, [], ◌∷◌, All, Option, Some, None, IsSome, drop, length, slice_get, unwrap_or, if◌then◌else◌}
use Rattle.std.proofs.lemmas.List.Elements.{All-cons, All-nil, All-weaker}
use Rattle.lp_values.specs.declared.id.ObjId.{ObjId}
use Rattle.lp_values.specs.declared.id.ProgId.{ProgId}
use Rattle.lp_language.specs.World.{Keeps, Object, Version, World, no_object, no_version, object_at}
use Rattle.lp_language.specs.Resolve.{Heir, Heritage, NoParent, Part, each_heritage, has_initialiser, heritage, heritage_of, heritage_within, own_variables, part_at, parts, version_of}
use Rattle.lp_meaning.specs.FileLoads.{initialised_from, initialised_parts}
use Rattle.lp_world.specs.declared.objects.Object as rows
use Rattle.lp_world.specs.Rows.{row_at, variables_at}
use Rattle.lp_residence.proofs.RowChanges.{object_behind, row_there}
use Rattle.lp_part_laws.specs.Versions.{AreRising}
use Rattle.lp_part_laws.proofs.Lists.{is_below}
use Rattle.lp_making.specs.Trees.{timeless_part, timeless_tree}
use Rattle.lp_reaching.specs.Rows.{has_initialisers}
use Rattle.lp_reaching.proofs.Later.{part_kept}
use Rattle.lp_beginning.specs.Beginning.{IsInitialised, PartsStay}
use Rattle.lp_beginning.specs.Jobs.{parts_left}

-- Each part that is listed is there

-- a number, counted from another one, is that of a part with initialisers
record IsListed (n : ℕ) (ps : List Part) (m : ℕ) : Type 0 where
  index : ℕ
  number : m ≡ n + index
  place : Part
  at : slice_get ps index ≡ Some place
  has : has_initialisers place.tree ≡ true

listed_behind : (n : ℕ) (p : Part) (ps : List Part) (m : ℕ) → IsListed (suc n) ps m → IsListed n (p ∷ ps) m
listed_behind n p ps m h = record { index = suc h.index; number = let e = h.number in omega (arith, e); place = h.place; at = h.at; has = h.has }

listed_more : (n : ℕ) (p : Part) (ps : List Part) (b : Bool) → has_initialisers p.tree ≡ b → All (IsListed n (p ∷ ps)) (initialised_from (suc n) ps)
    → All (IsListed n (p ∷ ps)) (if b then n ∷ initialised_from (suc n) ps else initialised_from (suc n) ps)
listed_more n p ps true e h = All-cons (IsListed n (p ∷ ps)) n (initialised_from (suc n) ps) (record { index = 0; number = let z : n ≡ n + 0 = omega arith in z; place = p; at = refl; has = e }) h
listed_more n p ps false e h = h

all_listed : (n : ℕ) (ps : List Part) → All (IsListed n ps) (initialised_from n ps)
all_listed n [] = All-nil (IsListed n [])
all_listed n (p ∷ ps) =
    listed_more n p ps (has_initialisers p.tree) refl (All-weaker (IsListed (suc n) ps) (IsListed n (p ∷ ps)) (listed_behind n p ps) (initialised_from (suc n) ps) (all_listed (suc n) ps))

-- and so it is later on

items_same : (h : Heritage) → (version_of (timeless_tree h)).items ≡ (version_of h).items
items_same (Heir n v ps) = refl

has_same : (p q : Part) → timeless_part p ≡ timeless_part q → has_initialisers q.tree ≡ has_initialisers p.tree
has_same p q e = ap (λ is. has_initialiser (own_variables is)) (sym (items_same q.tree) ∙ ap (λ (z : Part). (version_of z.tree).items) (sym e) ∙ items_same p.tree)

still_initialised : (w u : World) (o : ObjId) (x : Object) (n : ℕ) → Keeps w u → AreRising w.versions → slice_get w.objects o.0 ≡ Some x → x.version.0 < length w.versions → IsListed 0 (parts (heritage_of w o)) n → IsInitialised u o n
still_initialised w u o x n k r there low h =
    let number : n ≡ h.index = let e = h.number in omega (arith, e) in
    let q = part_kept w u o x n h.place k r there low (ap (part_at (heritage_of w o)) number ∙ h.at) in
    record { place = q.part; at = q.is; has = has_same h.place q.part q.same ∙ h.has }

-- a version that is not there has no part with initialisers
none_there : (w : World) (v : ProgId) (k : ℕ) → slice_get w.versions v.0 ≡ None → initialised_parts (heritage_within k w v) ≡ []
none_there w v zero e = ap (λ (o : Option Version). initialised_parts (Heir v (unwrap_or o no_version) NoParent)) e
none_there w v (suc k) e = ap (λ (o : Option Version). initialised_parts (Heir v (unwrap_or o no_version) (each_heritage (heritage_within k w) (unwrap_or o no_version).parents))) e

-- of an object that is there
parts_initialised : (w u : World) (o : ObjId) (x : Object) → Keeps w u → AreRising w.versions → slice_get w.objects o.0 ≡ Some x → All (IsInitialised u o) (initialised_parts (heritage_of w o))
parts_initialised w u o x k r there = by (slice_get w.versions x.version.0) refl
  where
    is : (object_at w o).version ≡ x.version
    is = ap (λ z. (unwrap_or z no_object).version) there

    by : (v : Option Version) → slice_get w.versions x.version.0 ≡ v → All (IsInitialised u o) (initialised_parts (heritage_of w o))
    by None e = subst (All (IsInitialised u o)) (sym (ap (λ v. initialised_parts (heritage w v)) is ∙ none_there w x.version x.version.0 e)) (All-nil (IsInitialised u o))
    by (Some v) e =
        let low = is_below w.versions x.version.0 v e in
        All-weaker (IsListed 0 (parts (heritage_of w o))) (IsInitialised u o) (λ n l. still_initialised w u o x n k r there low l) (initialised_parts (heritage_of w o)) (all_listed 0 (parts (heritage_of w o)))

-- The job of a new object

row_of : (objects : List (Option rows.Object)) (o : ObjId) → IsSome (variables_at objects o) → (x : rows.Object) × (row_at objects o.0 ≡ Some x)
row_of objects o h = by (row_at objects o.0) refl
  where
    by : (r : Option rows.Object) → row_at objects o.0 ≡ r → (x : rows.Object) × (row_at objects o.0 ≡ Some x)
    by None e = absurd (cc)
    by (Some x) e = (x, e)

pub parts_stay : PartsStay
parts_stay told programs live w u job h home has k =
    let r = row_of live.objects job.object home in
    let b = object_behind told programs live w job.object.0 r.0 h.stands (row_there live.objects job.object.0 r.0 r.1) in
    let left : parts_left job ≡ initialised_parts (heritage_of w job.object) = ap (λ n. drop n job.parts.items) has.done ∙ has.parts in
    subst (All (IsInitialised u job.object)) (sym left) (parts_initialised w u job.object b.0 k h.compiled.rising b.1)

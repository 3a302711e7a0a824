-- In each later world the inheritance trees are as they were, but for clocks; so who calls calls still.
use Rattle.std.proofs.Common.{◌≡◌, ◌∙◌, ◌<◌, ℕ, zero, suc, arith, List, [], ◌∷◌, Option, Some, None, All, refl, ap, sym, length, slice_get, unwrap_or}
use Rattle.std.proofs.lemmas.List.Elements.{All-head, All-tail}
use Rattle.std.specs.Option.{option_map}
use Rattle.lp_tree.specs.declared.pragma.Pragmas.{Pragmas}
use Rattle.lp_tree.specs.Units.{ItemTree}
use Rattle.lp_values.specs.declared.id.ObjId.{ObjId}
use Rattle.lp_values.specs.declared.id.ProgId.{ProgId}
use Rattle.lp_code.specs.declared.program.RawProgram.{RawProgram}
use Rattle.lp_language.specs.World.{IsSameVersion, Keeps, Object, Version, World, no_object, no_version, object_at, version_at}
use Rattle.lp_language.specs.Resolve.{Heir, Heritage, NoParent, OneParent, Part, each_heritage, heritage, heritage_of, heritage_within, number_of, part_at}
use Rattle.lp_part_laws.specs.Versions.{AreRising}
use Rattle.lp_part_laws.proofs.Lists.{there_below}
use Rattle.lp_part_laws.proofs.Trees.{rises}
use Rattle.lp_making.specs.Trees.{AreSameTrees, timeless, timeless_part, timeless_tree, timeless_trees}
use Rattle.lp_making.proofs.Timeless.{part_same}
use Rattle.lp_targets.specs.Callees as now
use Rattle.lp_reaching.specs.Compiled.{IsCaller}

-- Versions

abbrev made : List ℕ → List ItemTree → List ProgId → Pragmas → List (List ℕ) → Version
made path items parents pragmas simuls = record { path = path; items = items; parents = parents; pragmas = pragmas; simuls = simuls; latest = 0 }

same_timeless : (v u : Version) → IsSameVersion v u → timeless v ≡ timeless u
same_timeless v u s =
    ap (λ x. made x v.items v.parents v.pragmas v.simuls) (sym s.path)
    ∙ ap (λ x. made u.path x v.parents v.pragmas v.simuls) (sym s.items)
    ∙ ap (λ x. made u.path u.items x v.pragmas v.simuls) (sym s.parents)
    ∙ ap (λ x. made u.path u.items u.parents x v.simuls) (sym s.pragmas)
    ∙ ap (λ x. made u.path u.items u.parents u.pragmas x) (sym s.simuls)

kept_version : (w u : World) (v : ProgId) → Keeps w u → v.0 < length w.versions → timeless (version_at w v) ≡ timeless (version_at u v)
kept_version w u v k l =
    let x = there_below w.versions v.0 l in
    let y = k.versions v.0 x.0 x.1 in
    ap (λ o. timeless (unwrap_or o no_version)) x.1 ∙ same_timeless x.0 y.0 y.2 ∙ ap (λ o. timeless (unwrap_or o no_version)) (sym y.1)

-- Trees

kept_each : (n : ℕ) (f g : ProgId → Heritage) → ((v : ProgId) → v.0 < n → timeless_tree (f v) ≡ timeless_tree (g v)) → (vs : List ProgId) → All (λ v. v.0 < n) vs
    → timeless_trees (each_heritage f vs) ≡ timeless_trees (each_heritage g vs)
kept_each n f g e [] h = refl
kept_each n f g e (v ∷ vs) h =
    ap (λ t. OneParent t (timeless_trees (each_heritage f vs))) (e v (All-head (λ v. v.0 < n) v vs h))
    ∙ ap (λ ts. OneParent (timeless_tree (g v)) ts) (kept_each n f g e vs (All-tail (λ v. v.0 < n) v vs h))

kept_within : (w u : World) → Keeps w u → AreRising w.versions → (k : ℕ) (v : ProgId) → v.0 < length w.versions → timeless_tree (heritage_within k w v) ≡ timeless_tree (heritage_within k u v)
kept_within w u h r zero v l = ap (λ x. Heir v x NoParent) (kept_version w u v h l)
kept_within w u h r (suc k) v l =
    ap (λ (x : Version). Heir v x (timeless_trees (each_heritage (heritage_within k w) (version_at w v).parents))) (kept_version w u v h l)
    ∙ ap (λ ts. Heir v (timeless (version_at u v)) ts)
    (kept_each v.0 (heritage_within k w) (heritage_within k u) (λ p low. kept_within w u h r k p (omega (arith, low, l))) (version_at w v).parents (rises w.versions v r))
    ∙ ap (λ (x : Version). Heir v (timeless (version_at u v)) (timeless_trees (each_heritage (heritage_within k u) x.parents))) (kept_version w u v h l)

-- the tree of an object that is there, whose version is there
kept_tree : (w u : World) (o : ObjId) (x : Object) → Keeps w u → AreRising w.versions → slice_get w.objects o.0 ≡ Some x → x.version.0 < length w.versions → AreSameTrees (heritage_of w o) (heritage_of u o)
kept_tree w u o x h r e l =
    let y = h.objects o.0 x e in
    let before : (object_at w o).version ≡ x.version = ap (λ z. (unwrap_or z no_object).version) e in
    let after : (object_at u o).version ≡ x.version = ap (λ z. (unwrap_or z no_object).version) y.1 ∙ y.2.version in
    ap (λ v. timeless_tree (heritage w v)) before ∙ kept_within w u h r x.version.0 x.version l ∙ ap (λ v. timeless_tree (heritage u v)) (sym after)

-- Parts

number_same : (t : Heritage) → number_of (timeless_tree t) ≡ number_of t
number_same (Heir n v ps) = refl

-- a part that differs in clocks alone
pub record SamePart (o : Option Part) (p : Part) : Type 0 where
  pub part : Part
  pub is : o ≡ Some part
  pub same : timeless_part p ≡ timeless_part part

same_part : (o : Option Part) (p : Part) → Some (timeless_part p) ≡ option_map timeless_part o → SamePart o p
same_part None p e = absurd cc
same_part (Some q) p e = record { part = q; is = refl; same = ap (λ z. unwrap_or z (timeless_part p)) e }

-- so is each part in a later world
pub part_kept : (w u : World) (o : ObjId) (x : Object) (n : ℕ) (p : Part) → Keeps w u → AreRising w.versions → slice_get w.objects o.0 ≡ Some x → x.version.0 < length w.versions
    → part_at (heritage_of w o) n ≡ Some p → SamePart (part_at (heritage_of u o) n) p
part_kept w u o x n p h r e l at =
    let both : option_map timeless_part (part_at (heritage_of w o) n) ≡ option_map timeless_part (part_at (heritage_of u o) n)
    = sym (part_same (heritage_of w o) n) ∙ ap (λ t. part_at t n) (kept_tree w u o x h r e l) ∙ part_same (heritage_of u o) n in
    same_part (part_at (heritage_of u o) n) p (ap (option_map timeless_part) (sym at) ∙ both)

pub part_later : (w u : World) (o : ObjId) (x : Object) (n : ℕ) (p : Part) → Keeps w u → AreRising w.versions → slice_get w.objects o.0 ≡ Some x → x.version.0 < length w.versions
    → part_at (heritage_of w o) n ≡ Some p → (q : Part) × (part_at (heritage_of u o) n ≡ Some q) × (number_of q.tree ≡ number_of p.tree)
part_later w u o x n p h r e l at =
    let s = part_kept w u o x n p h r e l at in
    (s.part, s.is, sym (number_same s.part.tree) ∙ ap (λ (z : Part). number_of z.tree) (sym s.same) ∙ number_same p.tree)

-- Callers

pub caller_later : (programs : List RawProgram) (w : World) (o : ObjId) (x : Object) (part : ℕ) (code : RawProgram) → AreRising w.versions → slice_get w.objects o.0 ≡ Some x → x.version.0 < length w.versions
    → now.IsCaller programs w o part code → IsCaller programs w o part code
caller_later programs w o x part code r e l who u h =
    let q = part_later w u o x part who.place h r e l who.at in
    record { place = q.0; at = q.1; is = ap (λ (v : ProgId). slice_get programs v.0) q.2 ∙ who.is }

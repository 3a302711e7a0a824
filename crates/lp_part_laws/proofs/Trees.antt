-- The trees of parts are those of their versions.
use Rattle.std.proofs.Common.{◌≡◌, ◌≤◌, ◌<◌, ℕ, zero, suc, arith, refl, sym, ◌∙◌, ap, subst, inl, inr, List, [], ◌∷◌, All, Option, Some, None, unwrap_or}
use Rattle.std.proofs.lemmas.List.Elements.{All-head, All-tail, All-nil}
use Rattle.std.specs.Prelude.{◌+◌, slice_get, option_map}
use Rattle.lp_values.specs.declared.id.ProgId.{ProgId}
use Rattle.lp_language.specs.World.{World, Version, new_world, no_version, version_at}
use Rattle.lp_language.specs.Resolve.{Heritage, Heir, Heritages, NoParent, OneParent, Part, each_heritage, heritage_within, number_of, parents_of, version_of, part_at, parts_from, parents_parts, part_count, variable_count, parent_from}
use Rattle.lp_part_laws.specs.Versions.{AreRising, heritage_in}
use Rattle.lp_part_laws.proofs.Lists.{parted, one_at}

-- the world with these versions alone
abbrev pub bare : List Version → World
bare versions = record (new_world [] 0 0) { versions = versions }

rising_row : (versions : List Version) (v : ProgId) (o : Option Version) → AreRising versions → slice_get versions v.0 ≡ o → All (λ u. u.0 < v.0) (unwrap_or o no_version).parents
rising_row versions v None r e = All-nil (λ u. u.0 < v.0)
rising_row versions v (Some x) r e = r v.0 x e

pub rises : (versions : List Version) (v : ProgId) → AreRising versions → All (λ u. u.0 < v.0) (version_at (bare versions) v).parents
rises versions v r = rising_row versions v (slice_get versions v.0) r refl

each_same : (n : ℕ) (f g : ProgId → Heritage) (vs : List ProgId) → All (λ u. u.0 < n) vs → ((u : ProgId) → u.0 < n → f u ≡ g u) → each_heritage f vs ≡ each_heritage g vs
each_same n f g [] h e = refl
each_same n f g (v ∷ vs) h e =
    ap (λ hs. OneParent (f v) hs) (each_same n f g vs (All-tail (λ u. u.0 < n) v vs h) e)
    ∙ ap (λ x. OneParent x (each_heritage g vs)) (e v (All-head (λ u. u.0 < n) v vs h))

none_lower : (f : ProgId → Heritage) (n : ℕ) (vs : List ProgId) → All (λ u. u.0 < n) vs → n ≤ 0 → each_heritage f vs ≡ NoParent
none_lower f n [] h e = refl
none_lower f n (v ∷ vs) h e = let l : v.0 < n = All-head (λ u. u.0 < n) v vs h in absurd (omega (arith, l, e))

-- any depth that is enough gives one tree
pub one_tree : (versions : List Version) (k m : ℕ) (v : ProgId) → AreRising versions → v.0 ≤ k → v.0 ≤ m → heritage_within k (bare versions) v ≡ heritage_within m (bare versions) v
one_tree versions zero zero v r a b = refl
one_tree versions zero (suc m) v r a b = ap (λ hs. Heir v (version_at (bare versions) v) hs) (sym (none_lower (heritage_within m (bare versions)) v.0 (version_at (bare versions) v).parents (rises versions v r) a))
one_tree versions (suc k) zero v r a b = ap (λ hs. Heir v (version_at (bare versions) v) hs) (none_lower (heritage_within k (bare versions)) v.0 (version_at (bare versions) v).parents (rises versions v r) b)
one_tree versions (suc k) (suc m) v r a b = ap (λ hs. Heir v (version_at (bare versions) v) hs)
    (each_same v.0 (heritage_within k (bare versions)) (heritage_within m (bare versions)) (version_at (bare versions) v).parents (rises versions v r)
    (λ u l. one_tree versions k m u r (omega (arith, l, a)) (omega (arith, l, b))))

-- a part's tree is that of its version, which is no later than that of the whole
pub record IsSettled (versions : List Version) (n : ℕ) (t : Heritage) : Type 0 where
  pub tree : t ≡ heritage_in versions (number_of t)
  pub no_later : (number_of t).0 ≤ n

later : (versions : List Version) (n m : ℕ) (t : Heritage) → n ≤ m → IsSettled versions n t → IsSettled versions m t
later versions n m t l s = record { tree = s.tree; no_later = let i = s.no_later in omega (arith, i, l) }

own_settled : (versions : List Version) (k : ℕ) (v : ProgId) (hs : Heritages) (p : Part) (a b : ℕ) → Heir v (version_at (bare versions) v) hs ≡ heritage_in versions v
    → record { tree = Heir v (version_at (bare versions) v) hs; first = a; base = b } ≡ p → IsSettled versions v.0 p.tree
own_settled versions k v hs p a b e q = subst (λ (x : Part). IsSettled versions v.0 x.tree) q (record { tree = e; no_later = let z : v.0 ≤ v.0 = omega arith in z })

-- the parts of a tree of any depth that is enough
abbrev SettlesAt : List Version → ℕ → Type 0
SettlesAt versions k = (v : ProgId) (a b i : ℕ) (p : Part) → v.0 ≤ k → slice_get (parts_from (heritage_within k (bare versions) v) a b) i ≡ Some p → IsSettled versions v.0 p.tree

settled_before : (versions : List Version) (k n : ℕ) → SettlesAt versions k → (vs : List ProgId) (a b i : ℕ) (p : Part) → n ≤ suc k → All (λ u. u.0 < n) vs
    → slice_get (parents_parts (each_heritage (heritage_within k (bare versions)) vs) a b) i ≡ Some p → IsSettled versions n p.tree
settled_before versions k n ih [] a b i p l h e = absurd cc
settled_before versions k n ih (v ∷ vs) a b i p l h e =
    let t = heritage_within k (bare versions) v in
    let low : v.0 < n = All-head (λ u. u.0 < n) v vs h in
    elim (parted (parts_from t a b) (parents_parts (each_heritage (heritage_within k (bare versions)) vs) (a + part_count t) (b + variable_count t)) i p e) [
      | inl f ↦ later versions v.0 n p.tree (omega (arith, low)) (ih v a b i p (omega (arith, low, l)) f)
      | inr g ↦ settled_before versions k n ih vs (a + part_count t) (b + variable_count t) g.place p l (All-tail (λ u. u.0 < n) v vs h) g.there
    ]

settled : (versions : List Version) (k : ℕ) → AreRising versions → SettlesAt versions k
settled versions zero r v a b i p l e =
    let o = one_at (record { tree = Heir v (version_at (bare versions) v) NoParent; first = a; base = b }) p i e in
    own_settled versions 0 v NoParent p a b (one_tree versions 0 v.0 v r l (let z : v.0 ≤ v.0 = omega arith in z)) o.0
settled versions (suc k) r v a b i p l e =
    elim (parted (parents_parts (each_heritage (heritage_within k (bare versions)) (version_at (bare versions) v).parents) a b) (record { tree = heritage_within (suc k) (bare versions) v; first = a; base = b } ∷ []) i p e) [
      | inl f ↦ settled_before versions k v.0 (settled versions k r) (version_at (bare versions) v).parents a b i p l (rises versions v r) f
      | inr g ↦
          let o = one_at (record { tree = heritage_within (suc k) (bare versions) v; first = a; base = b }) p g.place g.there in
          own_settled versions (suc k) v (each_heritage (heritage_within k (bare versions)) (version_at (bare versions) v).parents) p a b (one_tree versions (suc k) v.0 v r l (let z : v.0 ≤ v.0 = omega arith in z)) o.0
    ]

pub part_settled : (versions : List Version) (v : ProgId) (i : ℕ) (p : Part) → AreRising versions → part_at (heritage_in versions v) i ≡ Some p → IsSettled versions v.0 p.tree
part_settled versions v i p r e = settled versions v.0 r v 0 0 i p (let z : v.0 ≤ v.0 = omega arith in z) e

-- What holds of a version and passes on to the parents of each holds of the versions of all parts.
abbrev KeepsAt : List Version → (ProgId → Type 0) → ℕ → Type 0
KeepsAt versions P k = (v : ProgId) (a b i : ℕ) (p : Part) → P v → slice_get (parts_from (heritage_within k (bare versions) v) a b) i ≡ Some p → P (number_of p.tree)

keeps_before : (versions : List Version) (P : ProgId → Type 0) (k : ℕ) → KeepsAt versions P k → (vs : List ProgId) (a b i : ℕ) (p : Part) → All P vs
    → slice_get (parents_parts (each_heritage (heritage_within k (bare versions)) vs) a b) i ≡ Some p → P (number_of p.tree)
keeps_before versions P k ih [] a b i p h e = absurd cc
keeps_before versions P k ih (v ∷ vs) a b i p h e =
    let t = heritage_within k (bare versions) v in
    elim (parted (parts_from t a b) (parents_parts (each_heritage (heritage_within k (bare versions)) vs) (a + part_count t) (b + variable_count t)) i p e) [
      | inl f ↦ ih v a b i p (All-head P v vs h) f
      | inr g ↦ keeps_before versions P k ih vs (a + part_count t) (b + variable_count t) g.place p (All-tail P v vs h) g.there
    ]

keeps : (versions : List Version) (P : ProgId → Type 0) → ((v : ProgId) → P v → All P (version_at (bare versions) v).parents) → (k : ℕ) → KeepsAt versions P k
keeps versions P pass zero v a b i p h e =
    let o = one_at (record { tree = Heir v (version_at (bare versions) v) NoParent; first = a; base = b }) p i e in
    subst (λ (x : Part). P (number_of x.tree)) o.0 h
keeps versions P pass (suc k) v a b i p h e =
    elim (parted (parents_parts (each_heritage (heritage_within k (bare versions)) (version_at (bare versions) v).parents) a b) (record { tree = heritage_within (suc k) (bare versions) v; first = a; base = b } ∷ []) i p e) [
      | inl f ↦ keeps_before versions P k (keeps versions P pass k) (version_at (bare versions) v).parents a b i p (pass v h) f
      | inr g ↦
          let o = one_at (record { tree = heritage_within (suc k) (bare versions) v; first = a; base = b }) p g.place g.there in
          subst (λ (x : Part). P (number_of x.tree)) o.0 h
    ]

pub part_keeps : (versions : List Version) (P : ProgId → Type 0) → ((v : ProgId) → P v → All P (version_at (bare versions) v).parents) → (v : ProgId) (i : ℕ) (p : Part) → P v → part_at (heritage_in versions v) i ≡ Some p → P (number_of p.tree)
part_keeps versions P pass v i p h e = keeps versions P pass v.0 v 0 0 i p h e

-- Parents by their places.

abbrev pub parts_until : (ProgId → Heritage) → List ProgId → ℕ → ℕ
parts_until f [] j = 0
parts_until f (v ∷ vs) zero = 0
parts_until f (v ∷ vs) (suc j) = part_count (f v) + parts_until f vs j

abbrev pub parent_part : (ProgId → Heritage) → ℕ → ProgId → Part
parent_part f first u = record { tree = f u; first = first; base = 0 }

parent_read : (f : ProgId → Heritage) (vs : List ProgId) (first j : ℕ) → parent_from (each_heritage f vs) first j ≡ option_map (parent_part f (first + parts_until f vs j)) (slice_get vs j)
parent_read f [] first j = refl
parent_read f (v ∷ vs) first zero = let e : first ≡ first + 0 = omega arith in ap (λ z. Some (parent_part f z v)) e
parent_read f (v ∷ vs) first (suc j) =
    let e : (first + part_count (f v)) + parts_until f vs j ≡ first + (part_count (f v) + parts_until f vs j) = omega arith in
    parent_read f vs (first + part_count (f v)) j ∙ ap (λ z. option_map (parent_part f z) (slice_get vs j)) e

until_same : (f g : ProgId → Heritage) (n : ℕ) (vs : List ProgId) (j : ℕ) → All (λ u. u.0 < n) vs → ((u : ProgId) → u.0 < n → f u ≡ g u) → parts_until f vs j ≡ parts_until g vs j
until_same f g n [] j h e = refl
until_same f g n (v ∷ vs) zero h e = refl
until_same f g n (v ∷ vs) (suc j) h e = ap (λ t. part_count t + parts_until f vs j) (e v (All-head (λ u. u.0 < n) v vs h)) ∙ ap (λ z. part_count (g v) + z) (until_same f g n vs j (All-tail (λ u. u.0 < n) v vs h) e)

-- a tree's parents are the trees of the versions of its parents
pub parents_settled : (versions : List Version) (v : ProgId) → AreRising versions → parents_of (heritage_in versions v) ≡ each_heritage (heritage_in versions) (version_at (bare versions) v).parents
parents_settled versions v r = by v.0 (let z : v.0 ≤ v.0 = omega arith in z)
  where
    by : (k : ℕ) → v.0 ≤ k → parents_of (heritage_within k (bare versions) v) ≡ each_heritage (heritage_in versions) (version_at (bare versions) v).parents
    by zero l = sym (none_lower (heritage_in versions) v.0 (version_at (bare versions) v).parents (rises versions v r) l)
    by (suc k) l = each_same v.0 (heritage_within k (bare versions)) (heritage_in versions) (version_at (bare versions) v).parents (rises versions v r)
        (λ u low. one_tree versions k u.0 u r (omega (arith, low, l)) (let z : u.0 ≤ u.0 = omega arith in z))

pub version_settled : (versions : List Version) (v : ProgId) → version_of (heritage_in versions v) ≡ version_at (bare versions) v
version_settled versions v = by v.0
  where
    by : (k : ℕ) → version_of (heritage_within k (bare versions) v) ≡ version_at (bare versions) v
    by zero = refl
    by (suc k) = refl

pub number_settled : (versions : List Version) (v : ProgId) → number_of (heritage_in versions v) ≡ v
number_settled versions v = by v.0
  where
    by : (k : ℕ) → number_of (heritage_within k (bare versions) v) ≡ v
    by zero = refl
    by (suc k) = refl

pub parent_at : (versions : List Version) (v : ProgId) (j : ℕ) → AreRising versions
    → parent_from (parents_of (heritage_in versions v)) 0 j ≡ option_map (parent_part (heritage_in versions) (0 + parts_until (heritage_in versions) (version_at (bare versions) v).parents j)) (slice_get (version_at (bare versions) v).parents j)
parent_at versions v j r = ap (λ hs. parent_from hs 0 j) (parents_settled versions v r) ∙ parent_read (heritage_in versions) (version_at (bare versions) v).parents 0 j

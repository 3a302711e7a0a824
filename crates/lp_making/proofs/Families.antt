-- Trees among versions of which some are as they were, and trees of any depth that is great enough.
use Rattle.std.proofs.Common.{◌≡◌, ◌∙◌, ◌<◌, ◌≤◌, ℕ, zero, suc, All, List, [], ◌∷◌, refl, ap, sym, arith}
use Rattle.std.proofs.lemmas.List.Elements.{All-cons, All-head, All-nil, All-tail}
use Rattle.lp_values.specs.declared.id.ProgId.{ProgId}
use Rattle.lp_language.specs.World.{Version, World, new_world, version_at}
use Rattle.lp_language.specs.Resolve.{Heritage, Heir, NoParent, OneParent, each_heritage, heritage_within}
use Rattle.lp_world.specs.Stands.{heritage_in}

pub each_agrees : (P : ProgId → Type 0) (f g : ProgId → Heritage) → ((v : ProgId) → P v → f v ≡ g v) → (vs : List ProgId) → All P vs → each_heritage f vs ≡ each_heritage g vs
each_agrees P f g e [] a = refl
each_agrees P f g e (v ∷ vs) a =
    ap (λ h. OneParent h (each_heritage f vs)) (e v (All-head P v vs a)) ∙ ap (λ hs. OneParent (g v) hs) (each_agrees P f g e vs (All-tail P v vs a))

-- some versions with all their parents are the same in two worlds: so are their trees
module _ (P : ProgId → Type 0) (w u : World) (same : (v : ProgId) → P v → version_at u v ≡ version_at w v) (down : (v : ProgId) → P v → All P (version_at w v).parents) where
  within_kept : (n : ℕ) (v : ProgId) → P v → heritage_within n u v ≡ heritage_within n w v
  within_kept zero v p = ap (λ x. Heir v x NoParent) (same v p)
  within_kept (suc n) v p =
      ap (λ (x : Version). Heir v x (each_heritage (heritage_within n u) x.parents)) (same v p)
      ∙ ap (λ hs. Heir v (version_at w v) hs) (each_agrees P (heritage_within n u) (heritage_within n w) (within_kept n) (version_at w v).parents (down v p))

pub heritage_kept : (P : ProgId → Type 0) (old new : List Version)
    → ((v : ProgId) → P v → version_at (record (new_world [] 0 0) { versions = new }) v ≡ version_at (record (new_world [] 0 0) { versions = old }) v)
    → ((v : ProgId) → P v → All P (version_at (record (new_world [] 0 0) { versions = old }) v).parents) → (v : ProgId) → P v → heritage_in new v ≡ heritage_in old v
heritage_kept P old new same down v p = within_kept P (record (new_world [] 0 0) { versions = old }) (record (new_world [] 0 0) { versions = new }) same down v.0 v p

none_below : (vs : List ProgId) (n : ℕ) → n ≡ 0 → All (λ (p : ProgId). p.0 < n) vs → vs ≡ []
none_below [] n e a = refl
none_below (v ∷ vs) n e a = let lt : v.0 < n = All-head (λ (p : ProgId). p.0 < n) v vs a in absurd (omega (arith, e, lt))

both : (P : ProgId → Type 0) (b : ℕ) (vs : List ProgId) → All P vs → All (λ (p : ProgId). p.0 < b) vs → All (λ (p : ProgId). P p × (p.0 < b)) vs
both P b [] a l = All-nil (λ (p : ProgId). P p × (p.0 < b))
both P b (v ∷ vs) a l = All-cons (λ (p : ProgId). P p × (p.0 < b)) v vs (All-head P v vs a, All-head (λ (p : ProgId). p.0 < b) v vs l) (both P b vs (All-tail P v vs a) (All-tail (λ (p : ProgId). p.0 < b) v vs l))

-- where each parent has a lower number, no more depth is needed than the number
module _ (P : ProgId → Type 0) (w : World) (down : (v : ProgId) → P v → All P (version_at w v).parents) (lower : (v : ProgId) → P v → All (λ (p : ProgId). p.0 < v.0) (version_at w v).parents) where
  no_parents : (n : ℕ) (v : ProgId) → P v → v.0 ≤ 0 → each_heritage (heritage_within n w) (version_at w v).parents ≡ NoParent
  no_parents n v p l = ap (each_heritage (heritage_within n w)) (none_below (version_at w v).parents v.0 (omega (arith, l)) (lower v p))

  pub depth : (n m : ℕ) (v : ProgId) → P v → v.0 ≤ n → v.0 ≤ m → heritage_within n w v ≡ heritage_within m w v
  depth zero zero v p a b = refl
  depth zero (suc m) v p a b = ap (λ hs. Heir v (version_at w v) hs) (sym (no_parents m v p a))
  depth (suc n) zero v p a b = ap (λ hs. Heir v (version_at w v) hs) (no_parents n v p b)
  depth (suc n) (suc m) v p a b = ap (λ hs. Heir v (version_at w v) hs)
      (each_agrees (λ (u : ProgId). P u × (u.0 < v.0)) (heritage_within n w) (heritage_within m w)
      (λ u q. depth n m u q.0 (below u.0 v.0 n q.1 a) (below u.0 v.0 m q.1 b)) (version_at w v).parents (both P v.0 (version_at w v).parents (down v p) (lower v p)))
    where
      below : (x y k : ℕ) → x < y → y ≤ suc k → x ≤ k
      below x y k s t = omega (arith, s, t)

-- The tree of a version that came behind others.
use Rattle.std.proofs.Common.{◌≡◌, ◌∙◌, ◌<◌, ◌≤◌, ◌++◌, ℕ, zero, suc, All, List, [], ◌∷◌, Some, refl, ap, sym, subst, slice_get, unwrap_or, length, arith}
use Rattle.std.proofs.lemmas.List.Elements.{All-head, All-tail}
use Rattle.lp_values.specs.declared.id.ProgId.{ProgId}
use Rattle.lp_language.specs.World.{Version, World, new_world, no_version, version_at}
use Rattle.lp_language.specs.Resolve.{Heir, Heritage, NoParent, OneParent, each_heritage, heritage_within}
use Rattle.lp_part_laws.specs.Versions.{AreRising, heritage_in}

each_agrees : (P : ProgId → Type 0) (f g : ProgId → Heritage) → ((v : ProgId) → P v → f v ≡ g v) → (vs : List ProgId) → All P vs → each_heritage f vs ≡ each_heritage g vs
each_agrees P f g e [] a = refl
each_agrees P f g e (v ∷ vs) a =
    ap (λ h. OneParent h (each_heritage f vs)) (e v (All-head P v vs a)) ∙ ap (λ hs. OneParent (g v) hs) (each_agrees P f g e vs (All-tail P v vs a))

got : {A : Type 0} (xs : List A) (n : ℕ) → n < length xs → (x : A) × (slice_get xs n ≡ Some x)
got [] n l = absurd (omega (arith, l))
got (x ∷ xs) zero l = (x, refl)
got (x ∷ xs) (suc n) l = got xs n (omega (arith, l))

got_more : {A : Type 0} (xs ys : List A) (n : ℕ) (x : A) → slice_get xs n ≡ Some x → slice_get (xs ++ ys) n ≡ Some x
got_more [] ys n x e = absurd cc
got_more (y ∷ xs) ys zero x e = e
got_more (y ∷ xs) ys (suc n) x e = got_more xs ys n x e

pub got_end : {A : Type 0} (xs : List A) (x : A) → slice_get (xs ++ x ∷ []) (length xs) ≡ Some x
got_end [] x = refl
got_end (y ∷ xs) x = got_end xs x

pub inside : {A : Type 0} (xs : List A) (n : ℕ) (x : A) → slice_get xs n ≡ Some x → n < length xs
inside [] n x e = absurd cc
inside (y ∷ xs) zero x e = omega arith
inside (y ∷ xs) (suc n) x e = let i = inside xs n x e in omega (arith, i)

none_below : (vs : List ProgId) (n : ℕ) → n ≡ 0 → All (λ (p : ProgId). p.0 < n) vs → vs ≡ []
none_below [] n e a = refl
none_below (v ∷ vs) n e a = let lt : v.0 < n = All-head (λ (p : ProgId). p.0 < n) v vs a in absurd (omega (arith, e, lt))

module _ (versions : List Version) (rising : AreRising versions) where
  abbrev world : World
  world = record (new_world [] 0 0) { versions = versions }

  -- the parents of a version that is there have lower numbers, and so they are there too
  lower : (v : ProgId) → v.0 < length versions → All (λ (p : ProgId). p.0 < v.0) (version_at world v).parents
  lower v l = let g = got versions v.0 l in subst (λ (x : Version). All (λ (p : ProgId). p.0 < v.0) x.parents) (ap (λ o. unwrap_or o no_version) (sym g.1)) (rising v.0 g.0 g.1)

  -- no more depth is needed than the number
  pub depth : (n m : ℕ) (v : ProgId) → v.0 < length versions → v.0 ≤ n → v.0 ≤ m → heritage_within n world v ≡ heritage_within m world v
  depth zero zero v l a b = refl
  depth zero (suc m) v l a b = ap (λ hs. Heir v (version_at world v) hs) (sym (ap (each_heritage (heritage_within m world)) (none_below (version_at world v).parents v.0 (omega (arith, a)) (lower v l))))
  depth (suc n) zero v l a b = ap (λ hs. Heir v (version_at world v) hs) (ap (each_heritage (heritage_within n world)) (none_below (version_at world v).parents v.0 (omega (arith, b)) (lower v l)))
  depth (suc n) (suc m) v l a b = ap (λ hs. Heir v (version_at world v) hs)
      (each_agrees (λ (u : ProgId). u.0 < v.0) (heritage_within n world) (heritage_within m world)
      (λ u q. depth n m u (omega (arith, q, l)) (omega (arith, q, a)) (omega (arith, q, b))) (version_at world v).parents (lower v l))

  module _ (new : Version) where
    abbrev more : List Version
    more = versions ++ new ∷ []

    abbrev wider : World
    wider = record (new_world [] 0 0) { versions = more }

    same : (v : ProgId) → v.0 < length versions → version_at wider v ≡ version_at world v
    same v l = let g = got versions v.0 l in ap (λ o. unwrap_or o no_version) (got_more versions (new ∷ []) v.0 g.0 g.1 ∙ sym g.1)

    within_kept : (n : ℕ) (v : ProgId) → v.0 < length versions → heritage_within n wider v ≡ heritage_within n world v
    within_kept zero v l = ap (λ x. Heir v x NoParent) (same v l)
    within_kept (suc n) v l =
        ap (λ (x : Version). Heir v x (each_heritage (heritage_within n wider) x.parents)) (same v l)
        ∙ ap (λ hs. Heir v (version_at world v) hs) (each_agrees (λ (u : ProgId). u.0 < v.0) (heritage_within n wider) (heritage_within n world) (λ u q. within_kept n u (omega (arith, q, l))) (version_at world v).parents (lower v l))

    pub kept : (v : ProgId) → v.0 < length versions → heritage_in more v ≡ heritage_in versions v
    kept v l = within_kept v.0 v l

    new_at : (own : ProgId) → own.0 ≡ length versions → version_at wider own ≡ new
    new_at own e = ap (λ n. unwrap_or (slice_get more n) no_version) e ∙ ap (λ o. unwrap_or o no_version) (got_end versions new)

    -- the tree of the new version, over those of its parents
    within_new : (n : ℕ) (own : ProgId) → n ≡ length versions → own.0 ≡ length versions → All (λ (u : ProgId). u.0 < length versions) new.parents
        → heritage_within n wider own ≡ Heir own new (each_heritage (heritage_in versions) new.parents)
    within_new zero own d e a =
        ap (λ x. Heir own x NoParent) (new_at own e) ∙ ap (λ hs. Heir own new hs) (sym (ap (each_heritage (heritage_in versions)) (none_below new.parents (length versions) (sym d) a)))
    within_new (suc n) own d e a =
        ap (λ (x : Version). Heir own x (each_heritage (heritage_within n wider) x.parents)) (new_at own e)
        ∙ ap (λ hs. Heir own new hs) (each_agrees (λ (u : ProgId). u.0 < length versions) (heritage_within n wider) (heritage_in versions)
        (λ u l. within_kept n u l ∙ depth n u.0 u l (omega (arith, d, l)) (omega arith)) new.parents a)

    pub tree_of_new : (own : ProgId) → own.0 ≡ length versions → All (λ (u : ProgId). u.0 < length versions) new.parents → heritage_in more own ≡ Heir own new (each_heritage (heritage_in versions) new.parents)
    tree_of_new own e a = within_new own.0 own e e a

-- What a version's tree and the kept versions are told by.
use Rattle.std.proofs.Common.{◌≡◌, ◌∙◌, ℕ, zero, suc, List, [], ◌∷◌, refl, ap}
use Rattle.lp_values.specs.declared.id.ProgId.{ProgId}
use Rattle.lp_language.specs.World.{World, new_world, version_at}
use Rattle.lp_language.specs.Resolve.{Heritage, Heir, OneParent, each_heritage, heritage_within}
use Rattle.lp_meaning.specs.IdleAndKept.{IsKept, by_child, by_object}
use Rattle.lp_world.specs.Bare.{TheSameHeritage, TheSameKept}

each_same : (f g : ProgId → Heritage) → ((v : ProgId) → f v ≡ g v) → (vs : List ProgId) → each_heritage f vs ≡ each_heritage g vs
each_same f g e [] = refl
each_same f g e (v ∷ vs) = ap (λ hs. OneParent (f v) hs) (each_same f g e vs) ∙ ap (λ h. OneParent h (each_heritage g vs)) (e v)

within_same : (n : ℕ) (w : World) (v : ProgId) → heritage_within n w v ≡ heritage_within n (record (new_world [] 0 0) { versions = w.versions }) v
within_same zero w v = refl
within_same (suc n) w v =
    ap (λ hs. Heir v (version_at w v) hs)
    (each_same (heritage_within n w) (heritage_within n (record (new_world [] 0 0) { versions = w.versions })) (λ u. within_same n w u) (version_at w v).parents)

pub heritage_same : TheSameHeritage
heritage_same w v = within_same v.0 w v

kept_there : (w : World) (v : ProgId) → IsKept w v → IsKept (record (new_world [] 0 0) { objects = w.objects; versions = w.versions }) v
kept_there w _ (by_object n x e l) = by_object n x e l
kept_there w _ (by_child v p k c) = by_child v p (kept_there w v k) c

kept_here : (w : World) (v : ProgId) → IsKept (record (new_world [] 0 0) { objects = w.objects; versions = w.versions }) v → IsKept w v
kept_here w _ (by_object n x e l) = by_object n x e l
kept_here w _ (by_child v p k c) = by_child v p (kept_here w v k) c

pub kept_same : TheSameKept
kept_same w v = (kept_there w v, kept_here w v)

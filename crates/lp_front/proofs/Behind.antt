-- Versions of parents, one after another.
use Rattle.std.proofs.Common.{◌≡◌, ◌<◌, ◌+◌, ◌∙◌, ℕ, List, [], ◌∷◌, ◌++◌, Option, Some, None, refl, ap, length, take, get_or}
use Rattle.std.proofs.lemmas.List.{take_more}
use Rattle.lp_values.specs.declared.id.ProgId.{ProgId}
use Rattle.lp_code.specs.declared.tables.Tables.{Tables}
use Rattle.lp_front.specs.Settling.{own_version, with_version, versions_of}

before : (o : Option ProgId) (xs ys : List ProgId) → with_version o (xs ++ ys) ≡ with_version o xs ++ ys
before None xs ys = refl
before (Some v) xs ys = refl

versions_behind : (ts : List Tables) (t : Tables) → versions_of (ts ++ t ∷ []) ≡ versions_of ts ++ with_version (own_version t) []
versions_behind [] t = refl
versions_behind (u ∷ ts) t = ap (with_version (own_version u)) (versions_behind ts t) ∙ before (own_version u) (versions_of ts) (with_version (own_version t) [])

-- one parent more
pub one_parent_more : (ts : List Tables) (i : ℕ) (t : Tables) → i < length ts → versions_of (take (i + 1) ts) ≡ versions_of (take i ts) ++ with_version (own_version (get_or ts i t)) []
one_parent_more ts i t h = ap versions_of (take_more ts i t h) ∙ versions_behind (take i ts) (get_or ts i t)

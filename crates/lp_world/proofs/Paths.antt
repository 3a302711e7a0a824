-- The paths of versions.
use Rattle.std.proofs.Common.{◌≡◌, ◌∙◌, Option, Some, None, ap, sym, subst, slice_get, unwrap_or}
use Rattle.lp_values.specs.declared.id.ProgId.{ProgId}
use Rattle.lp_language.specs.World as world
use Rattle.lp_language.specs.World.{no_object, no_version, object_at, version_at}
use Rattle.lp_world.specs.Laws.{ObjectsHavePaths, VersionsHavePaths}
use Rattle.lp_world.specs.Rows.{version_path}
use Rattle.lp_world.specs.Stands.{ObjectIs}
use Rattle.lp_world.proofs.Keeping.{object_behind}

found_row : {A : Type 0} (o : Option (Option A)) (x : A) → unwrap_or o None ≡ Some x → o ≡ Some (Some x)
found_row None x e = cc
found_row (Some y) x e = ap (λ z. Some z) e

pub path_of_version : VersionsHavePaths
path_of_version told programs live w p v h e =
    let is = h.versions.each p.0 v (found_row (slice_get live.versions p.0) v e) in
    is.path ∙ ap (λ (o : Option world.Version). (unwrap_or o no_version).path) (sym is.there)

pub path_of_object : ObjectsHavePaths
path_of_object told programs live w o row h c e =
    let r = found_row (slice_get live.objects o.0) row e in
    let b = object_behind told live.cells w.cells o.0 row (slice_get w.objects o.0) (subst (λ q. ObjectIs told live.cells w.cells o.0 q (slice_get w.objects o.0)) r (h.objects o.0)) in
    let closed = c.objects o.0 row r in
    let at : object_at w o ≡ b.0 = ap (λ q. unwrap_or q no_object) b.1 in
    ap version_path closed.there ∙ ap (λ t. Some t) (path_of_version told programs live w row.program closed.version h closed.there)
    ∙ ap (λ (p : ProgId). Some (version_at w p).path) (b.2.version ∙ ap (λ (x : world.Object). x.version) (sym at))

-- What an entry leaves as it was.
use Rattle.std.proofs.Common.{◌≡◌, ◌∙◌, ℕ, zero, suc, arith, List, [], ◌∷◌, Option, Some, None, true, refl, ap, subst, slice_get, unwrap_or}
use Rattle.std.specs.Prelude.{slice_set}
use Rattle.std.proofs.lemmas.List.Elements.{All-weaker}
use Rattle.lp_values.specs.declared.id.ObjId.{ObjId}
use Rattle.lp_values.specs.declared.id.ProgId.{ProgId}
use Rattle.lp_code.specs.declared.program.RawProgram.{RawProgram}
use Rattle.lp_places.specs.Places.{Shadowing}
use Rattle.lp_swapfile.specs.Device.{Bytes}
use Rattle.lp_language.specs.World as world
use Rattle.lp_language.specs.World.{IsSameObject, Keeps, World, is_live, no_object}
use Rattle.lp_language.proofs.Kept.{keeps_trans, same_object}
use Rattle.lp_meaning.specs.WorldSteps.{entered}
use Rattle.lp_world.specs.declared.live.Live.{Live}
use Rattle.lp_world.specs.declared.objects.Object.{Object}
use Rattle.lp_world.specs.Rows.{object_aged, row_at, variables_at, variables_in}
use Rattle.lp_part_laws.proofs.Latest.{stay_compiled}
use Rattle.lp_part_laws.proofs.Lists.{is_below, there_below}
use Rattle.lp_making.specs.Entries.{StandsEntered, entry_counted}
use Rattle.lp_making.proofs.Counted.{entry_versions}
use Rattle.lp_targets.specs.Callees.{IsWorldOf}
use Rattle.lp_reaching.specs.Reaching.{HasSameVariables, Marks}

-- in the world as many objects live

aged_live : (xs : List world.Object) (i time n : ℕ) → (unwrap_or (slice_get (slice_set xs i (record (unwrap_or (slice_get xs i) no_object) { latest = time })) n) no_object).is_live ≡ (unwrap_or (slice_get xs n) no_object).is_live
aged_live [] i time n = refl
aged_live (x ∷ xs) zero time zero = refl
aged_live (x ∷ xs) zero time (suc n) = refl
aged_live (x ∷ xs) (suc i) time zero = refl
aged_live (x ∷ xs) (suc i) time (suc n) = aged_live xs i time n

live_still : (w : World) (o : ObjId) (p : ProgId) (q : ObjId) → is_live (entered w o p) q ≡ is_live w q
live_still w o p q = aged_live w.objects o.0 w.clock q.0

-- nothing is removed

aged_object : (xs : List world.Object) (i time n : ℕ) (x : world.Object) → slice_get xs n ≡ Some x
    → (y : world.Object) × (slice_get (slice_set xs i (record (unwrap_or (slice_get xs i) no_object) { latest = time })) n ≡ Some y) × IsSameObject x y
aged_object [] i time n x e = absurd cc
aged_object (z ∷ xs) zero time zero x e =
    let is : z ≡ x = ap (λ o. unwrap_or o z) e in
    (record z { latest = time }, refl, subst (λ v. IsSameObject v (record z { latest = time })) is (record { name = refl; version = refl }))
aged_object (z ∷ xs) zero time (suc n) x e = (x, e, same_object x)
aged_object (z ∷ xs) (suc i) time zero x e = (x, e, same_object x)
aged_object (z ∷ xs) (suc i) time (suc n) x e = aged_object xs i time n x e

keeps_entered : (w : World) (o : ObjId) (p : ProgId) → Keeps w (entered w o p)
keeps_entered w o p = record {
  versions = λ n v e.
      let s = entry_versions w o p in
      let low = is_below w.versions n v e in
      let count = s.count in
      let u = there_below (entered w o p).versions n (omega (arith, low, count)) in
      (u.0, u.1, s.each n v u.0 e u.1);
  objects = λ n x e. aged_object w.objects o.0 w.clock n x e;
  cells = λ v h. h;
  no_fewer = omega arith;
}

pub marks : (told : Option Bytes) (programs : List RawProgram) (old new : Live) (w : World) (o : ObjId) (p : ProgId) → StandsEntered old new o p → IsWorldOf told programs old w → Marks told programs new w (entered w o p)
marks told programs old new w o p s h = record {
  world = record {
    stands = s told programs w h.stands;
    compiled = stay_compiled programs w.versions (entered w o p).versions h.compiled (entry_versions w o p);
    shadows = All-weaker (λ (x : Shadowing). is_live w x.shadow ≡ true) (λ (x : Shadowing). is_live (entered w o p) x.shadow ≡ true) (λ x l. live_still w o p x.shadow ∙ l) w.shadows h.shadows;
  };
  callers = λ this part code k u keeps. k u (keeps_trans w (entered w o p) u (keeps_entered w o p) keeps);
}

-- in the state each object has its variables

aged_row : (time : ℕ) (r : Option Object) → variables_in (object_aged time r) ≡ variables_in r
aged_row time None = refl
aged_row time (Some x) = refl

aged_variables : (rows : List (Option Object)) (i time n : ℕ) → variables_in (row_at (slice_set rows i (object_aged time (row_at rows i))) n) ≡ variables_in (row_at rows n)
aged_variables [] i time n = refl
aged_variables (r ∷ rows) zero time zero = aged_row time r
aged_variables (r ∷ rows) zero time (suc n) = refl
aged_variables (r ∷ rows) (suc i) time zero = refl
aged_variables (r ∷ rows) (suc i) time (suc n) = aged_variables rows i time n

pub same_variables : (old new : Live) (o : ObjId) (p : ProgId) → new ≡ entry_counted old o p → HasSameVariables old.objects new.objects
same_variables old new o p e q = ap (λ (l : Live). variables_at l.objects q) e ∙ aged_variables old.objects o.0 old.clock q.0

-- What is carried from one world to a later one.
use Rattle.std.proofs.Common.{◌≡◌, ◌∙◌, ℕ, zero, suc, List, [], ◌∷◌, Option, Some, None, All, true, refl, ap, sym, subst, length, slice_get, unwrap_or, IsSome, arith}
use Rattle.std.proofs.lemmas.List.Elements.{All-weaker}
use Rattle.lp_values.specs.declared.id.ObjId.{ObjId}
use Rattle.lp_values.specs.declared.id.ProgId.{ProgId}
use Rattle.lp_values.specs.declared.value.Value.{Value}
use Rattle.lp_cells.specs.Cells.{Store}
use Rattle.lp_code.specs.declared.program.RawProgram.{RawProgram}
use Rattle.lp_places.specs.Places.{Shadowing}
use Rattle.lp_swapfile.specs.Device.{Bytes}
use Rattle.lp_language.specs.World as world
use Rattle.lp_language.specs.World.{Keeps, World, is_live, no_object, no_version, object_at, version_at}
use Rattle.lp_language.proofs.Kept.{keeps_trans}
use Rattle.lp_world.specs.declared.live.Live.{Live}
use Rattle.lp_world.specs.declared.objects.Object.{Object}
use Rattle.lp_world.specs.Rows.{variables_at, variables_in}
use Rattle.lp_world.specs.Stands.{ObjectIs, Stands}
use Rattle.lp_step.specs.Steps.{KeepsVariables}
use Rattle.lp_step_laws.specs.Running.{HasVariables}
use Rattle.lp_run.specs.Kept.{IsStill}
use Rattle.lp_part_laws.specs.Versions.{AreCompiled}
use Rattle.lp_settling.specs.Settling.{Settles}
use Rattle.lp_targets.specs.Callees.{IsWorldOf}
use Rattle.lp_reaching.specs.Compiled.{IsCaller}

-- Lists

pub some_at : {A : Type 0} (o : Option A) → IsSome o → (x : A) × (o ≡ Some x)
some_at None i = absurd cc
some_at (Some x) i = (x, refl)

pub as_many_there : {A B : Type 0} (xs : List A) (ys : List B) (n : ℕ) (x : A) → length xs ≡ length ys → slice_get xs n ≡ Some x → IsSome (slice_get ys n)
as_many_there [] ys n x l e = cc
as_many_there (x ∷ xs) [] n z l e = absurd (omega (arith, l))
as_many_there (x ∷ xs) (y ∷ ys) zero z l e = refl
as_many_there (x ∷ xs) (y ∷ ys) (suc n) z l e = as_many_there xs ys n z (omega (arith, l)) e

-- Objects

row_object : (told : Option Bytes) (part whole : Store) (n k : ℕ) (r : Option (Option Object)) (x : Option world.Object) → ObjectIs told part whole n r x → HasVariables (variables_in (unwrap_or r None)) k → IsSome x
row_object told part whole n k None x h v = absurd v
row_object told part whole n k (Some None) x h v = absurd v
row_object told part whole n k (Some (Some o)) None h v = absurd h
row_object told part whole n k (Some (Some o)) (Some x) h v = refl

-- an object in memory is there in the world
pub object_there : (told : Option Bytes) (programs : List RawProgram) (live : Live) (w : World) (o : ObjId) (k : ℕ) → Stands told programs live w → HasVariables (variables_at live.objects o) k → IsSome (slice_get w.objects o.0)
object_there told programs live w o k h v = row_object told live.cells w.cells o.0 k (slice_get live.objects o.0) (slice_get w.objects o.0) (h.objects o.0) v

pub still_home : (old new : List (Option Object)) (o : ObjId) (k : ℕ) → KeepsVariables old new → HasVariables (variables_at old o) k → HasVariables (variables_at new o) k
still_home old new o k keeps h = by (variables_at old o) refl h
  where
    by : (vs : Option (List Value)) → variables_at old o ≡ vs → HasVariables vs k → HasVariables (variables_at new o) k
    by None e h = absurd h
    by (Some vs) e h = let t = keeps o vs e in subst (λ x. HasVariables x k) (sym t.1) (omega (arith, t.2, h))

-- names and paths stay
pub name_stays : (u w : World) (o : ObjId) → Keeps u w → IsSome (slice_get u.objects o.0) → (object_at w o).name ≡ (object_at u o).name
name_stays u w o k there =
    let x = some_at (slice_get u.objects o.0) there in
    let y = k.objects o.0 x.0 x.1 in
    ap (λ z. (unwrap_or z no_object).name) y.1 ∙ y.2.name ∙ sym (ap (λ z. (unwrap_or z no_object).name) x.1)

pub path_stays : (u w : World) (v : ProgId) → Keeps u w → IsSome (slice_get u.versions v.0) → (version_at w v).path ≡ (version_at u v).path
path_stays u w v k there =
    let x = some_at (slice_get u.versions v.0) there in
    let y = k.versions v.0 x.0 x.1 in
    ap (λ z. (unwrap_or z no_version).path) y.1 ∙ y.2.path ∙ sym (ap (λ z. (unwrap_or z no_version).path) x.1)

-- Worlds

-- who calls calls still
pub caller_later : (programs : List RawProgram) (u w : World) (this : ObjId) (part : ℕ) (code : RawProgram) → Keeps u w → IsCaller programs u this part code → IsCaller programs w this part code
caller_later programs u w this part code k h = λ v keeps. h v (keeps_trans u w v k keeps)

-- versions and shadows are as they were
pub compiled_still : (programs : List RawProgram) (u w : World) → IsStill u w → AreCompiled programs u.versions → AreCompiled programs w.versions
compiled_still programs u w s h = subst (AreCompiled programs) (sym s.versions) h

all_mapped : {A : Type 0} (P Q : A → Type 0) (xs : List A) → ((x : A) → P x → Q x) → All P xs → All Q xs
all_mapped P Q xs f h = All-weaker P Q f xs h

pub shadows_still : (u w : World) → IsStill u w → All (λ (s : Shadowing). is_live u s.shadow ≡ true) u.shadows → All (λ (s : Shadowing). is_live w s.shadow ≡ true) w.shadows
shadows_still u w s h =
    subst (All (λ (x : Shadowing). is_live w x.shadow ≡ true)) (sym s.shadows) (all_mapped (λ (x : Shadowing). is_live u x.shadow ≡ true) (λ (x : Shadowing). is_live w x.shadow ≡ true) u.shadows (λ x l. s.lives x.shadow ∙ l) h)

-- what efuns keep
pub world_settled : (told : Option Bytes) (programs : List RawProgram) (live0 live1 : Live) (u w : World) → IsWorldOf told programs live0 u → Stands told programs live1 w → Settles u w → IsWorldOf told programs live1 w
world_settled told programs live0 live1 u w h stands s = record { stands = stands; compiled = subst (AreCompiled programs) (sym s.versions) h.compiled; shadows = s.shadows h.shadows }

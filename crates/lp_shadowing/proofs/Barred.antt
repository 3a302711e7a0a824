-- What stands in the way of a shadow, by the programs in memory.
use Rattle.std.proofs.Common.{◌≡◌, ◌∙◌, ◌||◌, ℕ, zero, suc, Bool, true, false, not, List, Option, Some, IsSome, refl, ap, sym}
use Rattle.lp_values.specs.declared.id.ObjId.{ObjId}
use Rattle.lp_values.specs.declared.id.ProgId.{ProgId}
use Rattle.lp_code.specs.declared.program.RawProgram.{RawProgram}
use Rattle.lp_swapfile.specs.Device.{Bytes}
use Rattle.lp_language.specs.World.{World, version_at}
use Rattle.lp_language.specs.Resolve.{Heritage, heritage_of, heritage_within, version_of}
use Rattle.lp_meaning.specs.CallingEfuns.{masks, may_begin}
use Rattle.lp_meaning.specs.WorldSteps.{version_of_object}
use Rattle.lp_masking.specs.Masks.{is_forbidden_in}
use Rattle.lp_part_laws.specs.Versions.{FitsVersion}
use Rattle.lp_world.specs.declared.live.Live.{Live}
use Rattle.lp_world.specs.declared.objects.Object.{Object}
use Rattle.lp_world.specs.Rows.{row_at}
use Rattle.lp_world.specs.Stands.{Stands}
use Rattle.lp_targets.specs.Brought.{program_at}
use Rattle.lp_targets.proofs.Memory.{some_row}
use Rattle.lp_targets.proofs.Worlds.{whole_fits}
use Rattle.lp_shadowing.specs.Shadowing.{IsBarred, IsForbidden, StandsOver}

-- the version of an inheritance tree
tree_version : (n : ℕ) (w : World) (v : ProgId) → version_of (heritage_within n w v) ≡ version_at w v
tree_version zero w v = refl
tree_version (suc n) w v = refl

object_version : (w : World) (o : ObjId) → version_of (heritage_of w o) ≡ version_of_object w o
object_version w o = tree_version _ w _

-- what a test of the programs of two objects tells
pub tested : (b : Bool) (live : Live) (this o : ObjId) (victim own : RawProgram) → IsSome (row_at live.objects this.0) → IsSome (row_at live.objects o.0)
    → ((x : Object) → row_at live.objects o.0 ≡ Some x → Some victim ≡ program_at live.versions x.program) → ((x : Object) → row_at live.objects this.0 ≡ Some x → Some own ≡ program_at live.versions x.program)
    → ((h k : Heritage) → FitsVersion h victim → FitsVersion k own → b ≡ is_forbidden_in h k) → (told : Option Bytes) → IsForbidden b told live this o
tested b live this o victim own ht ho pv po f told programs w h =
    let x = some_row (row_at live.objects o.0) ho in
    let y = some_row (row_at live.objects this.0) ht in
    let fv : FitsVersion (heritage_of w o) victim = whole_fits told programs live w o x.0 x.0.program victim h x.1 refl (sym (pv x.0 x.1)) in
    let fo : FitsVersion (heritage_of w this) own = whole_fits told programs live w this y.0 y.0.program own h y.1 refl (sym (po y.0 y.1)) in
    f (heritage_of w o) (heritage_of w this) fv fo ∙ ap (λ v. masks w this o || v.pragmas.no_shadow) (object_version w o)

-- the same for the state before things came into memory
pub forbidden_before : (b : Bool) (told0 told1 : Option Bytes) (live0 live1 : Live) (this o : ObjId) → StandsOver told0 live0 told1 live1 → IsForbidden b told1 live1 this o → IsForbidden b told0 live0 this o
forbidden_before b told0 told1 live0 live1 this o s f programs w h = f programs w (record { stands = s programs w h.stands; compiled = h.compiled; shadows = h.shadows })

-- places and chains do not allow it
pub barred_so : (told : Option Bytes) (live : Live) (this o : ObjId) (may : Bool) → ((told : Option Bytes) (programs : List RawProgram) (w : World) → Stands told programs live w → may ≡ may_begin w this o) → may ≡ false → IsBarred true told live this o
barred_so told live this o may f e programs w h = ap (λ x. not x || masks w this o || (version_of_object w o).pragmas.no_shadow) (sym e ∙ f told programs w h.stands)

-- or they do
pub barred_by : (told : Option Bytes) (live : Live) (this o : ObjId) (may b : Bool) → ((told : Option Bytes) (programs : List RawProgram) (w : World) → Stands told programs live w → may ≡ may_begin w this o) → may ≡ true
    → IsForbidden b told live this o → IsBarred b told live this o
barred_by told live this o may b f e k programs w h =
    k programs w h ∙ ap (λ x. not x || masks w this o || (version_of_object w o).pragmas.no_shadow) (sym e ∙ f told programs w h.stands)

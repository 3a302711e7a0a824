-- What a look-up of a function tells of the program in whose text it stands.
use Rattle.std.proofs.Common.{◌≡◌, ◌∙◌, ℕ, zero, suc, pos, Bool, true, false, List, [], Option, Some, None, refl, ap, sym, unwrap_or, is_some, if◌then◌else◌}
use Rattle.std.specs.Prelude.{IsAscii}
use Rattle.lp_values.specs.declared.id.ObjId.{ObjId}
use Rattle.lp_values.specs.declared.id.ProgId.{ProgId}
use Rattle.lp_values.specs.declared.value.Value.{Value}
use Rattle.lp_values.specs.declared.value.Value.TheVariants as values
use Rattle.lp_code.specs.declared.program.RawProgram.{RawProgram}
use Rattle.lp_swapfile.specs.Device.{Bytes}
use Rattle.lp_ops.specs.declared.effect.Effect.TheVariants.{Gives as GivesValue}
use Rattle.lp_language.specs.World.{World, object_at, version_at}
use Rattle.lp_language.specs.Resolve.{Found, Part, function_of, heritage_within, is_private, number_of, part_at, resolve, shown, version_of, without_c}
use Rattle.lp_meaning.specs.WorldEfuns.{function_program, program_of}
use Rattle.lp_part_laws.proofs.Spelled.{names_are_spelled}
use Rattle.lp_part_laws.proofs.Trees.{part_settled}
use Rattle.lp_part_laws.specs.Versions.{heritage_in}
use Rattle.lp_frames.specs.declared.entry.Callee.{Callee}
use Rattle.lp_world.specs.declared.live.Live.{Live}
use Rattle.lp_world.specs.declared.versions.Version.{Version}
use Rattle.lp_world.specs.Rows.{row_at, version_path}
use Rattle.lp_world.proofs.BareWorlds.{heritage_same}
use Rattle.lp_world.proofs.Paths.{path_of_version}
use Rattle.lp_targets.specs.Callees.{IsAnswer, IsCallee, IsWorldOf}
use Rattle.lp_object_efuns.specs.Exists.{IsProgramValue}

version_within : (k : ℕ) (w : World) (v : ProgId) → version_of (heritage_within k w v) ≡ version_at w v
version_within zero w v = refl
version_within (suc k) w v = refl

path_row : (o : Option Version) (t : List ℕ) → version_path o ≡ Some t → (v : Version) × (o ≡ Some v) × (v.path ≡ t)
path_row None t e = cc
path_row (Some v) t e = (v, refl, ap (λ o. unwrap_or o v.path) e)

-- the path of a callee's version is that of the program in whose text the function stands
callee_path : (told : Option Bytes) (programs : List RawProgram) (live : Live) (w : World) (callee : Callee) (o : ObjId) (f : Found) (t : List ℕ)
    → IsWorldOf told programs live w → IsCallee programs w callee o f → version_path (row_at live.versions callee.program.0) ≡ Some t → program_of w o f ≡ without_c t
callee_path told programs live w callee o f t h c e =
    let r = path_row (row_at live.versions callee.program.0) t e in
    let path : r.0.path ≡ (version_at w callee.program).path = path_of_version told programs live w callee.program r.0 h.stands r.1 in
    let at : part_at (heritage_in w.versions (object_at w o).version) f.part ≡ Some c.place = ap (λ z. part_at z f.part) (sym (heritage_same w (object_at w o).version)) ∙ c.at in
    let tree = (part_settled w.versions (object_at w o).version f.part c.place h.compiled.rising at).tree in
    let version : version_of c.place.tree ≡ version_at w (number_of c.place.tree) = ap version_of (tree ∙ sym (heritage_same w (number_of c.place.tree))) ∙ version_within (number_of c.place.tree).0 w (number_of c.place.tree) in
    ap (λ (x : Option Part). elim x [ Some p ↦ without_c (version_of p.tree).path | None ↦ [] ]) c.at
    ∙ ap (λ v. without_c v.path) version
    ∙ ap (λ n. without_c (version_at w n).path) (sym c.program)
    ∙ ap without_c (sym path ∙ r.2)

-- so the value is the one that the efun gives
pub told_program : (told : Option Bytes) (programs : List RawProgram) (live : Live) (w : World) (o : ObjId) (callee : Option Callee) (x : Option Found) (v : Value)
    → IsWorldOf told programs live w → IsAnswer programs w o callee (shown x) → IsProgramValue live callee v → function_program w o x ≡ GivesValue v
told_program told programs live w o None None v h a p = ap GivesValue (sym p)
told_program told programs live w o (Some c) None v h a p = absurd a
told_program told programs live w o callee (Some f) v h a p = by (is_private f.function.modifiers) callee a p
  where
    by : (b : Bool) (callee : Option Callee) → IsAnswer programs w o callee (if b then None else Some f) → IsProgramValue live callee v → (if b then GivesValue (values.Int (pos 0)) else GivesValue (values.Str (program_of w o f))) ≡ GivesValue v
    by true None a p = ap GivesValue (sym p)
    by true (Some c) a p = absurd a
    by false None a p = absurd a
    by false (Some c) a p = ap (λ t. GivesValue (values.Str t)) (callee_path told programs live w c o f p.0 h a p.1) ∙ ap GivesValue (sym p.2)

-- a text that is not of ASCII is the name of no function, ..
pub nothing_found : (told : Option Bytes) (programs : List RawProgram) (live : Live) (w : World) (o : ObjId) (name : List ℕ) → IsWorldOf told programs live w → (IsAscii name → ⊥) → function_of w o name ≡ None
nothing_found told programs live w o name h foreign = by (function_of w o name) refl
  where
    by : (x : Option Found) → function_of w o name ≡ x → x ≡ None
    by None e = refl
    by (Some f) e = absurd (foreign (names_are_spelled programs w.versions (object_at w o).version name f h.compiled (ap (λ z. resolve z name) (sym (heritage_same w (object_at w o).version)) ∙ e)))

-- .. and stands in no program
pub nothing_named : (told : Option Bytes) (programs : List RawProgram) (live : Live) (w : World) (o : ObjId) (name : List ℕ) → IsWorldOf told programs live w → (IsAscii name → ⊥) → function_program w o (function_of w o name) ≡ GivesValue (values.Int (pos 0))
nothing_named told programs live w o name h foreign = ap (function_program w o) (nothing_found told programs live w o name h foreign)

-- whether a function was found
pub function_asked : (programs : List RawProgram) (w : World) (o : ObjId) (callee : Option Callee) (x : Option Found) (b : Bool) → b ≡ is_some callee → IsAnswer programs w o callee x → is_some x ≡ b
function_asked programs w o None None b e h = sym e
function_asked programs w o (Some c) (Some f) b e h = sym e
function_asked programs w o None (Some f) b e h = absurd h
function_asked programs w o (Some c) None b e h = absurd h

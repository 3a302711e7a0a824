-- Where a function was running, by numbers and by names.
use Rattle.std.proofs.Common.{◌≡◌, ◌∙◌, ◌++◌, ◌||◌, ℕ, zero, suc, Bool, true, false, List, [], ◌∷◌, Option, Some, None, refl, ap, sym, codes, map, option_map, slice_get, unwrap_or, append_assoc, if◌then◌else◌}
use Rattle.std.proofs.lemmas.List.{append-nil}
use Rattle.lp_values.specs.declared.id.ObjId.{ObjId}
use Rattle.lp_values.specs.declared.id.ProgId.{ProgId}
use Rattle.lp_code.specs.declared.program.RawProgram.{RawProgram}
use Rattle.lp_events.specs.declared.out.Out.TheVariants as outs
use Rattle.lp_objects.specs.Objects.{Named}
use Rattle.lp_objects.specs.Stands as names
use Rattle.lp_swapfile.specs.Device.{Bytes}
use Rattle.lp_language.specs.Course as course
use Rattle.lp_language.specs.Resolve.{without_c}
use Rattle.lp_language.specs.World as world
use Rattle.lp_language.specs.World.{World, no_object, object_at, version_at}
use Rattle.lp_meaning.specs.Askers.{cause_text, place_text}
use Rattle.lp_world.specs.Rows.{row_at, version_path}
use Rattle.lp_world.specs.Stands.{Stands, named_of}
use Rattle.lp_world.specs.declared.live.Live.{Live}
use Rattle.lp_world.specs.declared.versions.Version.{Version}
use Rattle.lp_world.proofs.Paths.{path_of_version}
use Rattle.lp_asking.specs.Endings.{IsPlace, cause_of}
use Rattle.lp_asking.specs.declared.ending.Place.{Place}
use Rattle.lp_asking.specs.declared.ending.Stop.{Stop}
use Rattle.lp_targets.specs.Brought.{program_at}
use Rattle.lp_targets.proofs.Worlds.{program_is}
use Rattle.lp_records.specs.Records.{IsRecordIn, PutsPlace, PutsPlaceIf, function_in}

-- the function has the name that the program in memory has for its row
function_is : (told : Option Bytes) (programs : List RawProgram) (live : Live) (w : World) (p : ProgId) (fun : ℕ) (raw : RawProgram) (o : Option RawProgram) (name q : List ℕ) → Stands told programs live w
    → program_at live.versions p ≡ o → function_in o fun ≡ Some name → slice_get programs p.0 ≡ Some raw → option_map (λ f. f.name) (slice_get raw.funs fun) ≡ Some q → name ≡ q
function_is told programs live w p fun raw None name q h e f s g = cc
function_is told programs live w p fun raw (Some r) name q h e f s g =
    let a : Some r ≡ Some raw = sym (program_is told programs live w p r h e) ∙ s in
    let b : r ≡ raw = ap (λ x. unwrap_or x raw) a in
    ap (λ x. unwrap_or x q) (sym f ∙ ap (λ (r : RawProgram). option_map (λ f. f.name) (slice_get r.funs fun)) b ∙ g)

-- the path is that of the world's version
path_is : (told : Option Bytes) (programs : List RawProgram) (live : Live) (w : World) (p : ProgId) (o : Option Version) (path : List ℕ) → Stands told programs live w
    → row_at live.versions p.0 ≡ o → version_path o ≡ Some path → path ≡ (version_at w p).path
path_is told programs live w p None path h e f = cc
path_is told programs live w p (Some v) path h e f = ap (λ x. unwrap_or x path) (sym f) ∙ path_of_version told programs live w p v h e

-- the name is that of the world's object
named_at : (xs : List world.Object) (n : ℕ) → slice_get (map named_of xs) n ≡ option_map named_of (slice_get xs n)
named_at [] n = refl
named_at (x ∷ xs) zero = refl
named_at (x ∷ xs) (suc n) = named_at xs n

known : (b : Bool) (x : Option Named) (y : Option world.Object) (name : List ℕ) → x ≡ option_map named_of y → Some name ≡ option_map (λ n. n.name) (if b then x else None) → name ≡ (unwrap_or y no_object).name
known false x y name e f = cc
known true x None name e f = let g : Some name ≡ None = f ∙ ap (option_map (λ n. n.name)) e in cc
known true x (Some z) name e f = ap (λ o. unwrap_or o name) (f ∙ ap (option_map (λ n. n.name)) e)

object_is : (told : Option Bytes) (programs : List RawProgram) (live : Live) (w : World) (o : ObjId) (name : List ℕ) → Stands told programs live w
    → ((objects : List Named) → names.Stands live.names objects → Some name ≡ option_map (λ n. n.name) (names.known_at live.names objects o.0)) → name ≡ (object_at w o).name
object_is told programs live w o name h f =
    known (names.is_known live.names (map named_of w.objects) o.0) (slice_get (map named_of w.objects) o.0) (slice_get w.objects o.0) name (named_at w.objects o.0) (f (map named_of w.objects) h.names)

-- the parts of a place, one behind the other
in_order : (t a f b p c o d : List ℕ) → ((((((t ++ a) ++ f) ++ b) ++ p) ++ c) ++ o) ++ d ≡ t ++ (a ++ f ++ b ++ p ++ c ++ o ++ d)
in_order t a f b p c o d = simp append_assoc refl

pub parts_put : (a b c d t0 t1 t2 t3 t4 t5 t6 t7 f p o : List ℕ) → t1 ≡ t0 ++ a → t2 ≡ t1 ++ f → t3 ≡ t2 ++ b → t4 ≡ t3 ++ p → t5 ≡ t4 ++ c → t6 ≡ t5 ++ o → t7 ≡ t6 ++ d → t7 ≡ t0 ++ (a ++ f ++ b ++ p ++ c ++ o ++ d)
parts_put a b c d t0 t1 t2 t3 t4 t5 t6 t7 f p o e1 e2 e3 e4 e5 e6 e7 =
    e7 ∙ ap (λ t. t ++ d) (e6 ∙ ap (λ t. t ++ o) (e5 ∙ ap (λ t. t ++ c) (e4 ∙ ap (λ t. t ++ p) (e3 ∙ ap (λ t. t ++ b) (e2 ∙ ap (λ t. t ++ f) e1))))) ∙ in_order t0 a f b p c o d

-- a place was put as the meaning has it
pub placed : (live : Live) (at : Place) (function path object old new : List ℕ) → function_in (program_at live.versions at.program) at.fun ≡ Some function → version_path (row_at live.versions at.program.0) ≡ Some path
    → ((objects : List Named) → names.Stands live.names objects → Some object ≡ option_map (λ n. n.name) (names.known_at live.names objects at.this.0))
    → new ≡ old ++ place_text (Some (record { function = function; program = without_c path; object = object })) → PutsPlace live at old new
placed live at function path object old new f p o e told programs w q h i =
    let a : function ≡ q.function = function_is told programs live w at.program at.fun i.raw (program_at live.versions at.program) function q.function h refl f i.is i.function in
    let b : without_c path ≡ q.program = ap without_c (path_is told programs live w at.program (row_at live.versions at.program.0) path h refl p) ∙ sym i.program in
    let c : object ≡ q.object = object_is told programs live w at.this object h o ∙ sym i.object in
    e ∙ ap (λ x. old ++ place_text (Some (record { function = x; program = without_c path; object = object }))) a
    ∙ ap (λ x. old ++ place_text (Some (record { function = q.function; program = x; object = object }))) b
    ∙ ap (λ x. old ++ place_text (Some (record { function = q.function; program = q.program; object = x }))) c

-- where there is one
pub placed_if : (live : Live) (at : Place) (old new : List ℕ) → PutsPlace live at old new → PutsPlaceIf live (Some at) old new
placed_if live at old new f told programs w None h i = absurd i
placed_if live at old new f told programs w (Some q) h i = f told programs w q h i

pub not_placed : (live : Live) (text : List ℕ) → PutsPlaceIf live None text text
not_placed live text told programs w None h i = sym (append-nil text)
not_placed live text told programs w (Some q) h i = absurd i

-- the record has the cause and the place
pub recorded : (live : Live) (stop : Stop) (t0 t1 t2 : List ℕ) → t0 ≡ codes "error: " → t1 ≡ t0 ++ cause_text (cause_of stop.cause) → PutsPlaceIf live stop.place t1 t2 → IsRecordIn live stop (outs.Log t2)
recorded live stop t0 t1 t2 a b c told programs w x h i =
    let d : t1 ≡ codes "error: " ++ cause_text x.cause = b ∙ ap (λ t. t ++ cause_text (cause_of stop.cause)) a ∙ ap (λ y. codes "error: " ++ cause_text y) i.cause in
    ap outs.Log (c told programs w x.place h i.place ∙ ap (λ t. t ++ place_text x.place) d ∙ append_assoc (codes "error: ") (cause_text x.cause) (place_text x.place))

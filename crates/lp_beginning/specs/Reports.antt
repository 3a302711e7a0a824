-- The log record of a stop.
use Rattle.std.specs.Prelude.{◌≡◌, ◌++◌, ℕ, List, Option, Some, codes, option_map, slice_get}
use Rattle.lp_values.specs.declared.id.ObjId.{ObjId}
use Rattle.lp_values.specs.declared.id.ProgId.{ProgId}
use Rattle.lp_code.specs.declared.program.RawProgram.{RawProgram}
use Rattle.lp_swapfile.specs.Device.{Bytes}
use Rattle.lp_language.specs.World.{World, object_at, version_at}
use Rattle.lp_language.specs.Course as course
use Rattle.lp_language.specs.Resolve.{without_c}
use Rattle.lp_meaning.specs.Askers.{cause_text, place_text}
use Rattle.lp_world.specs.declared.live.Live.{Live}
use Rattle.lp_world.specs.Stands.{Stands}
use Rattle.lp_asking.specs.declared.ending.Cause.{Cause}
use Rattle.lp_asking.specs.declared.ending.Place.{Place}
use Rattle.lp_asking.specs.Endings.{IsPlace, IsPlaceIf, cause_of}

-- what a stop is called in the log
abbrev pub stop_text : course.Cause → Option course.Place → List ℕ
stop_text cause place = codes "error: " ++ cause_text cause ++ place_text place

-- the three names that tell of a place
abbrev pub place_words : List ℕ → List ℕ → List ℕ → List ℕ
place_words function program object = codes " [" ++ function ++ codes " of " ++ program ++ codes ", object " ++ object ++ codes "]"

-- the name of a function, by its version and its row, in each world for which the state stands
abbrev pub IsFunctionName : Live → ProgId → ℕ → List ℕ → Type 0
IsFunctionName live p fun text =
    (told : Option Bytes) (programs : List RawProgram) (w : World) (raw : RawProgram) (name : List ℕ) → Stands told programs live w → slice_get programs p.0 ≡ Some raw
    → option_map (λ f. f.name) (slice_get raw.funs fun) ≡ Some name → text ≡ name

-- the path of a version's file without `.c`
abbrev pub IsProgramName : Live → ProgId → List ℕ → Type 0
IsProgramName live p text = (told : Option Bytes) (programs : List RawProgram) (w : World) → Stands told programs live w → text ≡ without_c (version_at w p).path

-- the name of an object
abbrev pub IsObjectName : Live → ObjId → List ℕ → Type 0
IsObjectName live o text = (told : Option Bytes) (programs : List RawProgram) (w : World) → Stands told programs live w → text ≡ (object_at w o).name

-- the text of a place, in each such world
abbrev pub IsPlaceText : Option Bytes → Live → Place → List ℕ → Type 0
IsPlaceText told live at text = (programs : List RawProgram) (w : World) (p : course.Place) → Stands told programs live w → IsPlace programs w at p → text ≡ place_text (Some p)

-- of a place, if there is one
abbrev pub IsPlaceTextIf : Option Bytes → Live → Option Place → List ℕ → Type 0
IsPlaceTextIf told live at text = (programs : List RawProgram) (w : World) (p : Option course.Place) → Stands told programs live w → IsPlaceIf programs w at p → text ≡ place_text p

-- and the text of a stop
abbrev pub IsStopText : Option Bytes → Live → Cause → Option Place → List ℕ → Type 0
IsStopText told live cause at text = (programs : List RawProgram) (w : World) (p : Option course.Place) → Stands told programs live w → IsPlaceIf programs w at p → text ≡ stop_text (cause_of cause) p

-- Records of stops and notices, in each world for which the state stands.
use Rattle.std.specs.Prelude.{◌≡◌, ◌++◌, ℕ, List, Option, Some, None, slice_get}
use Rattle.std.specs.Option.{option_map, option_to_list}
use Rattle.lp_values.specs.declared.id.ObjId.{ObjId}
use Rattle.lp_code.specs.declared.program.RawProgram.{RawProgram}
use Rattle.lp_events.specs.declared.out.Out.{Out}
use Rattle.lp_swapfile.specs.Device.{Bytes}
use Rattle.lp_language.specs.Course as course
use Rattle.lp_language.specs.World.{World}
use Rattle.lp_meaning.specs.Askers as askers
use Rattle.lp_meaning.specs.EventTurns as turns
use Rattle.lp_world.specs.declared.live.Live.{Live}
use Rattle.lp_world.specs.Stands.{Stands}
use Rattle.lp_asking.specs.Endings.{IsPlace, IsPlaceIf, IsStop}
use Rattle.lp_asking.specs.declared.ending.Place.{Place}
use Rattle.lp_asking.specs.declared.ending.Stop.{Stop}

-- the name of a function of a program that is in memory
abbrev pub function_in : Option RawProgram → ℕ → Option (List ℕ)
function_in None fun = None
function_in (Some p) fun = option_map (λ f. f.name) (slice_get p.funs fun)

-- A place was put behind a text, as each of the meaning's places that it is spells.
abbrev pub PutsPlace : Live → Place → List ℕ → List ℕ → Type 0
PutsPlace live at old new =
    (told : Option Bytes) (programs : List RawProgram) (w : World) (p : course.Place) → Stands told programs live w → IsPlace programs w at p → new ≡ old ++ askers.place_text (Some p)

-- and so was one that there may be
abbrev pub PutsPlaceIf : Live → Option Place → List ℕ → List ℕ → Type 0
PutsPlaceIf live at old new =
    (told : Option Bytes) (programs : List RawProgram) (w : World) (p : Option course.Place) → Stands told programs live w → IsPlaceIf programs w at p → new ≡ old ++ askers.place_text p

-- THE RECORD OF A STOP: in each world for which the state stands with what the swap file tells, it is the record of each stop of the
-- meaning that this one is.
abbrev pub IsRecordFor : Option Bytes → Live → Stop → Out → Type 0
IsRecordFor told live stop out = (programs : List RawProgram) (w : World) (x : course.Stop) → Stands told programs live w → IsStop programs w stop x → out ≡ askers.error_record x

-- whatever the swap file tells
abbrev pub IsRecordIn : Live → Stop → Out → Type 0
IsRecordIn live stop out = (told : Option Bytes) → IsRecordFor told live stop out

-- What a player is told, or nobody.
abbrev pub IsNoticeIn : Live → Option ObjId → Option Out → Type 0
IsNoticeIn live player out = (told : Option Bytes) (programs : List RawProgram) (w : World) → Stands told programs live w → option_to_list out ≡ turns.notice w player

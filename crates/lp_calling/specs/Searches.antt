-- Objects are searched for what a text names.
use Rattle.std.specs.Prelude.{◌≡◌, ◌≤◌, ◌<◌, ℕ, List, Bool, true, false, ◌||◌, Option, Some, None, drop, length, slice_get}
use Rattle.lp_values.specs.declared.id.ObjId.{ObjId}
use Rattle.lp_values.specs.declared.value.Value.{Value}
use Rattle.lp_instr.specs.declared.efun.Efun.{Efun}
use Rattle.lp_language.specs.Course.{Course, State, and_then}
use Rattle.lp_meaning.specs.Askers.{Asker}
use Rattle.lp_meaning.specs.CallingEfuns.{is_beside, nobody, present_among, present_in}
use Rattle.lp_places.specs.Places.{is_at}
use Rattle.lp_world.specs.declared.live.Live.{Live}
use Rattle.lp_world.specs.Rows.{live_in}
use Rattle.lp_efuns.specs.declared.caller.Turn.{Turn}
use Rattle.lp_efuns.specs.Turns.{At, Setting}
use Rattle.lp_calling.specs.declared.job.Search.{Search}
use Rattle.lp_calling.specs.declared.job.Stage.{Stage}
use Rattle.lp_calling.specs.Audiences.{Holds}
use Rattle.lp_calling.specs.Jobs.{ended, search_around, stage_course}

-- whether an object is there, in each state for which the live state stands
abbrev pub IsBeside : Bool → Live → ObjId → Option ObjId → ObjId → Type 0
IsBeside is live this around o = (g : Setting) (turn : Turn) (budget : ℕ) (s : State) → At g live turn budget s → is_beside s.world this around o ≡ is

-- All that lies in an object is searched.
pub record IsSearchIn (k : Search) (live : Live) (place : ObjId) (around : Option ObjId) (text : List ℕ) : Type 0 where
  pub same_text : k.text ≡ text
  pub same_around : k.around ≡ around
  pub objects : Holds live place k.objects.items
  pub none_done : k.done ≡ 0

-- Searching some objects from one place on is searching them from another one on.
abbrev pub ArePassed : Live → List ObjId → ℕ → ℕ → Type 0
ArePassed live os n m =
    (g : Setting) (turn : Turn) (budget : ℕ) (by : Asker) (s : State) (text : List ℕ) (none : State → Course Value) → At g live turn budget s → present_among by text (drop n os) s none ≡ present_among by text (drop m os) s none

-- the object at a place is live
pub record IsLiveAt (live : Live) (os : List ObjId) (n : ℕ) : Type 0 where
  pub object : ObjId
  pub is : slice_get os n ≡ Some object
  pub lives : live_in live.objects object ≡ true

-- All that are destructed are passed, up to one that is live.
pub record IsSkipped (live : Live) (os : List ObjId) (n m : ℕ) : Type 0 where
  pub passed : ArePassed live os n m
  pub more : n ≤ m
  pub next : m < length os → IsLiveAt live os m

-- A stage at which the environment of an object is searched, where there is an object and it has one.
abbrev pub SearchesAround : Stage → Live → List ℕ → Option ObjId → Type 0
SearchesAround t live text around =
    (e : Efun) (own : List Value) (g : Setting) (turn : Turn) (budget : ℕ) (by : Asker) (s : State) → At g live turn budget s → and_then (search_around by text around s) (ended e) ≡ stage_course e t own by s

-- A stage at which all in an object are searched.
abbrev pub SearchesIn : Stage → Live → List ℕ → ObjId → Type 0
SearchesIn t live text place =
    (e : Efun) (own : List Value) (g : Setting) (turn : Turn) (budget : ℕ) (by : Asker) (s : State) → At g live turn budget s → and_then (present_in by text (Some place) s nobody) (ended e) ≡ stage_course e t own by s

-- The first search for a text: in the given object, and else in this one and then around it.
abbrev pub IsFirstSearch : Search → Live → ObjId → Option ObjId → List ℕ → Type 0
IsFirstSearch k live this None text = IsSearchIn k live this (Some this) text
IsFirstSearch k live this (Some place) text = IsSearchIn k live place None text

-- whether two places are one
abbrev pub is_in : Option ObjId → Option ObjId → Bool
is_in place None = false
is_in place (Some e) = is_at place e

-- whether a place is this object, or where this object is
abbrev pub is_near : Option ObjId → Option ObjId → ObjId → Bool
is_near place around this = is_at place this || is_in place around

-- What was written of a run that was cut short.
use Rattle.std.specs.Prelude.{◌≡◌, ℕ, List, Bool, true, false, Option}
use Rattle.lp_io.specs.Told.{after_adding}
use Rattle.lp_core.specs.Turning.{Origin, Turn, turns_of}
use Rattle.lp_wire.specs.Courses.{Deed}
use Rattle.lp_recording.specs.Recorded.{IsFrontOf}
use Rattle.lp_recording.specs.declared.recording.Keeps.{Keeps}
use Rattle.lp_serving.specs.Recorded.{Recorded, deeds_written}
use Rattle.lp_serving.specs.declared.server.End.{End}
use Rattle.lp_serving.specs.declared.server.End.TheVariants.{Output, Stopped, NoMemory}

-- at this end nothing that was to be written is missing
abbrev pub is_whole : End → Bool
is_whole Output = false
is_whole (Stopped why) = true
is_whole NoMemory = true

-- these bytes were written behind what was written before, or a front of them
abbrev pub WritesUpTo : Bool → List ℕ → Option (List ℕ) → Option (List ℕ) → Type 0
WritesUpTo true bytes before now = now ≡ after_adding before bytes
WritesUpTo false bytes before now = IsFrontOf bytes before now

-- THE DRIVER RAN SO, and what is kept of it was written, or a front of it.
pub record WroteUpTo (ran : List Turn → Type 0) (keeps : Keeps) (whole : Bool) (before now : Option (List ℕ)) : Type 0 where
  pub deeds : List Deed
  pub did : ran (turns_of deeds)
  pub wrote : WritesUpTo whole (deeds_written keeps deeds) before now

-- A CALL WAS CUT SHORT: whatever was carried out and written before it, some driver and swap file ran on from there, turns that were carried out
-- alone, and what is kept of them was written; or a front of it, where the output is the cause.
abbrev pub CutsShort : (Origin → List Turn → Type 0) → (Origin → List Turn → Type 0) → Keeps → Option (List ℕ) → Option (List ℕ) → End → Type 0
CutsShort ran0 ran1 keeps old now end = (origin : Origin) (from : Option (List ℕ)) (ds : List Deed) → Recorded (ran0 origin) keeps from old ds → WroteUpTo (ran1 origin) keeps (is_whole end) from now

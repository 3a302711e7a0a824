-- What was written of a served run at an end at which it was cut short.
use Rattle.std.specs.Prelude.{◌≡◌, ⊤, ℕ, List, ◌++◌, Bool, Option, Result, Ok, Err}
use Rattle.lp_io.specs.Told.{after_adding}
use Rattle.lp_core.specs.Turning.{Turn, turns_of}
use Rattle.lp_wire.specs.Courses.{Deed}
use Rattle.lp_recording.specs.Recorded.{IsFrontOf, ending}
use Rattle.lp_recording.specs.declared.recording.Keeps.{Keeps}
use Rattle.lp_serving.specs.Recorded.{deeds_written}
use Rattle.lp_serving.specs.declared.server.End.{End}
use Rattle.lp_serve.specs.declared.run.Early.{Early}
use Rattle.lp_serve.specs.declared.run.Early.TheVariants as early
use Rattle.lp_serve.specs.declared.run.Served.{Served}
use Rattle.lp_serve.specs.declared.run.Served.TheVariants.{Done, OutputFault, FilesFault, WireFault, TurnsSpent, Stopped, NoMemory}

-- what holds of an end at a happening
abbrev pub IfCut : Result Bool Early → (End → Type 0) → Type 0
IfCut (Ok stops) P = ⊤
IfCut (Err early.Wire) P = ⊤
IfCut (Err (early.At end)) P = P end

-- what was written of the end of a run that the operator stopped, or whose polls were spent: a front of it, or nothing
abbrev pub EndsUpTo : Served → List ℕ → Option (List ℕ) → Option (List ℕ) → Type 0
EndsUpTo OutputFault bytes before now = IsFrontOf bytes before now
EndsUpTo NoMemory bytes before now = now ≡ before
EndsUpTo Done bytes before now = ⊤
EndsUpTo (FilesFault path) bytes before now = ⊤
EndsUpTo TurnsSpent bytes before now = ⊤
EndsUpTo WireFault bytes before now = ⊤
EndsUpTo (Stopped why) bytes before now = ⊤

-- the driver ran some turns, and this holds of what is kept of them
pub record HasKept (ran : List Turn → Type 0) (keeps : Keeps) (wrote : List ℕ → Type 0) : Type 0 where
  pub deeds : List Deed
  pub did : ran (turns_of deeds)
  pub written : wrote (deeds_written keeps deeds)

-- WHAT WAS WRITTEN WHERE A RUN WAS CUT SHORT: what is kept of the turns that the driver ran; where the output failed a front of it, and of the end that may follow. Of other ends
-- it is said elsewhere.
abbrev pub CutsRun : Served → (List Turn → Type 0) → Keeps → Option (List ℕ) → Option (List ℕ) → Type 0
CutsRun OutputFault ran keeps before now = HasKept ran keeps (λ bytes. IsFrontOf (bytes ++ ending keeps) before now)
CutsRun (Stopped why) ran keeps before now = HasKept ran keeps (λ bytes. now ≡ after_adding before bytes)
CutsRun NoMemory ran keeps before now = HasKept ran keeps (λ bytes. now ≡ after_adding before bytes)
CutsRun Done ran keeps before now = ⊤
CutsRun (FilesFault path) ran keeps before now = ⊤
CutsRun TurnsSpent ran keeps before now = ⊤
CutsRun WireFault ran keeps before now = ⊤

-- What efuns on files come to on the live state, once the master gave leave.
use Rattle.std.specs.Prelude.{◌≡◌, ℕ, List, Option, Some, None, is_some, if◌then◌else◌}
use Rattle.lp_values.specs.declared.id.ObjId.{ObjId}
use Rattle.lp_values.specs.declared.value.Value.{Value}
use Rattle.lp_cells.specs.Cells.{IsThere, Store as Cells}
use Rattle.lp_code.specs.declared.program.RawProgram.{RawProgram}
use Rattle.lp_files.specs.Paths.{with_path}
use Rattle.lp_files.specs.Store.{changed_in, file_at}
use Rattle.lp_files.specs.declared.store.Store.{Store}
use Rattle.lp_swapfile.specs.Device.{Bytes}
use Rattle.lp_language.specs.World.{World, is_live}
use Rattle.lp_language.specs.Course.{Asks, Course, End, Failed, Gives, Over, State, Stops, here}
use Rattle.lp_language.specs.Operations.{with_world}
use Rattle.lp_language.specs.Resolve.{heritage_of}
use Rattle.lp_part_laws.specs.Versions.{FitsVersion}
use Rattle.lp_world.specs.declared.live.Live.{Live}
use Rattle.lp_world.specs.Stands.{Stands}
use Rattle.lp_filing.specs.declared.outcome.Outcome.{Outcome}
use Rattle.lp_filing.specs.declared.outcome.Outcome.TheVariants as outcomes

-- what a look at the files of a world shows, in each world for which the state stands
abbrev pub Shows : (World → Value) → Live → Value → Type 0
Shows of live v = (told : Option Bytes) (programs : List RawProgram) (w : World) → Stands told programs live w → v ≡ of w

-- an end is what the live state came to, in a state of which something holds
abbrev pub IsEndOf : Outcome → (State → Type 0) → End Value → Type 0
IsEndOf (outcomes.Value v) P (Gives w t) = (w ≡ v) × P t
IsEndOf (outcomes.Error e) P (Stops x t) = (x ≡ here (Failed e)) × P t
IsEndOf _ P _ = ⊥

-- a course asks nothing and ends so
abbrev pub EndsWith : Outcome → (State → Type 0) → Course Value → Type 0
EndsWith d P (Over e) = IsEndOf d P e
EndsWith d P (Asks a k) = ⊥

-- The live state stands for the world of the second state, which has all else of the first one; the versions and the shadows are the
-- same, and the same objects live.
pub record Follows (told : Option Bytes) (programs : List RawProgram) (live : Live) (s t : State) : Type 0 where
  pub stands : Stands told programs live t.world
  pub rest : t ≡ with_world s t.world
  pub versions : t.world.versions ≡ s.world.versions
  pub shadows : t.world.shadows ≡ s.world.shadows
  pub lives : (o : ObjId) → is_live t.world o ≡ is_live s.world o

-- The live state came to this, and so does the course: from each state for whose world the live state stands, in one that follows, for
-- whose world the live state stands afterwards.
abbrev pub Comes : (State → Course Value) → Live → Outcome → Live → Type 0
Comes go live0 d live1 = (told : Option Bytes) (programs : List RawProgram) (s : State) → Stands told programs live0 s.world → EndsWith d (Follows told programs live1 s) (go s)

-- the same, where a program fits the version of an object
abbrev pub ComesWith : RawProgram → ObjId → (State → Course Value) → Live → Outcome → Live → Type 0
ComesWith code o go live0 d live1 =
    (told : Option Bytes) (programs : List RawProgram) (s : State) → Stands told programs live0 s.world → FitsVersion (heritage_of s.world o) code → EndsWith d (Follows told programs live1 s) (go s)

-- the state stands for what it stood for
abbrev pub StandsStill : Live → Live → Type 0
StandsStill live0 live1 = (told : Option Bytes) (programs : List RawProgram) (w : World) → Stands told programs live0 w → Stands told programs live1 w

-- a path that was written, where one was, is on the changed list, with those that were there
abbrev pub with_written : Option (List ℕ) → List (List ℕ) → List (List ℕ)
with_written None ps = ps
with_written (Some p) ps = with_path p ps

-- and so is one that was removed, where a file was there
abbrev pub with_removed : Store → Option (List ℕ) → List (List ℕ)
with_removed s None = changed_in s
with_removed s (Some p) = if is_some (file_at s p) then with_path p (changed_in s) else changed_in s

-- the changed list after an efun that writes a file: it does not where it comes to an error
abbrev pub listed_after : Outcome → Option (List ℕ) → List (List ℕ) → List (List ℕ)
listed_after (outcomes.Value v) p ps = with_written p ps
listed_after (outcomes.Error e) p ps = ps

-- a value that an efun came to is there
abbrev pub IsOutcomeThere : Cells → Outcome → Type 0
IsOutcomeThere cells (outcomes.Value v) = IsThere cells v
IsOutcomeThere cells (outcomes.Error e) = Unit {0}

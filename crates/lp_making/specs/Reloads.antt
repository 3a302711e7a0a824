-- A file has a new text: a state and a world before and after.
use Rattle.std.specs.Prelude.{◌≡◌, ℕ, List, [], Option, Some, None}
use Rattle.lp_values.specs.declared.id.ObjId.{ObjId}
use Rattle.lp_code.specs.declared.program.RawProgram.{RawProgram}
use Rattle.lp_events.specs.declared.out.Out.{Out}
use Rattle.lp_swapfile.specs.Device.{Bytes}
use Rattle.lp_language.specs.World.{World}
use Rattle.lp_meaning.specs.WorldSteps.{closing, destructed_if, destruction, reload_outputs, reloaded}
use Rattle.lp_world.specs.Stands.{Stands}
use Rattle.lp_world.specs.declared.live.Live.{Live}

-- the outputs of the destruction of an object, where there is one
abbrev pub destruction_if : World → Option ObjId → List Out
destruction_if w None = []
destruction_if w (Some o) = destruction w o

-- For each world that the state stood for, it stands for that world after the destruction; the connection that the object had
-- is the one that is closed.
abbrev pub StandsDestructed : Live → Live → Option ObjId → Option ℕ → Type 0
StandsDestructed old new o k =
    (told : Option Bytes) (programs : List RawProgram) (w : World) → Stands told programs old w → Stands told programs new (destructed_if w o) × (closing k ≡ destruction_if w o)

-- and after the reload
abbrev pub StandsReloaded : Live → Live → List ℕ → List ℕ → Option ℕ → Type 0
StandsReloaded old new path bytes k =
    (told : Option Bytes) (programs : List RawProgram) (w : World) → Stands told programs old w → Stands told programs new (reloaded w path bytes) × (closing k ≡ reload_outputs w path)

-- The state stands for the same worlds.
abbrev pub StandsAsBefore : Live → Live → Type 0
StandsAsBefore old new = (told : Option Bytes) (programs : List RawProgram) (w : World) → Stands told programs old w → Stands told programs new w

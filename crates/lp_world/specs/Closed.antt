-- Closed states: what a state names is there. This speaks of the state alone.
use Rattle.std.specs.Prelude.{◌≡◌, ◌≢◌, ℕ, ◌+◌, ◌^◌, ◌<◌, ◌≤◌, ◌⊎◌, ⊤, List, [], ◌∷◌, ◌++◌, Option, Some, None, IsSome, All, length, slice_get, option_map}
use Rattle.std.specs.List.{flat_map}
use Rattle.std.specs.Option.{option_to_list}
use Rattle.lp_values.specs.declared.id.CellId.{CellId}
use Rattle.lp_values.specs.declared.id.ProgId.{ProgId}
use Rattle.lp_values.specs.declared.value.Value.{Value}
use Rattle.lp_cells.specs.Cells as cells
use Rattle.lp_cells.specs.Cells.{Store, IsThere, content_at}
use Rattle.lp_places.specs.Places.{Lying, Shadowing}
use Rattle.lp_places.specs.Stands as places
use Rattle.lp_places.specs.declared.places.Places.{Places}
use Rattle.lp_timers.specs.Timers.{CallOut}
use Rattle.lp_timers.specs.Timing.{Timing}
use Rattle.lp_swapfile.specs.Room.{AreTaken}
use Rattle.lp_swapfile.specs.declared.extent.Extent.{Extent}
use Rattle.lp_swapper.specs.Swap.{extent_of}
use Rattle.lp_code.specs.declared.program.RawProgram.{RawProgram}
use Rattle.lp_code.specs.declared.tables.Slot.{Slot}
use Rattle.lp_instr.specs.declared.instr.Instr.TheVariants.{CallFixed}
use Rattle.lp_world.specs.declared.connections.Waiting.{Waiting}
use Rattle.lp_world.specs.declared.live.Live.{Live}
use Rattle.lp_world.specs.declared.objects.Object.{Object}
use Rattle.lp_world.specs.declared.targets.FunAt.{FunAt}
use Rattle.lp_world.specs.declared.versions.ProgramState.TheVariants as programs_of
use Rattle.lp_world.specs.declared.versions.Version.{Version}
use Rattle.lp_world.specs.Rows.{object_ticket, own_in, own_of, program_ticket, row_at, shared_of, variables_of}
use Rattle.lp_world.specs.Stands.{IsOutline}
use Rattle.lp_world.specs.Targets.{answer_at}

-- Tickets: the extents of the objects that are out, and of the programs.
abbrev pub object_extents : Option Object → List Extent
object_extents None = []
object_extents (Some o) = option_to_list (option_map extent_of (object_ticket o.state))

abbrev pub version_extents : Option Version → List Extent
version_extents None = []
version_extents (Some v) = option_to_list (option_map extent_of (program_ticket v.state))

abbrev pub extents_of : List (Option Object) → List (Option Version) → List Extent
extents_of objects versions = flat_map object_extents objects ++ flat_map version_extents versions

-- Objects: its version is there; where its variables are in memory they are as many as the version says, and what they
-- name is there; and so are the cells that the record of one that is out names. No record has cells of its own: until
-- cells are counted, each stays in memory.
pub record IsObjectClosed (store : Store) (versions : List (Option Version)) (o : Object) : Type 0 where
  pub version : Version
  pub there : row_at versions o.program.0 ≡ Some version
  pub variables : (vs : List Value) → variables_of o.state ≡ Some vs → (length vs ≡ version.outline.variables) × All (IsThere store) vs
  pub shared : All (λ c. IsSome (content_at store c)) (shared_of o.state)
  pub own : own_of o.state ≡ []

-- No two own cells are one: neither two of one object nor those of two.
abbrev pub AreApart : List (Option Object) → Type 0
AreApart objects =
    (n m j k : ℕ) (c : CellId) → slice_get (own_in (row_at objects n)) j ≡ Some c → slice_get (own_in (row_at objects m)) k ≡ Some c → (n ≡ m) × (j ≡ k)

-- the parts of some versions together, and their variables
abbrev pub parts_in : Option Version → ℕ
parts_in None = 0
parts_in (Some v) = v.outline.parts

abbrev pub variables_in : Option Version → ℕ
variables_in None = 0
variables_in (Some v) = v.outline.variables

abbrev pub parts_together : List (Option Version) → List ProgId → ℕ
parts_together versions [] = 0
parts_together versions (p ∷ ps) = parts_in (row_at versions p.0) + parts_together versions ps

abbrev pub variables_together : List (Option Version) → List ProgId → ℕ
variables_together versions [] = 0
variables_together versions (p ∷ ps) = variables_in (row_at versions p.0) + variables_together versions ps

-- a part of a program and a row are a function that is there
pub record IsFunctionThere (versions : List (Option Version)) (parts : List ProgId) (part fun : ℕ) : Type 0 where
  pub number : ProgId
  pub listed : slice_get parts part ≡ Some number
  pub version : Version
  pub there : row_at versions number.0 ≡ Some version
  pub row : fun < version.outline.functions

-- a slot names a function that is there, or none
abbrev pub IsSlotClosed : List (Option Version) → List ProgId → Slot → Type 0
IsSlotClosed versions parts s = (s.fun ≡ 65535) ⊎ IsFunctionThere versions parts s.part s.fun

-- a call of a parent's row names a parent that is there, and a slot of it
pub record IsRowThere (versions : List (Option Version)) (parents : List ProgId) (parent slot : ℕ) : Type 0 where
  pub number : ProgId
  pub listed : slice_get parents parent ≡ Some number
  pub version : Version
  pub there : row_at versions number.0 ≡ Some version
  pub row : slot < version.outline.slots

-- A program in memory is as its outline says; each slot names a function that is there, each call of a parent a slot of it,
-- and each answer that is kept a function that is there.
pub record IsProgramClosed (versions : List (Option Version)) (v : Version) (p : RawProgram) : Type 0 where
  pub outline : IsOutline p v.outline
  pub slots : All (IsSlotClosed versions p.tables.parts) p.tables.slots
  pub rows : (at parent slot n : ℕ) → slice_get p.instrs at ≡ Some (CallFixed parent slot n) → IsRowThere versions p.tables.parents parent slot
  pub targets : (part slot : ℕ) (f : FunAt) → answer_at v.targets part slot ≡ Some (Some f) → IsFunctionThere versions p.tables.parts f.part f.fun

-- Each parent of a version is there and has a lower number; the parts are one more than those of its parents together, and
-- the variables are at least as many as those of its parents together.
pub record IsVersionClosed (versions : List (Option Version)) (n : ℕ) (v : Version) : Type 0 where
  pub lower : All (λ p. p.0 < n) v.outline.parents
  pub parents : All (λ p. IsSome (row_at versions p.0)) v.outline.parents
  pub parts : v.outline.parts ≡ parts_together versions v.outline.parents + 1
  pub variables : variables_together versions v.outline.parents ≤ v.outline.variables
  pub program : (p : RawProgram) → v.state ≡ programs_of.Resident p → IsProgramClosed versions v p

-- The places stand for what lies where, and for what shadows what.
pub record ArePlaced (t : Places) : Type 0 where
  pub lyings : List Lying
  pub shadowings : List Shadowing
  pub stands : places.Stands t lyings shadowings

-- No two call-outs have one number, ..
abbrev pub AreNumberedOnce : List CallOut → Type 0
AreNumberedOnce [] = ⊤
AreNumberedOnce (c ∷ cs) = All (λ (d : CallOut). d.number ≢ c.number) cs × AreNumberedOnce cs

-- .. and each has one below the next number.
pub record AreNumbered (t : Timing) : Type 0 where
  pub once : AreNumberedOnce t.call_outs
  pub below : All (λ (c : CallOut). c.number < t.next) t.call_outs

pub record IsClosed (live : Live) : Type 0 where
  pub clock : live.clock ≤ 10 ^ 12
  pub cells : cells.IsClosed live.cells
  pub objects : (n : ℕ) (o : Object) → slice_get live.objects n ≡ Some (Some o) → IsObjectClosed live.cells live.versions o
  pub apart : AreApart live.objects
  pub versions : (n : ℕ) (v : Version) → slice_get live.versions n ≡ Some (Some v) → IsVersionClosed live.versions n v
  pub call_outs : All (λ (c : CallOut). All (IsThere live.cells) c.arguments) live.timers.call_outs
  pub waiting : All (λ (x : Waiting). All (IsThere live.cells) x.arguments) live.connections.waiting
  pub placed : ArePlaced live.places
  pub numbered : AreNumbered live.timers
  pub room : AreTaken (extents_of live.objects live.versions) live.swapper

-- The world: all that lasts from one turn to the next. Nothing is ever removed from its versions, objects and cells.
use Rattle.std.specs.Prelude.{◌≡◌, ◌≤◌, ℕ, suc, List, [], ◌∷◌, length, Bool, false, ◌&&◌, Option, Some, None, unwrap_or, slice_get, slice_set, if◌then◌else◌, pos}
use Rattle.lp_tree.specs.declared.pragma.Pragmas.{Pragmas}
use Rattle.lp_tree.specs.declared.pragma.TypeMode.TheVariants.{Weak}
use Rattle.lp_tree.specs.Units.{ItemTree}
use Rattle.lp_values.specs.declared.id.ObjId.{ObjId}
use Rattle.lp_values.specs.declared.id.ProgId.{ProgId}
use Rattle.lp_values.specs.declared.value.Value.{Value}
use Rattle.lp_values.specs.declared.value.Value.TheVariants.{Int, Obj}
use Rattle.lp_values.specs.Read.{as_read}
use Rattle.lp_cells.specs.Cells.{Store, IsThere}
use Rattle.lp_instr.specs.EfunList.{is_name}
use Rattle.lp_actions.specs.Places.{Lying, Shadowing}
use Rattle.lp_actions.specs.Actions.{Sentence}
use Rattle.lp_timers.specs.Timers.{CallOut, Beat, Watching}

-- A file: its path and its bytes. A path stands once in the list of files.
pub record File : Type 0 where
  pub path : List ℕ
  pub bytes : List ℕ

-- A version of a program: the path of its file, what the file declared when it was compiled, the versions of its
-- parents in the order of the inherits, its pragmas, the names of the simul efuns that it saw, and its latest clock.
pub record Version : Type 0 where
  pub path : List ℕ
  pub items : List ItemTree
  pub parents : List ProgId
  pub pragmas : Pragmas
  pub simuls : List (List ℕ)
  pub latest : ℕ

-- An object: its name, its version, whether it is live, whether it is living, its variables and its latest clock. The
-- variables are those of its parents, in the order of the inherits, and then its version's own, in their order.
pub record Object : Type 0 where
  pub name : List ℕ
  pub version : ProgId
  pub is_live : Bool
  pub is_living : Bool
  pub variables : List Value
  pub latest : ℕ

-- an open connection and the object that has it
pub record Connection : Type 0 where
  pub number : ℕ
  pub object : ObjId

-- a function that waits for the next line of a connection
pub record Waiting : Type 0 where
  pub connection : ℕ
  pub object : ObjId
  pub function : List ℕ
  pub hides : Bool
  pub arguments : List Value

-- The version with number n, the object with serial n and the cell with serial n stand at place n of their lists, so
-- that the next one of each has the list's length as its number. In `places` what was moved last stands first, in
-- `shadows` the newest shadow, in `sentences` the newest action; call-outs stand in the order of their making, heart
-- beats in that of their switching on, connections in that of their opening.
pub record World : Type 0 where
  pub files : List File
  pub versions : List Version
  pub objects : List Object
  pub cells : Store
  -- the name of the simul-efun object
  pub simul : Option (List ℕ)
  pub places : List Lying
  pub shadows : List Shadowing
  pub sentences : List Sentence
  pub call_outs : List CallOut
  pub beats : List Beat
  pub watches : List Watching
  -- the open connections, the highest number so far, and the numbers that were connected and are not gone
  pub connections : List Connection
  pub highest : ℕ
  pub present : List ℕ
  pub waiting : List Waiting
  pub clock : ℕ
  pub generator : ℕ
  -- the next numbers of clones, actions and call-outs
  pub next_clone : ℕ
  pub next_sentence : ℕ
  pub next_call_out : ℕ

-- an object or a version that is not there reads as one without anything
abbrev pub no_pragmas : Pragmas
no_pragmas = record { no_clone = false; no_inherit = false; no_shadow = false; types = Weak }

abbrev pub no_object : Object
no_object = record { name = []; version = record { 0 = 0 }; is_live = false; is_living = false; variables = []; latest = 0 }

abbrev pub no_version : Version
no_version = record { path = []; items = []; parents = []; pragmas = no_pragmas; simuls = []; latest = 0 }

abbrev pub object_at : World → ObjId → Object
object_at w o = unwrap_or (slice_get w.objects o.0) no_object

abbrev pub version_at : World → ProgId → Version
version_at w v = unwrap_or (slice_get w.versions v.0) no_version

-- which objects are live
abbrev pub is_live : World → ObjId → Bool
is_live w o = (object_at w o).is_live

-- a value as it reads in a world
abbrev pub reads : World → Value → Value
reads w v = as_read (is_live w) v

-- an object, or none, as a value: one that is not live reads as 0
abbrev pub object_value : World → Option ObjId → Value
object_value w None = Int (pos 0)
object_value w (Some o) = reads w (Obj o)

-- the live object with a name
abbrev pub named_from : List ℕ → ℕ → List Object → Option ObjId
named_from name n [] = None
named_from name n (x ∷ xs) = if x.is_live && is_name x.name name then Some (record { 0 = n }) else named_from name (suc n) xs

abbrev pub object_named : World → List ℕ → Option ObjId
object_named w name = named_from name 0 w.objects

-- the world after an object became another one, with the same serial
abbrev pub with_object : World → ObjId → Object → World
with_object w o x = record w { objects = slice_set w.objects o.0 x }

abbrev pub with_version : World → ProgId → Version → World
with_version w v x = record w { versions = slice_set w.versions v.0 x }

abbrev pub with_cells : World → Store → World
with_cells w cells = record w { cells = cells }

-- the world before anything was made
abbrev pub new_world : List File → ℕ → ℕ → World
new_world files seed moment = record {
  files = files;
  versions = [];
  objects = [];
  cells = [];
  simul = None;
  places = [];
  shadows = [];
  sentences = [];
  call_outs = [];
  beats = [];
  watches = [];
  connections = [];
  highest = 0;
  present = [];
  waiting = [];
  clock = moment;
  generator = seed;
  next_clone = 1;
  next_sentence = 1;
  next_call_out = 1;
}

-- What may happen to a version: its latest clock rises. What may happen to an object: all but its name and version.
pub record IsSameVersion (old new : Version) : Type 0 where
  pub path : new.path ≡ old.path
  pub items : new.items ≡ old.items
  pub parents : new.parents ≡ old.parents
  pub pragmas : new.pragmas ≡ old.pragmas
  pub simuls : new.simuls ≡ old.simuls

pub record IsSameObject (old new : Object) : Type 0 where
  pub name : new.name ≡ old.name
  pub version : new.version ≡ old.version

-- Nothing is removed: each version, object and cell that was there is there, and is the same.
pub record Keeps (old new : World) : Type 0 where
  pub versions : (n : ℕ) (v : Version) → slice_get old.versions n ≡ Some v → (v' : Version) × (slice_get new.versions n ≡ Some v') × IsSameVersion v v'
  pub objects : (n : ℕ) (x : Object) → slice_get old.objects n ≡ Some x → (x' : Object) × (slice_get new.objects n ≡ Some x') × IsSameObject x x'
  pub cells : (v : Value) → IsThere old.cells v → IsThere new.cells v
  pub no_fewer : length old.cells ≤ length new.cells

-- When a live state with its swap file stands for a world. A cell has one serial in both.
use Rattle.std.specs.Prelude.{◌≡◌, ℕ, List, [], ◌++◌, Option, Some, None, IsSome, All, map, length, slice_get, true, false, ⊤, codes}
use Rattle.lp_values.specs.declared.id.CellId.{CellId}
use Rattle.lp_values.specs.declared.id.ObjId.{ObjId}
use Rattle.lp_values.specs.declared.id.ProgId.{ProgId}
use Rattle.lp_values.specs.declared.value.Value.{Value}
use Rattle.lp_cells.specs.Cells.{Store, content_at}
use Rattle.lp_cells.specs.declared.content.Content.{Content}
use Rattle.lp_image.specs.Image.{IsRecord, image}
use Rattle.lp_swapfile.specs.Device.{Bytes}
use Rattle.lp_swapper.specs.Swap.{IsOutAt}
use Rattle.lp_swapper.specs.declared.ticket.Ticket.{Ticket}
use Rattle.lp_code.specs.declared.program.RawProgram.{RawProgram}
use Rattle.lp_code.specs.declared.tables.Slot.{Slot}
use Rattle.lp_encoding.specs.Programs.{IsEncoding}
use Rattle.lp_objects.specs.Objects.{Named}
use Rattle.lp_objects.specs.Stands as names
use Rattle.lp_objects.specs.declared.objects.Objects.{Objects}
use Rattle.lp_places.specs.Stands as places
use Rattle.lp_places.specs.Places.{Lying, Shadowing}
use Rattle.lp_places.specs.declared.places.Places.{Places}
use Rattle.lp_actions.specs.Held.{Lists, next_in}
use Rattle.lp_actions.specs.Actions.{Sentence}
use Rattle.lp_actions.specs.declared.actions.Actions.{Actions}
use Rattle.lp_timers.specs.Timing.{Timing}
use Rattle.lp_files.specs.Store.{file_at}
use Rattle.lp_files.specs.declared.store.Store.{Store as Files}
use Rattle.lp_isa.specs.Programs.{IsReached, Reached}
use Rattle.lp_language.specs.World as world
use Rattle.lp_language.specs.World.{World, new_world}
use Rattle.lp_language.specs.Resolve.{Heritage, Part, heritage, internal_from, number_of, part_at}
use Rattle.lp_meaning.specs.WorldSteps as steps
use Rattle.lp_meaning.specs.IdleAndKept.{IsKept}
use Rattle.lp_world.specs.declared.connections.Connection.{Connection}
use Rattle.lp_world.specs.declared.connections.Waiting.{Waiting}
use Rattle.lp_world.specs.declared.live.Live.{Live}
use Rattle.lp_world.specs.declared.objects.Object.{Object}
use Rattle.lp_world.specs.declared.objects.ObjectState.{ObjectState}
use Rattle.lp_world.specs.declared.objects.ObjectState.TheVariants as objects_of
use Rattle.lp_world.specs.declared.targets.FunAt.{FunAt}
use Rattle.lp_world.specs.declared.versions.Outline.{Outline}
use Rattle.lp_world.specs.declared.versions.ProgramState.{ProgramState}
use Rattle.lp_world.specs.declared.versions.ProgramState.TheVariants as programs_of
use Rattle.lp_world.specs.declared.versions.Version.{Version}
use Rattle.lp_world.specs.Connecting.{Connecting}
use Rattle.lp_world.specs.Records.{contents_of, record_for, shared_for}
use Rattle.lp_world.specs.Rows.{row_at}
use Rattle.lp_world.specs.Targets.{answer_at}

-- Cells. The state's are a part of the world's: each that is there is the same there, under the same serial, and the
-- next serial is one. Those that are missing are in records, or nothing names them.
pub record IsPart (part whole : Store) : Type 0 where
  pub same : (c : ℕ) (x : Content) → slice_get part c ≡ Some (Some x) → slice_get whole c ≡ Some (Some x)
  pub next : length part ≡ length whole

-- Variables

-- a cell that an object took out with it: the state has its place empty, and the world has it
pub record IsOwn (part whole : Store) (c : CellId) : Type 0 where
  pub absent : slice_get part c.0 ≡ Some None
  pub there : IsSome (content_at whole c)

-- For a swapped object the bytes last written at its ticket's place have the ticket's length and digest, and are the
-- image of the record of this owner with the world's variables. Its shared list is the cells that the record names, each as
-- often as it names it.
pub record IsOut (told : Option Bytes) (part whole : Store) (o : ObjId) (vs : List Value) (t : Ticket) (shared own : List CellId) : Type 0 where
  pub fits : IsRecord (record_for o vs own (contents_of whole own))
  pub out : IsOutAt told t (image (record_for o vs own (contents_of whole own)))
  pub named : shared ≡ shared_for vs own (contents_of whole own)
  pub kept : All (IsOwn part whole) own

-- The variables of a resident object are the world's.
abbrev pub VariablesAre : Option Bytes → Store → Store → ObjId → List Value → ObjectState → Type 0
VariablesAre told part whole o vs (objects_of.Resident us) = us ≡ vs
VariablesAre told part whole o vs (objects_of.Swapped t shared own) = IsOut told part whole o vs t shared own

-- Objects: one that is live, or that died resident in this turn. Only what is live is out, and the latest clocks of live
-- objects alone are equal.
pub record IsObject (told : Option Bytes) (part whole : Store) (n : ℕ) (o : Object) (x : world.Object) : Type 0 where
  pub version : o.program ≡ x.version
  pub live : o.is_live ≡ x.is_live
  pub living : o.is_living ≡ x.is_living
  pub latest : x.is_live ≡ true → o.latest ≡ x.latest
  pub variables : VariablesAre told part whole (record { 0 = n }) x.variables o.state

-- and one that died before, or while it was out
abbrev pub ObjectIs : Option Bytes → Store → Store → ℕ → Option (Option Object) → Option world.Object → Type 0
ObjectIs told part whole n None None = ⊤
ObjectIs told part whole n None (Some x) = ⊥
ObjectIs told part whole n (Some o) None = ⊥
ObjectIs told part whole n (Some None) (Some x) = x.is_live ≡ false
ObjectIs told part whole n (Some (Some o)) (Some x) = IsObject told part whole n o x

abbrev pub AreObjects : Option Bytes → Store → Store → List (Option Object) → List world.Object → Type 0
AreObjects told part whole rows xs = (n : ℕ) → ObjectIs told part whole n (slice_get rows n) (slice_get xs n)

-- what the table of names has of an object of the world
abbrev pub named_of : world.Object → Named
named_of x = record { name = x.name; program = x.version; is_live = x.is_live }

-- Programs. The programs of all versions that were ever made are a list: which program stands for which tree is told of it
-- where programs are made. The state's part is that what it has of a version is that program, in memory or out.

-- what stays in memory of a program
pub record IsOutline (p : RawProgram) (o : Outline) : Type 0 where
  pub parents : o.parents ≡ p.tables.parents
  pub parts : o.parts ≡ length p.tables.parts
  pub variables : o.variables ≡ length p.tables.vars
  pub functions : o.functions ≡ length p.funs
  pub slots : o.slots ≡ length p.tables.slots

-- the bytes last written at a ticket's place are the image of the program: the mark `LPP1` and its encoding
pub record IsProgramOut (told : Option Bytes) (p : RawProgram) (t : Ticket) : Type 0 where
  pub bytes : List ℕ
  pub encoding : IsEncoding p bytes
  pub out : IsOutAt told t (codes "LPP1" ++ bytes)

abbrev pub ProgramIs : Option Bytes → RawProgram → ProgramState → Type 0
ProgramIs told p (programs_of.Resident q) = q ≡ p
ProgramIs told p (programs_of.Swapped t) = IsProgramOut told p t

-- the inheritance tree of a version tells of the versions alone
abbrev pub heritage_in : List world.Version → ProgId → Heritage
heritage_in versions v = heritage (record (new_world [] 0 0) { versions = versions }) v

-- each answer that is kept for a slot is the function that an internal call by that slot's name reaches
abbrev pub reached_of : Option FunAt → Option Reached
reached_of None = None
reached_of (Some f) = Some (record { part = f.part; fun = f.fun })

abbrev pub slot_in : Option RawProgram → ℕ → Option Slot
slot_in None k = None
slot_in (Some p) k = slice_get p.tables.slots k

abbrev pub slot_of_part : List RawProgram → Option Part → ℕ → Option Slot
slot_of_part programs None k = None
slot_of_part programs (Some p) k = slot_in (slice_get programs (number_of p.tree).0) k

abbrev pub IsTarget : Heritage → Option Part → Option Slot → Option FunAt → Type 0
IsTarget h part None a = ⊥
IsTarget h part (Some s) a = IsReached h (internal_from h part s.name) (reached_of a)

abbrev pub AreTargets : List RawProgram → Heritage → (ℕ → ℕ → Option (Option FunAt)) → Type 0
AreTargets programs h kept =
    (part slot : ℕ) (a : Option FunAt) → kept part slot ≡ Some a → IsTarget h (part_at h part) (slot_of_part programs (part_at h part) slot) a

-- Each version of the state is one of the world.
pub record IsVersion (told : Option Bytes) (programs : List RawProgram) (versions : List world.Version) (n : ℕ) (v : Version) : Type 0 where
  pub version : world.Version
  pub there : slice_get versions n ≡ Some version
  pub path : v.path ≡ version.path
  pub latest : v.latest ≡ version.latest
  pub parents : v.outline.parents ≡ version.parents
  pub program : RawProgram
  pub is : slice_get programs n ≡ Some program
  pub outline : IsOutline program v.outline
  pub state : ProgramIs told program v.state
  pub targets : AreTargets programs (heritage_in versions (record { 0 = n })) (answer_at v.targets)

-- Next numbers are one, and each version has its program.
pub record AreVersions (told : Option Bytes) (programs : List RawProgram) (rows : List (Option Version)) (versions : List world.Version) : Type 0 where
  pub each : (n : ℕ) (v : Version) → slice_get rows n ≡ Some (Some v) → IsVersion told programs versions n v
  pub next : length rows ≡ length versions
  pub whole : length programs ≡ length versions

-- Which versions are kept is told by objects and versions alone. Each kept one is there; others may be there until the turn
-- ends.
abbrev pub AreKept : List (Option Version) → List world.Object → List world.Version → Type 0
AreKept rows objects versions =
    (v : ProgId) → IsKept (record (new_world [] 0 0) { objects = objects; versions = versions }) v → IsSome (row_at rows v.0)

-- All else. What the state has beside cells, objects and versions, and what the world has.
pub record Others : Type 0 where
  pub names : Objects
  pub store : Files
  pub places : Places
  pub actions : Actions
  pub timers : Timing
  pub connections : Connecting
  pub simul : Option (List ℕ)
  pub clock : ℕ
  pub generator : ℕ

abbrev pub others_of : Live → Others
others_of l = record {
  names = l.names;
  store = l.store;
  places = l.places;
  actions = l.actions;
  timers = l.timers;
  connections = l.connections;
  simul = l.simul;
  clock = l.clock;
  generator = l.generator;
}

pub record Rest : Type 0 where
  pub files : List world.File
  pub simul : Option (List ℕ)
  pub places : List Lying
  pub shadows : List Shadowing
  pub sentences : List Sentence
  pub next_sentence : ℕ
  pub timing : Timing
  pub connections : List world.Connection
  pub highest : ℕ
  pub present : List ℕ
  pub waiting : List world.Waiting
  pub clock : ℕ
  pub generator : ℕ
  pub next_clone : ℕ

abbrev pub rest_of : World → Rest
rest_of w = record {
  files = w.files;
  simul = w.simul;
  places = w.places;
  shadows = w.shadows;
  sentences = w.sentences;
  next_sentence = w.next_sentence;
  timing = record { next = w.next_call_out; call_outs = w.call_outs; beats = w.beats; watches = w.watches };
  connections = w.connections;
  highest = w.highest;
  present = w.present;
  waiting = w.waiting;
  clock = w.clock;
  generator = w.generator;
  next_clone = w.next_clone;
}

abbrev pub connection_of : Connection → world.Connection
connection_of x = record { number = x.number; object = x.object }

abbrev pub waiting_of : Waiting → world.Waiting
waiting_of x = record { connection = x.connection; object = x.object; function = x.function; hides = x.hides; arguments = x.arguments }

-- Equal are: the files; the simul-efun name; places and shadow chains; sentences and timers; connections and what waits for
-- their lines; the clock; the generator; the next numbers of clones, sentences and call-outs.
pub record AreAlike (s : Others) (w : Rest) : Type 0 where
  pub files : (path : List ℕ) → file_at s.store path ≡ steps.file_at w.files path
  pub simul : s.simul ≡ w.simul
  pub places : places.Stands s.places w.places w.shadows
  pub sentences : Lists s.actions w.sentences
  pub next_sentence : next_in s.actions ≡ w.next_sentence
  pub timing : s.timers ≡ w.timing
  pub connections : map connection_of s.connections.opened ≡ w.connections
  pub highest : s.connections.highest ≡ w.highest
  pub present : s.connections.present ≡ w.present
  pub waiting : map waiting_of s.connections.waiting ≡ w.waiting
  pub clock : s.clock ≡ w.clock
  pub generator : s.generator ≡ w.generator
  pub next_clone : names.next_clone_in s.names ≡ w.next_clone

-- The state, with what its swap file tells and with the programs of all versions, stands for the world. Names, versions and
-- liveness of objects are those of the table of names too, which finds them and knows the next serial.
pub record Stands (told : Option Bytes) (programs : List RawProgram) (live : Live) (w : World) : Type 0 where
  pub cells : IsPart live.cells w.cells
  pub objects : AreObjects told live.cells w.cells live.objects w.objects
  pub names : names.Stands live.names (map named_of w.objects)
  pub versions : AreVersions told programs live.versions w.versions
  pub kept : AreKept live.versions w.objects w.versions
  pub rest : AreAlike (others_of live) (rest_of w)

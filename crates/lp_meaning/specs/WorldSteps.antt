-- What the driver does to the world in one step: names, connections, files, versions, objects and their end.
use Rattle.lp_meaning.specs.Limits.{max_live}
use Rattle.std.specs.Prelude.{ℕ, ◌+◌, List, [], ◌∷◌, ◌++◌, length, replicate, map, filter, find, Bool, true, false, not, Option, Some, None, option_map, is_some, nat_eq, nat_lt, pos, codes, if◌then◌else◌}
use Rattle.std.specs.List.{list_any, before_first}
use Rattle.lp_values.specs.declared.id.ObjId.{ObjId}
use Rattle.lp_values.specs.declared.id.ProgId.{ProgId}
use Rattle.lp_values.specs.declared.value.Value.TheVariants.{Int}
use Rattle.lp_events.specs.declared.out.Out.{Out}
use Rattle.lp_events.specs.declared.out.Out.TheVariants as outs
use Rattle.lp_instr.specs.EfunList.{is_name}
use Rattle.lp_language.specs.World.{File, Version, Object, Connection, World, object_at, version_at, is_live, object_named, with_object, with_version}
use Rattle.lp_timers.specs.Timers.{WatchKind, Reset, CleanUp, Watching}
use Rattle.lp_places.specs.Places.{is_object}
use Rattle.lp_language.specs.Resolve.{heritage, resolve, variable_count, without_c}
use Rattle.lp_places.specs.Places.{places_without, shadows_without}
use Rattle.lp_actions.specs.Actions.{kept_in_reach, sentences_without}
use Rattle.lp_timers.specs.Timers.{call_outs_without, beat_off, watches_without, watch_time}

-- Names

-- a name as an object has it: with a `/` before it, and without `.c` at its end
abbrev pub with_slash : List ℕ → List ℕ
with_slash [] = codes "/"
with_slash (c ∷ cs) = if nat_eq c 47 then c ∷ cs else 47 ∷ c ∷ cs

-- the name that a text means
abbrev pub as_name : List ℕ → List ℕ
as_name w = without_c (with_slash w)

-- the file of a name
abbrev pub file_of_name : List ℕ → List ℕ
file_of_name name = name ++ codes ".c"

-- a `#` stands in the names of clones alone
abbrev pub is_hash : ℕ → Bool
is_hash c = nat_eq c 35

-- the name of a clone
abbrev pub is_clone_name : List ℕ → Bool
is_clone_name name = list_any is_hash name

-- the name of the blueprint: what stands before the `#`
abbrev pub load_name : List ℕ → List ℕ
load_name name = before_first is_hash name

-- the live blueprint with a name
abbrev pub blueprint : World → List ℕ → Option ObjId
blueprint w name = if is_clone_name name then None else object_named w name

-- an object of this name was made once, live or not
abbrev pub was_made : World → List ℕ → Bool
was_made w name = list_any (λ x. is_name x.name name) w.objects

-- the version of an object, and its pragmas are those of its version
abbrev pub version_of_object : World → ObjId → Version
version_of_object w o = version_at w (object_at w o).version

-- the master's name
abbrev pub master_name : List ℕ
master_name = codes "/secure/master"

-- Connections

-- the connection of an object, and the object of an open connection
abbrev pub connection_of : World → ObjId → Option ℕ
connection_of w o = option_map (λ c. c.number) (find (λ c. is_object c.object o) w.connections)

-- the object of an open connection
abbrev pub holder_of : World → ℕ → Option ObjId
holder_of w k = option_map (λ c. c.object) (find (λ c. nat_eq c.number k) w.connections)

-- whether an object has a connection
abbrev pub is_connected : World → ObjId → Bool
is_connected w o = is_some (connection_of w o)

-- whether a connection is open
abbrev pub is_open : World → ℕ → Bool
is_open w k = is_some (holder_of w k)

-- an object gets a connection
abbrev pub with_connection : World → ℕ → ObjId → World
with_connection w k o = record w { connections = w.connections ++ record { number = k; object = o } ∷ [] }

-- a connection is open no longer, and what waited for its next line ends with it
abbrev pub without_connection : World → ℕ → World
without_connection w k =
    record w { connections = filter (λ c. not (nat_eq c.number k)) w.connections; waiting = filter (λ x. not (nat_eq x.connection k)) w.waiting }

-- the same, where there is one
abbrev pub without_connection_if : World → Option ℕ → World
without_connection_if w None = w
without_connection_if w (Some k) = without_connection w k

-- the driver closes the connection of an object, where it has one
abbrev pub closing : Option ℕ → List Out
closing None = []
closing (Some k) = outs.Close k ∷ []

-- the connection of one object goes to another one
abbrev pub given_to : ObjId → ℕ → Connection → Connection
given_to o k c = if nat_eq c.number k then record c { object = o } else c

-- a connection has another object
abbrev pub with_holder : World → ℕ → ObjId → World
with_holder w k o = record w { connections = map (given_to o k) w.connections }

-- Files

-- the bytes of a file
abbrev pub file_at : List File → List ℕ → Option (List ℕ)
file_at files path = option_map (λ f. f.bytes) (find (λ f. is_name f.path path) files)

-- a file with other bytes, or a new one
abbrev pub file_written : List File → List ℕ → List ℕ → List File
file_written [] path bytes = record { path = path; bytes = bytes } ∷ []
file_written (f ∷ fs) path bytes = if is_name f.path path then record { path = path; bytes = bytes } ∷ fs else f ∷ file_written fs path bytes

-- the files without one
abbrev pub file_removed : List File → List ℕ → List File
file_removed files path = filter (λ f. not (is_name f.path path)) files

-- Versions and objects

-- how many objects are live
abbrev pub live_count : World → ℕ
live_count w = length (filter (λ x. x.is_live) w.objects)

-- whether one more object may live
abbrev pub has_room : World → Bool
has_room w = nat_lt (live_count w) max_live

-- the serials of the next version and of the next object
abbrev pub next_version : World → ProgId
next_version w = record { 0 = length w.versions }

-- the serial of the next object
abbrev pub next_object : World → ObjId
next_object w = record { 0 = length w.objects }

-- one version more
abbrev pub with_new_version : World → Version → World
with_new_version w v = record w { versions = w.versions ++ v ∷ [] }

-- an object is watched for a call where its program has the function
abbrev pub watch_if : Bool → WatchKind → ObjId → ℕ → List Watching
watch_if has kind o now = if has then record { object = o; kind = kind; next = now + watch_time kind } ∷ [] else []

-- whether resolve gives a function of a name in a version
abbrev pub has_function : World → ProgId → List ℕ → Bool
has_function w v name = is_some (resolve (heritage w v) name)

-- Making an object: its variables are 0, its latest clock is that of its making, and it is watched for `reset` and `clean_up`.
abbrev pub with_new_object : World → List ℕ → ProgId → World
with_new_object w name v =
    record w {
      objects = w.objects ++ record { name = name; version = v; is_live = true; is_living = false; variables = replicate (variable_count (heritage w v)) (Int (pos 0)); latest = w.clock } ∷ [];
      watches = w.watches ++ watch_if (has_function w v (codes "reset")) Reset (next_object w) w.clock ++ watch_if (has_function w v (codes "clean_up")) CleanUp (next_object w) w.clock;
    }

-- A function entry counts for the object, for the object's version, and for the version in whose text the function stands.
abbrev pub version_entered : World → ProgId → World
version_entered w v = with_version w v (record (version_at w v) { latest = w.clock })

-- the world after a function entry of an object, in the text of a version
abbrev pub entered : World → ObjId → ProgId → World
entered w o v =
    version_entered (version_entered (with_object w o (record (object_at w o) { latest = w.clock })) (object_at w o).version) v

-- Destruction: the object is live no longer. It leaves its environment, and what is in it is nowhere; it leaves its chain of
-- shadows, and its own shadows shadow nothing; its call-outs, heart beat, watches and the actions that it holds end, and each
-- action whose giver is then out of reach; its connection is closed.
abbrev pub dead : Object → Object
dead x = record x { is_live = false; is_living = false }

-- the world without a live object, but with its connection
abbrev pub without_object : World → ObjId → World
without_object w o =
    record (with_object w o (dead (object_at w o))) {
      places = places_without w.places o;
      shadows = shadows_without w.shadows o;
      sentences = kept_in_reach (places_without w.places o) (sentences_without w.sentences o);
      call_outs = call_outs_without w.call_outs o;
      beats = beat_off w.beats o;
      watches = watches_without w.watches o;
    }

-- the world after a destruction; a dead object stays as it is
abbrev pub destructed : World → ObjId → World
destructed w o = if is_live w o then without_connection_if (without_object w o) (connection_of w o) else w

-- and the outputs of it
abbrev pub destruction : World → ObjId → List Out
destruction w o = if is_live w o then closing (connection_of w o) else []

-- Reload: the file has a new text, and where its path ends in `.c` the live blueprint of that path is destructed. Nothing else changes.
abbrev pub reloaded_blueprint : World → List ℕ → Option ObjId
reloaded_blueprint w path = if is_name (without_c path) path then None else blueprint w (without_c path)

-- a file with other bytes, or a new one
abbrev pub with_file : World → List ℕ → List ℕ → World
with_file w path bytes = record w { files = file_written w.files path bytes }

-- the same, where there is an object
abbrev pub destructed_if : World → Option ObjId → World
destructed_if w None = w
destructed_if w (Some o) = destructed w o

-- the world after a reload
abbrev pub reloaded : World → List ℕ → List ℕ → World
reloaded w path bytes = destructed_if (with_file w path bytes) (reloaded_blueprint w path)

-- and its outputs: the blueprint may have had a connection
abbrev pub reload_outputs : World → List ℕ → List Out
reload_outputs w path = elim (reloaded_blueprint w path) [ Some o ↦ destruction w o | None ↦ [] ]

-- Loads and clones.
use Rattle.lp_meaning.specs.Limits.{max_nested, load_price}
use Rattle.std.specs.Prelude.{ℕ, zero, suc, ◌+◌, List, [], ◌∷◌, ◌++◌, map, find, Bool, not, ◌||◌, Option, Some, None, option_map, is_some, unwrap_or, nat_lt, codes, decimal, encode_utf8_all, chars, if◌then◌else◌}
use Rattle.std.specs.List.{list_any}
use Rattle.lp_tree.specs.declared.pragma.Pragmas.{Pragmas}
use Rattle.lp_tree.specs.declared.fault.Fault.{Fault}
use Rattle.lp_tree.specs.declared.fault.FaultKind.{FaultKind}
use Rattle.lp_tree.specs.declared.fault.FaultKind.TheVariants as faults
use Rattle.lp_tree.specs.FaultText.{text_of}
use Rattle.lp_tree.specs.Units.{ItemTree, Inherit, Proto, Fun, Var}
use Rattle.lp_values.specs.declared.id.ObjId.{ObjId}
use Rattle.lp_values.specs.declared.id.ProgId.{ProgId}
use Rattle.lp_values.specs.declared.value.Value.{Value}
use Rattle.lp_values.specs.declared.value.Value.TheVariants.{Int, Str, Arr, Map, Obj}
use Rattle.lp_values.specs.declared.error.RunError.{RunError}
use Rattle.lp_values.specs.declared.error.ErrorKind.TheVariants.{BadTarget, CouldNotLoad, NoClone, TooMany}
use Rattle.lp_values.specs.Errors.{error, plain}
use Rattle.lp_events.specs.declared.out.Out.{Out}
use Rattle.lp_events.specs.declared.out.Out.TheVariants as outs
use Rattle.lp_instr.specs.EfunList.{is_name}
use Rattle.lp_language.specs.World.{World, Version, object_at, is_live, object_named}
use Rattle.lp_language.specs.Course.{State, Stop, Cause, Thrown, Failed, Spent, End, Gives, Stops, Loading, LoadKind, Wanted, Inherited, Ask, Load, Read, Check, Apply, Initialise, Reply, Plain, WasRead, IsSound, IsFaulty, Course, Over, and_then, in_any_case, gives, stops, paying, zero_value}
use Rattle.lp_language.specs.Resolve.{Heritage, Part, version_of, own_variables, has_initialiser, parts, heritage_of, callable_names, or_else, without_c}
use Rattle.lp_meaning.specs.WorldSteps.{as_name, file_of_name, is_clone_name, blueprint, version_of_object, master_name, has_room, next_version, next_object, with_new_version, with_new_object}
use Rattle.lp_meaning.specs.Askers.{Asker, asker_of, state_of, ask_reply, ask_value, told, error_record}
use Rattle.lp_meaning.specs.FunctionCalls.{placed_stop, place_of_asker}

-- Faults

-- the log record of a fault: `FILE line N: TEXT`
abbrev pub fault_record : Fault → Out
fault_record f = outs.Log (chars f.file ++ codes " line " ++ decimal f.line ++ codes ": " ++ text_of f.kind)

-- A file does not compile: each fault is logged, and they are the answer.
abbrev pub faulty : List Fault → State → Course Reply
faulty fs s = gives (IsFaulty fs) (told (map fault_record fs) s)

-- the name whose file failed
abbrev pub failed_name : List ℕ → List Fault → List ℕ
failed_name name [] = name
failed_name name (f ∷ fs) = without_c (chars f.file)

-- and the error of it: `Could not load NAME`
abbrev pub could_not_load : List ℕ → List Fault → RunError
could_not_load name fs = error CouldNotLoad (failed_name name fs)

-- Making an object: it is made; its initialisers run, those of the inherited programs first; `create` is applied.

-- the parts of a program that have initialisers, in order
abbrev pub initialised_from : ℕ → List Part → List ℕ
initialised_from n [] = []
initialised_from n (p ∷ ps) =
    if has_initialiser (own_variables (version_of p.tree).items) then n ∷ initialised_from (suc n) ps else initialised_from (suc n) ps

-- and of a whole tree
abbrev pub initialised_parts : Heritage → List ℕ
initialised_parts h = initialised_from 0 (parts h)

-- the initialisers of these parts run, one part after another
abbrev pub initialising : Asker → ObjId → List ℕ → State → Course Value
initialising by o [] s = gives zero_value s
initialising by o (n ∷ ns) s = and_then (ask_value (Initialise o n) [] by s) (λ v s. initialising by o ns s)

-- an object begins: its initialisers run, and then `create` is applied, whatever became of the object
abbrev pub beginning : Asker → ObjId → State → Course Reply
beginning by o s =
    and_then (initialising by o (initialised_parts (heritage_of s.world o)) s) (λ v s.
    and_then (ask_value (Apply o (codes "create")) [] by s) (λ v s. gives (Plain (Obj o)) s))

-- An error there leaves the object and goes to who asked. Where the load was made for an `inherit`, the error is logged instead,
-- and the load goes on; a spent budget is not caught.
abbrev pub logged_cause : Asker → ObjId → Stop → State → Cause → End Reply
logged_cause by o x s (Thrown v) = Gives (Plain (Obj o)) (told (error_record (placed_stop (place_of_asker s.world by) x) ∷ []) s)
logged_cause by o x s (Failed e) = Gives (Plain (Obj o)) (told (error_record (placed_stop (place_of_asker s.world by) x) ∷ []) s)
logged_cause by o x s Spent = Stops x s

-- the end of a load by what it was made for
abbrev pub begun_end : LoadKind → Asker → ObjId → End Reply → End Reply
begun_end Wanted by o e = e
begun_end Inherited by o (Gives r s) = Gives r s
begun_end Inherited by o (Stops x s) = logged_cause by o x s x.cause

-- an object of a version is made and begins, where there is room
abbrev pub making : LoadKind → Asker → List ℕ → ProgId → State → Course Reply
making kind by name v s =
    if has_room s.world then
    in_any_case (beginning by (next_object s.world) (record s { world = with_new_object s.world name v })) (λ e. Over (begun_end kind by (next_object s.world) e))
    else stops (Failed (plain TooMany)) s

-- The load of a file

-- a load of this name is under way
abbrev pub is_under_way : List ℕ → List Loading → Bool
is_under_way name loads = list_any (λ l. is_name l.name name) loads

-- A parent that a file names: its name, and the line of the `inherit`.
pub record Parent : Type 0 where
  pub name : List ℕ
  pub line : ℕ

-- the parents that a file names, in the order of its inherits
abbrev pub parents_in : List ItemTree → List Parent
parents_in [] = []
parents_in (Inherit line path ∷ is) = record { name = as_name path; line = line } ∷ parents_in is
parents_in (Proto line ms ty name ps ∷ is) = parents_in is
parents_in (Fun line ms ty name ps b ∷ is) = parents_in is
parents_in (Var line ms base ds ∷ is) = parents_in is

-- a version that this load made for a parent
pub record Made : Type 0 where
  pub name : List ℕ
  pub version : ProgId

-- A parent's version is that of the blueprint that this load made for it, whether or not that blueprint still lives, and else
-- that of its live blueprint.
abbrev pub made_for : List Made → List ℕ → Option ProgId
made_for made name = option_map (λ m. m.version) (find (λ m. is_name m.name name) made)

-- the version of a parent, where it is known
abbrev pub known_version : World → List Made → List ℕ → Option ProgId
known_version w made name = or_else (made_for made name) (option_map (λ o. (object_at w o).version) (blueprint w name))

-- the same, where it is known to be known
abbrev pub version_known : World → List Made → Parent → ProgId
version_known w made p = unwrap_or (known_version w made p.name) (record { 0 = 0 })

-- the first parent that has neither
abbrev pub first_missing : World → List Made → List Parent → Option Parent
first_missing w made ps = find (λ p. not (is_some (known_version w made p.name))) ps

-- The simul-efun object is loaded before a file is read, where it is not live and its own load is not under way.
abbrev pub simul_missing : World → List Loading → Option (List ℕ)
simul_missing w loads =
    elim w.simul [ Some name ↦ if is_some (object_named w name) || is_under_way name loads then None else Some name | None ↦ None ]

-- A file sees the functions of that object that any object may call; while its load is under way, or where it is not live, none.
abbrev pub simul_names : World → List Loading → List (List ℕ)
simul_names w loads = elim w.simul [
  | Some name ↦ if is_under_way name loads then [] else elim (object_named w name) [ Some o ↦ callable_names (heritage_of w o) | None ↦ [] ]
  | None ↦ []
]

-- the object that a load answers, live or not
abbrev pub object_of_value : Value → Option ObjId
object_of_value (Int n) = None
object_of_value (Str t) = None
object_of_value (Arr c) = None
object_of_value (Map c) = None
object_of_value (Obj o) = Some o

-- after a load for this one: faults end this one too
abbrev pub with_object_of : Option ObjId → State → (ObjId → State → Course Reply) → Course Reply
with_object_of None s go = gives (Plain zero_value) s
with_object_of (Some o) s go = go o s

-- after a load for this one: its object, or its faults, which end this one too
abbrev pub after_load : Reply → State → (ObjId → State → Course Reply) → Course Reply
after_load (Plain v) s go = with_object_of (object_of_value v) s go
after_load (WasRead items pragmas) s go = gives (Plain zero_value) s
after_load IsSound s go = gives (Plain zero_value) s
after_load (IsFaulty fs) s go = gives (IsFaulty fs) s

-- Where an object of the file's own name lives by then, the load ends with that object.
abbrev pub unless_there : List ℕ → State → (State → Course Reply) → Course Reply
unless_there name s go = elim (object_named s.world name) [ Some o ↦ gives (Plain (Obj o)) s | None ↦ go s ]

-- a fault of a file of this name
abbrev pub file_fault : List ℕ → ℕ → FaultKind → Fault
file_fault name line kind = record { file = encode_utf8_all (file_of_name name); line = line; kind = kind }

-- the version of a file that is compiled now
abbrev pub version_now : World → List ℕ → List ItemTree → Pragmas → List ProgId → List (List ℕ) → Version
version_now w name items pragmas parents simuls =
    record { path = file_of_name name; items = items; parents = parents; pragmas = pragmas; simuls = simuls; latest = w.clock }

-- What was read is checked with the versions of its parents; where it is sound, the version and the object are made.
abbrev pub after_check : LoadKind → Asker → List ℕ → Version → Reply → State → Course Reply
after_check kind by name v (Plain x) s = gives (Plain x) s
after_check kind by name v (WasRead items pragmas) s = gives (WasRead items pragmas) s
after_check kind by name v IsSound s = making kind by name (next_version s.world) (record s { world = with_new_version s.world v })
after_check kind by name v (IsFaulty fs) s = faulty fs s

-- what was read, whose parents are all known, is checked
abbrev pub checking : LoadKind → Asker → List ℕ → List ItemTree → Pragmas → List ProgId → State → Course Reply
checking kind by name items pragmas parents s =
    let simuls : List (List ℕ) = simul_names s.world by.loads in
    let v : Version = version_now s.world name items pragmas parents simuls in
    and_then (ask_reply (Check (file_of_name name) items pragmas parents simuls) [] by s) (λ r s. after_check kind by name v r s)

-- A parent is loaded, and then the file is read again, unless an object of its name lives by then.
abbrev pub parent_loaded : Asker → List ℕ → List Made → (List Made → State → Course Reply) → Parent → State → Course Reply
parent_loaded by name made again p s =
    and_then (ask_reply (Load p.name Inherited) [] by s) (λ r s.
    after_load r s (λ o s.
    unless_there name s (again (record { name = p.name; version = (object_at s.world o).version } ∷ made))))

-- A parent that is not known is loaded, unless its load is under way already, or loads are nested too deep.
abbrev pub parent_missing : Asker → ℕ → List ℕ → List Made → (List Made → State → Course Reply) → Parent → State → Course Reply
parent_missing by nested name made again p s =
    if is_under_way p.name by.loads then faulty (file_fault name p.line faults.Cycle ∷ []) s
    else (if nat_lt max_nested (suc nested) then faulty (file_fault name p.line faults.InheritDepth ∷ []) s
    else parent_loaded by name made again p s)

-- What was read names parents. The first that is not known is loaded, and then the file is read again; once all are known it is checked.
abbrev pub with_parents : LoadKind → Asker → ℕ → List ℕ → List Made → (List Made → State → Course Reply) → List ItemTree → Pragmas → State → Course Reply
with_parents kind by nested name made again items pragmas s = elim (first_missing s.world made (parents_in items)) [
  | None ↦ checking kind by name items pragmas (map (version_known s.world made) (parents_in items)) s
  | Some p ↦ parent_missing by nested name made again p s
]

-- what a reading leads to: its faults end the load
abbrev pub after_read : LoadKind → Asker → ℕ → List ℕ → List Made → (List Made → State → Course Reply) → Reply → State → Course Reply
after_read kind by nested name made again (Plain x) s = gives (Plain x) s
after_read kind by nested name made again IsSound s = gives IsSound s
after_read kind by nested name made again (IsFaulty fs) s = faulty fs s
after_read kind by nested name made again (WasRead items pragmas) s = with_parents kind by nested name made again items pragmas s

-- Each turn pays for a load, so that the budget bounds the turns.
abbrev pub reading : ℕ → LoadKind → Asker → ℕ → List ℕ → List Made → State → Course Reply
reading zero kind by nested name made s = stops Spent s
reading (suc n) kind by nested name made s =
    and_then (ask_reply (Read (file_of_name name)) [] by s) (λ r s. after_read kind by nested name made (λ made s. reading n kind by nested name made s) r s)

-- the simul-efun object first
abbrev pub with_simul : LoadKind → Asker → List ℕ → State → (State → Course Reply) → Course Reply
with_simul kind by name s go = elim (simul_missing s.world by.loads) [
  | Some simul ↦ and_then (ask_reply (Load simul Inherited) [] by s) (λ r s. after_load r s (λ o s. unless_there name s go))
  | None ↦ go s
]

-- how many loads for an `inherit` led to a load, one after another
abbrev pub nested_in : LoadKind → List Loading → ℕ
nested_in Wanted loads = 0
nested_in Inherited [] = 1
nested_in Inherited (l ∷ ls) = suc l.nested

-- the load itself is under way while it asks
abbrev pub under_way : Asker → List ℕ → ℕ → Asker
under_way by name nested = record by { loads = record { name = name; nested = nested } ∷ by.loads }

-- A load pays 1000 at its beginning.
abbrev pub load_call : Ask → List ℕ → LoadKind → Course Reply
load_call a name kind =
    let nested : ℕ = nested_in kind a.loads in
    let by : Asker = under_way (asker_of a) name nested in
    paying load_price (state_of a) (λ s. with_simul kind by name s (λ s. reading (suc s.budget) kind by nested name [] s))

-- What names an object

-- the object that a load gave, or the error of its faults
abbrev pub loaded_value : List ℕ → Reply → State → Course Value
loaded_value name (Plain v) s = gives v s
loaded_value name (WasRead items pragmas) s = gives zero_value s
loaded_value name IsSound s = gives zero_value s
loaded_value name (IsFaulty fs) s = stops (Failed (could_not_load name fs)) s

-- an object is loaded for LPC or for the driver
abbrev pub load_value : Asker → List ℕ → State → Course Value
load_value by name s = and_then (ask_reply (Load name Wanted) [] by s) (λ r s. loaded_value name r s)

-- A text names an object, which is loaded where it does not live; a name with `#` that does not live is an error.
abbrev pub text_target : Asker → List ℕ → State → Course Value
text_target by text s = elim (object_named s.world (as_name text)) [
  | Some o ↦ gives (Obj o) s
  | None ↦ if is_clone_name (as_name text) then stops (Failed (plain BadTarget)) s else load_value by (as_name text) s
]

-- the live object that a value is
abbrev pub live_object : World → Value → Option ObjId
live_object w v = elim (object_of_value v) [ Some o ↦ if is_live w o then Some o else None | None ↦ None ]

-- a value that is no live object is no target
abbrev pub as_target : Value → State → (ObjId → State → Course Value) → Course Value
as_target v s go = elim (live_object s.world v) [ Some o ↦ go o s | None ↦ stops (Failed (plain BadTarget)) s ]

-- A clone of a live blueprint: a program with the pragma `no_clone` is not cloned; the number is the next, and is never given again.
abbrev pub with_clone_number : World → World
with_clone_number w = record w { next_clone = w.next_clone + 1 }

-- the name of the next clone
abbrev pub clone_name : World → List ℕ → List ℕ
clone_name w name = name ++ codes "#" ++ decimal w.next_clone

-- the object that was made, as a value
abbrev pub object_reply : Reply → State → Course Value
object_reply (Plain v) s = gives v s
object_reply _ s = gives zero_value s

-- the pragma is looked at first, then whether there is room; only then the number is given
abbrev pub cloning : Asker → List ℕ → ObjId → State → Course Value
cloning by name o s =
    if (version_of_object s.world o).pragmas.no_clone then stops (Failed (plain NoClone)) s
    else (if has_room s.world then
    and_then (making Wanted by (clone_name s.world name) (object_at s.world o).version (record s { world = with_clone_number s.world })) object_reply
    else stops (Failed (plain TooMany)) s)

-- `clone_object` of a name: the blueprint is loaded where it does not live, and is no target where it does not live then
abbrev pub clone_of : Asker → List ℕ → State → Course Value
clone_of by name s =
    if is_clone_name name then stops (Failed (plain BadTarget)) s
    else elim (object_named s.world name) [
      | Some o ↦ cloning by name o s
      | None ↦ and_then (load_value by name s) (λ v s. as_target v s (λ o s. cloning by name o s))
    ]

-- A call to the master by an efun is an apply; the master is loaded first where it does not live, and where it does not live
-- then the call answers 0.
abbrev pub master_call : Asker → List ℕ → List Value → State → Course Value
master_call by fun xs s = elim (object_named s.world master_name) [
  | Some m ↦ ask_value (Apply m fun) xs by s
  | None ↦ and_then (load_value by master_name s) (λ v s.
      elim (live_object s.world v) [ Some m ↦ ask_value (Apply m fun) xs by s | None ↦ gives zero_value s ])
]

-- Calls: which function a call reaches, and its entry.
use Rattle.lp_meaning.specs.Limits.{max_depth}
use Rattle.std.specs.Prelude.{ℕ, suc, List, [], ◌∷◌, Bool, ◌||◌, Option, Some, None, nat_lt, codes, if◌then◌else◌}
use Rattle.lp_values.specs.declared.id.ObjId.{ObjId}
use Rattle.lp_values.specs.declared.value.Value.{Value}
use Rattle.lp_values.specs.declared.error.ErrorKind.TheVariants.{TooDeep}
use Rattle.lp_values.specs.Errors.{plain}
use Rattle.lp_instr.specs.EfunList.{is_name}
use Rattle.lp_language.specs.World.{World, object_at, version_at}
use Rattle.lp_language.specs.Course.{Scene, State, Place, Stop, Failed, End, Gives, Stops, Ask, Reply, Plain, Course, Over, in_any_case, gives, stops, paying, zero_value}
use Rattle.lp_language.specs.Resolve.{Heritage, Part, Found, Target, number_of, part_at, heritage_of, function_of, internal, of_parent, shadow_target, first_with, chain_of, or_else, without_c}
use Rattle.lp_meaning.specs.WorldSteps.{entered}
use Rattle.lp_meaning.specs.Askers.{Asker, asker_of, state_of, plainly}
use Rattle.lp_language.specs.Eval.{Site}
use Rattle.lp_language.specs.Exec.{body_of, first_locals, initialisers_of}

-- the callers of a function that who asks calls in an object: who asks is the latest; where the driver asks there is none
abbrev pub callers_behind : Option Scene → List ObjId
callers_behind None = []
callers_behind (Some c) = c.this ∷ c.callers

-- how deep a function is that who asks calls: 1 where the driver asks
abbrev pub depth_behind : Option Scene → ℕ
depth_behind None = 1
depth_behind (Some c) = suc c.depth

-- A part that is not there reads as the whole tree.
abbrev pub part_or_whole : Heritage → Option Part → Part
part_or_whole h None = record { tree = h; first = 0; base = 0 }
part_or_whole h (Some p) = p

-- the part of an object with a number
abbrev pub part_of : World → ObjId → ℕ → Part
part_of w o n = part_or_whole (heritage_of w o) (part_at (heritage_of w o) n)

-- Where a function of an object's part runs, and of which text it is.
abbrev pub scene_in : Asker → ObjId → ℕ → Part → List ℕ → List ObjId → Scene
scene_in by o n p name callers = record {
  this = o;
  part = n;
  version = number_of p.tree;
  base = p.base;
  function = name;
  interactive = by.interactive;
  loads = by.loads;
  callers = callers;
  depth = depth_behind by.scene;
}

-- and the text with it
abbrev pub site_in : Asker → World → ObjId → ℕ → List ℕ → List ObjId → Site
site_in by w o n name callers = record { tree = (part_of w o n).tree; scene = scene_in by o n (part_of w o n) name callers }

-- The place of a function: its name, the path without `.c` of the program in whose text it stands, and its object's name.
abbrev pub place_of : World → Scene → Place
place_of w c = record { function = c.function; program = without_c (version_at w c.version).path; object = (object_at w c.this).name }

-- a stop without a place is in this function
abbrev pub placed_stop : Option Place → Stop → Stop
placed_stop p x = record x { place = or_else x.place p }

-- an end, where a stop without a place gets this one
abbrev pub placed_end : {A : Type 0} → Place → End A → End A
placed_end p (Gives v s) = Gives v s
placed_end p (Stops x s) = Stops (placed_stop (Some p) x) s

-- a course likewise
abbrev pub placed : {A : Type 0} → Place → Course A → Course A
placed p c = in_any_case c (λ e. Over (placed_end p e))

-- the place of who asks, where a function does
abbrev pub place_of_asker : World → Asker → Option Place
place_of_asker w by = elim by.scene [ Some c ↦ Some (place_of w c) | None ↦ None ]

-- A function entry: 1 is paid; at a depth above 100 it is an error; then the entry counts, and the body runs.
abbrev pub entering : Scene → (State → Course Value) → State → Course Value
entering c body s =
    paying 1 s (λ s.
    if nat_lt max_depth c.depth then stops (Failed (plain TooDeep)) s
    else placed (place_of s.world c) (body (record s { world = entered s.world c.this c.version })))

-- a function of an object runs, with its parameters as its first locals
abbrev pub calling : Ask → ObjId → List ObjId → Found → Course Reply
calling a o callers f =
    let c : Site = site_in (asker_of a) a.world o f.part f.function.name callers in
    plainly (entering c.scene (body_of c f.function) (record (state_of a) { locals = first_locals f.function a.arguments }))

-- a function that there is not answers 0
abbrev pub nothing_called : Ask → Course Reply
nothing_called a = gives (Plain zero_value) (state_of a)

-- a function is called where there is one
abbrev pub calling_if : Ask → ObjId → List ObjId → Option Found → Course Reply
calling_if a o callers None = nothing_called a
calling_if a o callers (Some f) = calling a o callers f

-- a function of the object that a search found is called
abbrev pub calling_target : Ask → List ObjId → Option Target → Course Reply
calling_target a callers None = nothing_called a
calling_target a callers (Some t) = calling a t.object callers t.found

-- An internal call, and a call of a parent's function, stay in the object and have the same callers.
abbrev pub internal_call : Ask → List ℕ → Course Reply
internal_call a name = elim a.scene [ Some c ↦ calling_if a c.this c.callers (internal a.world c name) | None ↦ nothing_called a ]

-- a function of one of the parents of the calling part
abbrev pub parent_call : Ask → ℕ → List ℕ → Course Reply
parent_call a inherit name = elim a.scene [ Some c ↦ calling_if a c.this c.callers (of_parent a.world c inherit name) | None ↦ nothing_called a ]

-- A call from outside goes to the first callable function of the chain of shadows.
abbrev pub other_call : Ask → ObjId → List ℕ → Course Reply
other_call a o name = elim a.scene [ Some c ↦ calling_target a (c.this ∷ c.callers) (shadow_target a.world c.this o name) | None ↦ nothing_called a ]

-- An apply reaches what resolve gives, whatever its modifiers. One of `init`, `logon` or `catch_tell` goes to the outermost
-- shadow that has the function, every other one to the object itself.
abbrev pub goes_to_shadows : List ℕ → Bool
goes_to_shadows name = is_name name (codes "init") || is_name name (codes "logon") || is_name name (codes "catch_tell")

-- An apply of a missing function answers 0.
abbrev pub apply_call : Ask → ObjId → List ℕ → Course Reply
apply_call a o name =
    if goes_to_shadows name then calling_target a (callers_behind a.scene) (first_with a.world (chain_of a.world o) name)
    else calling_if a o (callers_behind a.scene) (function_of a.world o name)

-- The initialisers of one part of an object's program run as one function without parameters.
abbrev pub initialise_call : Ask → ObjId → ℕ → Course Reply
initialise_call a o part =
    let c : Site = site_in (asker_of a) a.world o part (codes "__INIT") (callers_behind a.scene) in
    plainly (entering c.scene (initialisers_of c) (state_of a))

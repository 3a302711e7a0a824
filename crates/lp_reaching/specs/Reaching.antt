-- What a question reaches, and what an entry leaves.
use Rattle.std.specs.Prelude.{◌≡◌, ◌+◌, ◌<◌, ◌++◌, ℕ, List, Option, None, Some, IsSome, length, reverse, true}
use Rattle.std.specs.Option.{option_to_list}
use Rattle.lp_values.specs.declared.id.ObjId.{ObjId}
use Rattle.lp_code.specs.declared.program.RawProgram.{RawProgram}
use Rattle.lp_swapfile.specs.Device.{Bytes}
use Rattle.lp_language.specs.World.{World}
use Rattle.lp_language.specs.Course.{Apply, Ask, Initialise, Other, Scene}
use Rattle.lp_language.specs.Resolve.{Part, heritage_of, part_at}
use Rattle.lp_meaning.specs.FunctionCalls.{callers_behind, nothing_called}
use Rattle.lp_meaning.specs.Questions.{means}
use Rattle.lp_world.specs.declared.live.Live.{Live}
use Rattle.lp_world.specs.declared.objects.Object.{Object}
use Rattle.lp_world.specs.Rows.{row_at, variables_at}
use Rattle.lp_step_laws.specs.Running.{HasVariables}
use Rattle.lp_frames.specs.declared.entry.Callee.{Callee}
use Rattle.lp_asking.specs.declared.asker.Asker.{Asker}
use Rattle.lp_asking.specs.declared.question.Question.{Question}
use Rattle.lp_asking.specs.Asking.{Means, code_in}
use Rattle.lp_targets.specs.Callees.{IsWorldOf}
use Rattle.lp_initialisers.specs.Rows.{has_initialisers}
use Rattle.lp_reaching.specs.declared.reached.Reached.{Reached}
use Rattle.lp_reaching.specs.Compiled.{IsCallee, IsCaller}
use Rattle.lp_reaching.specs.Subjects.{Subject, calling_subject}

-- Questions

-- A running function asks a question of the meaning so: it runs in this part of this object, and its program is that of the
-- part.
pub record AsksInside (programs : List RawProgram) (asker : Asker) (this : ObjId) (part : ℕ) (code : RawProgram) (question : Question) (a : Ask) : Type 0 where
  pub scene : Scene
  pub scene_is : a.scene ≡ Some scene
  pub this_is : scene.this ≡ this
  pub part_is : scene.part ≡ part
  pub callers : scene.callers ≡ reverse asker.callers.items
  pub caller : IsCaller programs a.world scene.this scene.part code
  pub what : Means (code_in programs code) question a.what

-- so does one in some world
pub record CanAsk (told : Option Bytes) (live : Live) (this : ObjId) (part : ℕ) (code : RawProgram) (question : Question) : Type 0 where
  pub programs : List RawProgram
  pub asker : Asker
  pub ask : Ask
  pub asks : AsksInside programs asker this part code question ask
  pub world : IsWorldOf told programs live ask.world

-- A running function calls a function of another object, or of its own, from outside: it runs in this object.
pub record AsksOutside (asker : Asker) (this ob : ObjId) (name : List ℕ) (a : Ask) : Type 0 where
  pub scene : Scene
  pub scene_is : a.scene ≡ Some scene
  pub this_is : scene.this ≡ this
  pub callers : scene.callers ≡ reverse asker.callers.items
  pub what : a.what ≡ Other ob name

pub record CanAskOutside (told : Option Bytes) (live : Live) (this ob : ObjId) (name : List ℕ) : Type 0 where
  pub programs : List RawProgram
  pub asker : Asker
  pub ask : Ask
  pub asks : AsksOutside asker this ob name ask
  pub world : IsWorldOf told programs live ask.world

-- The driver or an efun applies a function of an object: for an efun the object that called it is the latest caller.
pub record Applies (asker : Asker) (caller : Option ObjId) (ob : ObjId) (name : List ℕ) (a : Ask) : Type 0 where
  pub callers : callers_behind a.scene ≡ reverse (asker.callers.items ++ option_to_list caller)
  pub what : a.what ≡ Apply ob name

pub record CanApply (told : Option Bytes) (live : Live) (caller : Option ObjId) (ob : ObjId) (name : List ℕ) : Type 0 where
  pub programs : List RawProgram
  pub asker : Asker
  pub ask : Ask
  pub asks : Applies asker caller ob name ask
  pub world : IsWorldOf told programs live ask.world

-- The initialisers of a part of an object's program are called, which has some; by the driver, or by an efun, for which the
-- object that called it is the latest caller.
pub record Initialises (asker : Asker) (caller : Option ObjId) (ob : ObjId) (part : ℕ) (a : Ask) : Type 0 where
  pub callers : callers_behind a.scene ≡ reverse (asker.callers.items ++ option_to_list caller)
  pub what : a.what ≡ Initialise ob part
  pub place : Part
  pub at : part_at (heritage_of a.world ob) part ≡ Some place
  pub has : has_initialisers place.tree ≡ true

pub record CanInitialise (told : Option Bytes) (live : Live) (caller : Option ObjId) (ob : ObjId) (part : ℕ) : Type 0 where
  pub programs : List RawProgram
  pub asker : Asker
  pub ask : Ask
  pub asks : Initialises asker caller ob part ask
  pub world : IsWorldOf told programs live ask.world

-- What a question reaches

-- the function of a callee is there, and its object in memory, with the variables of the part
pub record IsInMemory (live : Live) (callee : Callee) (p : RawProgram) : Type 0 where
  pub row : callee.fun < length p.funs
  pub variables : HasVariables (variables_at live.objects callee.this) (callee.base + length p.tables.vars)
  pub object : IsSome (row_at live.objects callee.this.0)
  pub version : IsSome (row_at live.versions callee.program.0)

-- A question means that this is called in an object, with these callers; the state still stands for its world.
pub record Reaches (told : Option Bytes) (programs : List RawProgram) (live : Live) (asker : Asker) (a : Ask) (x : Reached) : Type 0 where
  pub callers : List ObjId
  pub subject : Subject
  pub means_it : means a ≡ Some (calling_subject a x.callee.this callers subject)
  pub callers_are : callers ≡ reverse (asker.callers.items ++ option_to_list x.caller)
  pub callee : IsCallee programs a.world x.callee x.callee.this subject
  pub code : callee.code ≡ x.code
  pub world : IsWorldOf told programs live a.world

-- or that there is none
abbrev pub ReachesIf : Option Bytes → List RawProgram → Live → Asker → Ask → Option Reached → Type 0
ReachesIf told programs live asker a None = (means a ≡ Some (nothing_called a)) × IsWorldOf told programs live a.world
ReachesIf told programs live asker a (Some x) = Reaches told programs live asker a x

-- so for every question of the meaning that a running function asks so
abbrev pub Finds : ObjId → ℕ → RawProgram → Question → Option Bytes → Live → Option Bytes → Live → Option Reached → Type 0
Finds this part code question told0 live0 told1 live1 r =
    (programs : List RawProgram) (asker : Asker) (a : Ask) → AsksInside programs asker this part code question a → IsWorldOf told0 programs live0 a.world → ReachesIf told1 programs live1 asker a r

-- for every call from outside
abbrev pub FindsOutside : ObjId → ObjId → List ℕ → Option Bytes → Live → Option Bytes → Live → Option Reached → Type 0
FindsOutside this ob name told0 live0 told1 live1 r =
    (programs : List RawProgram) (asker : Asker) (a : Ask) → AsksOutside asker this ob name a → IsWorldOf told0 programs live0 a.world → ReachesIf told1 programs live1 asker a r

-- for every apply
abbrev pub FindsApplied : Option ObjId → ObjId → List ℕ → Option Bytes → Live → Option Bytes → Live → Option Reached → Type 0
FindsApplied caller ob name told0 live0 told1 live1 r =
    (programs : List RawProgram) (asker : Asker) (a : Ask) → Applies asker caller ob name a → IsWorldOf told0 programs live0 a.world → ReachesIf told1 programs live1 asker a r

-- and for every call of initialisers
abbrev pub FindsInitialisers : Option ObjId → ObjId → ℕ → Option Bytes → Live → Option Bytes → Live → Option Reached → Type 0
FindsInitialisers caller ob part told0 live0 told1 live1 r =
    (programs : List RawProgram) (asker : Asker) (a : Ask) → Initialises asker caller ob part a → IsWorldOf told0 programs live0 a.world → ReachesIf told1 programs live1 asker a r

-- Entries

-- each object has the same variables in memory
abbrev pub HasSameVariables : List (Option Object) → List (Option Object) → Type 0
HasSameVariables old new = (o : ObjId) → variables_at new o ≡ variables_at old o

-- after an entry the state stands for the world with that, and who calls calls still
pub record Marks (told : Option Bytes) (programs : List RawProgram) (live : Live) (old new : World) : Type 0 where
  pub world : IsWorldOf told programs live new
  pub callers : (this : ObjId) (part : ℕ) (code : RawProgram) → IsCaller programs old this part code → IsCaller programs new this part code

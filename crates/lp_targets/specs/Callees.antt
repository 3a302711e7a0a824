-- Which function a call reaches, as a callee.
use Rattle.std.specs.Prelude.{Bool, suc, not, ◌&&◌, ◌||◌, [], ◌∷◌, ◌≡◌, ℕ, ◌+◌, ◌<◌, ⊤, true, List, Option, Some, None, All, slice_get, length, if◌then◌else◌}
use Rattle.lp_values.specs.declared.id.ObjId.{ObjId}
use Rattle.lp_values.specs.declared.id.ProgId.{ProgId}
use Rattle.lp_code.specs.declared.program.RawProgram.{RawProgram}
use Rattle.lp_code.specs.declared.tables.Slot.{Slot}
use Rattle.lp_isa.specs.Programs.{Reached}
use Rattle.lp_places.specs.Places.{is_object}
use Rattle.lp_plan_laws.specs.Tables.{reached_by}
use Rattle.lp_types_expr.specs.Signatures.{has_bit}
use Rattle.lp_targets.specs.declared.wants.Seeker.{Seeker}
use Rattle.lp_targets.specs.declared.wants.Seeker.TheVariants as seekers
use Rattle.lp_targets.specs.declared.wants.Want.{Want}
use Rattle.lp_targets.specs.declared.wants.Want.TheVariants as wants
use Rattle.lp_swapfile.specs.Device.{Bytes}
use Rattle.lp_language.specs.World.{World, is_live}
use Rattle.lp_language.specs.Resolve.{Found, Heritage, Part, Target, callable_found, or_else, chain_of, first_with, function_of, heritage_of, number_of, part_at, shown, target_here}
use Rattle.lp_meaning.specs.FunctionCalls.{goes_to_shadows}
use Rattle.lp_layout.specs.Layout.{slot_named}
use Rattle.lp_world.specs.declared.live.Live.{Live}
use Rattle.lp_world.specs.declared.targets.FunAt.{FunAt}
use Rattle.lp_world.specs.Closed.{IsFunctionThere}
use Rattle.lp_world.specs.Targets.{answer_at}
use Rattle.lp_world.specs.declared.versions.Version.{Version}
use Rattle.lp_world.specs.Rows.{row_at, variables_at}
use Rattle.lp_world.specs.Stands.{Stands}
use Rattle.lp_frames.specs.Running.{HasVariables}
use Rattle.lp_frames.specs.declared.entry.Callee.{Callee}
use Rattle.lp_part_laws.specs.Versions.{AreCompiled, FitsVersion}
use Rattle.lp_part_laws.specs.Parts.{IsFunctionAt, IsInText}

-- A state stands for a world whose programs fit their versions, and whose shadows are live objects.
pub record IsWorldOf (told : Option Bytes) (programs : List RawProgram) (live : Live) (w : World) : Type 0 where
  pub stands : Stands told programs live w
  pub compiled : AreCompiled programs w.versions
  pub shadows : All (λ s. is_live w s.shadow ≡ true) w.shadows

-- Who calls: a part of an object's version, and the program of that part.
pub record IsCaller (programs : List RawProgram) (w : World) (this : ObjId) (part : ℕ) (code : RawProgram) : Type 0 where
  pub place : Part
  pub at : part_at (heritage_of w this) part ≡ Some place
  pub is : slice_get programs (number_of place.tree).0 ≡ Some code

-- A callee is the function that a search found in an object: the part with its version and the place of its variables, and
-- the row of the function in that version's program, which fits it.
pub record IsCallee (programs : List RawProgram) (w : World) (callee : Callee) (o : ObjId) (f : Found) : Type 0 where
  pub this : callee.this ≡ o
  pub part : callee.part ≡ f.part
  pub place : Part
  pub at : part_at (heritage_of w o) f.part ≡ Some place
  pub program : callee.program ≡ number_of place.tree
  pub base : callee.base ≡ place.base
  pub code : RawProgram
  pub is : slice_get programs callee.program.0 ≡ Some code
  pub fits : FitsVersion place.tree code
  pub function : IsFunctionAt code place.tree f.function callee.fun

-- a function that was found stands in the text of its part
abbrev pub AreInText : Heritage → Option Found → Type 0
AreInText h None = ⊤
AreInText h (Some f) = IsInText h f

-- the callee of what a search found, if it found something
abbrev pub IsAnswer : List RawProgram → World → ObjId → Option Callee → Option Found → Type 0
IsAnswer programs w o None None = ⊤
IsAnswer programs w o (Some c) (Some f) = IsCallee programs w c o f
IsAnswer programs w o _ _ = ⊥

-- and of what a search through several objects found
abbrev pub IsTargetAnswer : List RawProgram → World → Option Callee → Option Target → Type 0
IsTargetAnswer programs w None None = ⊤
IsTargetAnswer programs w (Some c) (Some t) = IsCallee programs w c t.object t.found
IsTargetAnswer programs w _ _ = ⊥

-- A callee's version is there, with so many functions.
pub record IsCalleeThere (versions : List (Option Version)) (callee : Callee) : Type 0 where
  pub version : Version
  pub there : row_at versions callee.program.0 ≡ Some version
  pub function : callee.fun < version.outline.functions

-- its variables are in memory
abbrev pub IsAtHome : Live → Callee → RawProgram → Type 0
IsAtHome live callee code = HasVariables (variables_at live.objects callee.this) (callee.base + length code.tables.vars)

-- Where an apply goes: `init`, `logon` and `catch_tell` to the outermost shadow that has the function, every other one to the object itself.
abbrev pub applied : World → ObjId → List ℕ → Option Target
applied w o name = if goes_to_shadows name then first_with w (chain_of w o) name else target_here o (function_of w o name)

-- whether a function with these modifiers may be called from outside, by its own object or by another one
abbrev pub is_callable_number : Bool → ℕ → Bool
is_callable_number is_self mods = not (has_bit 1 mods) && not (has_bit 2 mods) && (is_self || not (has_bit 8 mods))

-- the function of a row of tables that is wanted
abbrev pub wanted_row : Want → Slot → Option Reached
wanted_row wants.Any s = reached_by s
wanted_row wants.NotPrivate s = if has_bit 1 s.mods then None else reached_by s
wanted_row (wants.Callable is_self) s = if is_callable_number is_self s.mods then reached_by s else None

abbrev pub wanted_in : Want → Option Slot → Option Reached
wanted_in want None = None
wanted_in want (Some s) = wanted_row want s

-- and of what resolve gives
abbrev pub wanted : Want → Option Found → Option Found
wanted wants.Any x = x
wanted wants.NotPrivate x = shown x
wanted (wants.Callable is_self) x = callable_found is_self x

-- what is wanted of an object
abbrev pub want_of : Seeker → ObjId → Want
want_of seekers.Anyone o = wants.Any
want_of (seekers.Caller c) o = wants.Callable (is_object c o)

-- the first object of some that has what is wanted
abbrev pub first_wanted : Seeker → World → List ObjId → List ℕ → Option Target
first_wanted seeker w [] name = None
first_wanted seeker w (o ∷ os) name = or_else (target_here o (wanted (want_of seeker o) (function_of w o name))) (first_wanted seeker w os name)

-- the function of a part of an object's program, where a look-up found it
abbrev pub answer_for : ObjId → ProgId → ℕ → ℕ → ℕ → Callee
answer_for this program part base fun = record { this = this; program = program; part = part; base = base; fun = fun }

-- a row of a program's table is the one of its name
abbrev pub IsRowOfItsName : RawProgram → Slot → Type 0
IsRowOfItsName code s = slot_named code.tables.slots s.name ≡ Some s

-- what is kept for a slot of a part of a version
abbrev pub kept_at : Option Version → ℕ → ℕ → Option (Option FunAt)
kept_at None part slot = None
kept_at (Some v) part slot = answer_at v.targets part slot

-- An answer that may be kept: a function is there.
abbrev pub IsKeepable : List (Option Version) → Option RawProgram → Option FunAt → Type 0
IsKeepable versions None answer = ⊤
IsKeepable versions (Some p) None = ⊤
IsKeepable versions (Some p) (Some f) = IsFunctionThere versions p.tables.parts f.part f.fun

-- the place behind an object in a list whose first item has a place, or 0 where it is not there
abbrev pub found_at : ℕ → List ObjId → ObjId → ℕ
found_at n [] c = 0
found_at n (x ∷ xs) c = if is_object x c then suc n else found_at (suc n) xs c

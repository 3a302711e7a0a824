-- Which rows of a program are those of its file's functions, and which names others may call.
use Rattle.std.specs.Prelude.{◌≡◌, ◌&&◌, ◌-◌, ℕ, suc, List, [], ◌∷◌, ◌++◌, Bool, false, Option, Some, None, filter, is_some, length, nat_eq, if◌then◌else◌}
use Rattle.lp_code.specs.declared.program.FunRow.{FunRow}
use Rattle.lp_code.specs.declared.program.RawProgram.{RawProgram}
use Rattle.lp_isa.specs.Programs.{Reached}
use Rattle.lp_language.specs.Resolve.{Heritage, callable_found, own_names, resolve, version_of}
use Rattle.lp_layout.specs.Layout.{slot_named}
use Rattle.lp_part_laws.specs.Parts.{reached_in}
use Rattle.lp_part_laws.specs.Versions.{FitsVersion}
use Rattle.lp_targets.specs.Callees.{wanted_in}
use Rattle.lp_targets.specs.declared.wants.Want.TheVariants as wants

-- the part of a program in which its own file stands: the last one
abbrev pub own_part : RawProgram → ℕ
own_part p = length p.tables.parts - 1

-- what a name reaches is the function with a number in a part
abbrev pub is_there : ℕ → ℕ → Option Reached → Bool
is_there part k None = false
is_there part k (Some r) = nat_eq r.part part && nat_eq r.fun k

-- A row of a program is that of a function of its file, where its name reaches it in the tables. That of the initialisers, whose
-- name a function may have too, is not reached.
abbrev pub is_own_row : RawProgram → ℕ → Option FunRow → Bool
is_own_row p k None = false
is_own_row p k (Some r) = is_there (own_part p) k (reached_in (slot_named p.tables.slots r.name))

-- every object may call the function of a name
abbrev pub is_open : RawProgram → List ℕ → Bool
is_open p name = is_some (wanted_in (wants.Callable false) (slot_named p.tables.slots name))

-- as a version that the program fits has it
abbrev pub OpenIsCallable : Type 0
OpenIsCallable = (h : Heritage) (p : RawProgram) (name : List ℕ) → FitsVersion h p → is_open p name ≡ is_some (callable_found false (resolve h name))

-- the name of a row with a number, where it is that of a function
abbrev pub own_name : RawProgram → ℕ → FunRow → List (List ℕ)
own_name p k r = if is_own_row p k (Some r) then r.name ∷ [] else []

-- the names of the functions among some rows of a program, the first of which has a number
abbrev pub names_from : RawProgram → ℕ → List FunRow → List (List ℕ)
names_from p k [] = []
names_from p k (r ∷ rs) = own_name p k r ++ names_from p (suc k) rs

-- and of all
abbrev pub function_names : RawProgram → List (List ℕ)
function_names p = names_from p 0 p.funs

-- They are those of the file of the version that the program fits.
abbrev pub NamesAreOwn : Type 0
NamesAreOwn = (h : Heritage) (p : RawProgram) → FitsVersion h p → function_names p ≡ own_names (version_of h).items

-- those of them that every object may call in an object of another program
abbrev pub open_names : RawProgram → RawProgram → List (List ℕ)
open_names whole p = filter (is_open whole) (function_names p)

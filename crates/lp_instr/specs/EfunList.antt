-- The efuns: their names in the order of their numbers, and how many arguments each takes.
use Rattle.std.specs.Prelude.{◌≡◌, ℕ, List, [], ◌∷◌, ◌≤◌, ◌+◌, ⊤, Bool, nat_eq, filter, length, slice_get, Option, Some, None, codes, if◌then◌else◌}
use Rattle.std.specs.Cmp.Lexicographic.{pointwise}
use Rattle.lp_instr.specs.declared.efun.Efun.{Efun}
use Rattle.lp_instr.specs.declared.efuns.Arity.{Arity}
use Rattle.lp_instr.specs.declared.efun.Efun.TheVariants.{ThisObject, ThisPlayer, ThisInteractive, PreviousObject, CallOther, CloneObject, LoadObject, FindObject, Destruct, ObjectName, LoadName, ProgramName, Clonep, Objectp, Intp, Stringp, Pointerp, Mappingp, Living, Interactive, FunctionExists, EnableCommands, Shadow, QueryShadowing, Unshadow, Environment, AllInventory, FirstInventory, NextInventory, Present, MoveObject, AddAction, Command, QueryVerb, NotifyFail, InputTo, Write, TellObject, TellRoom, Say, Printf, Users, Exec, RemoveInteractive, Time, SetHeartBeat, CallOut, RemoveCallOut, FindCallOut, Random, Throw, RaiseError, Strlen, Explode, Implode, LowerCase, UpperCase, Capitalize, Strstr, Trim, Sprintf, Sscanf, ToInt, ToString, Sizeof, Allocate, Member, Copy, Filter, Map, MIndices, MValues, MDelete, Mkmapping, Min, Max, Abs, ReadFile, WriteFile, FileSize, Rm, SaveObject, RestoreObject}

-- the name of an efun
abbrev pub efun_name : Efun → List ℕ
efun_name ThisObject = codes "this_object"
efun_name ThisPlayer = codes "this_player"
efun_name ThisInteractive = codes "this_interactive"
efun_name PreviousObject = codes "previous_object"
efun_name CallOther = codes "call_other"
efun_name CloneObject = codes "clone_object"
efun_name LoadObject = codes "load_object"
efun_name FindObject = codes "find_object"
efun_name Destruct = codes "destruct"
efun_name ObjectName = codes "object_name"
efun_name LoadName = codes "load_name"
efun_name ProgramName = codes "program_name"
efun_name Clonep = codes "clonep"
efun_name Objectp = codes "objectp"
efun_name Intp = codes "intp"
efun_name Stringp = codes "stringp"
efun_name Pointerp = codes "pointerp"
efun_name Mappingp = codes "mappingp"
efun_name Living = codes "living"
efun_name Interactive = codes "interactive"
efun_name FunctionExists = codes "function_exists"
efun_name EnableCommands = codes "enable_commands"
efun_name Shadow = codes "shadow"
efun_name QueryShadowing = codes "query_shadowing"
efun_name Unshadow = codes "unshadow"
efun_name Environment = codes "environment"
efun_name AllInventory = codes "all_inventory"
efun_name FirstInventory = codes "first_inventory"
efun_name NextInventory = codes "next_inventory"
efun_name Present = codes "present"
efun_name MoveObject = codes "move_object"
efun_name AddAction = codes "add_action"
efun_name Command = codes "command"
efun_name QueryVerb = codes "query_verb"
efun_name NotifyFail = codes "notify_fail"
efun_name InputTo = codes "input_to"
efun_name Write = codes "write"
efun_name TellObject = codes "tell_object"
efun_name TellRoom = codes "tell_room"
efun_name Say = codes "say"
efun_name Printf = codes "printf"
efun_name Users = codes "users"
efun_name Exec = codes "exec"
efun_name RemoveInteractive = codes "remove_interactive"
efun_name Time = codes "time"
efun_name SetHeartBeat = codes "set_heart_beat"
efun_name CallOut = codes "call_out"
efun_name RemoveCallOut = codes "remove_call_out"
efun_name FindCallOut = codes "find_call_out"
efun_name Random = codes "random"
efun_name Throw = codes "throw"
efun_name RaiseError = codes "raise_error"
efun_name Strlen = codes "strlen"
efun_name Explode = codes "explode"
efun_name Implode = codes "implode"
efun_name LowerCase = codes "lower_case"
efun_name UpperCase = codes "upper_case"
efun_name Capitalize = codes "capitalize"
efun_name Strstr = codes "strstr"
efun_name Trim = codes "trim"
efun_name Sprintf = codes "sprintf"
efun_name Sscanf = codes "sscanf"
efun_name ToInt = codes "to_int"
efun_name ToString = codes "to_string"
efun_name Sizeof = codes "sizeof"
efun_name Allocate = codes "allocate"
efun_name Member = codes "member"
efun_name Copy = codes "copy"
efun_name Filter = codes "filter"
efun_name Map = codes "map"
efun_name MIndices = codes "m_indices"
efun_name MValues = codes "m_values"
efun_name MDelete = codes "m_delete"
efun_name Mkmapping = codes "mkmapping"
efun_name Min = codes "min"
efun_name Max = codes "max"
efun_name Abs = codes "abs"
efun_name ReadFile = codes "read_file"
efun_name WriteFile = codes "write_file"
efun_name FileSize = codes "file_size"
efun_name Rm = codes "rm"
efun_name SaveObject = codes "save_object"
efun_name RestoreObject = codes "restore_object"

-- all efuns that a call can name, in the order of their numbers
abbrev pub efuns : List Efun
efuns = ThisObject ∷ ThisPlayer ∷ ThisInteractive ∷ PreviousObject ∷ CallOther ∷ CloneObject ∷ LoadObject ∷ FindObject ∷ Destruct ∷ ObjectName ∷ LoadName ∷ ProgramName ∷ Clonep ∷ Objectp ∷ Intp ∷ Stringp ∷ Pointerp ∷ Mappingp ∷ Living ∷ Interactive ∷ FunctionExists ∷ EnableCommands ∷ Shadow ∷ QueryShadowing ∷ Unshadow ∷ Environment ∷ AllInventory ∷ FirstInventory ∷ NextInventory ∷ Present ∷ MoveObject ∷ AddAction ∷ Command ∷ QueryVerb ∷ NotifyFail ∷ InputTo ∷ Write ∷ TellObject ∷ TellRoom ∷ Say ∷ Printf ∷ Users ∷ Exec ∷ RemoveInteractive ∷ Time ∷ SetHeartBeat ∷ CallOut ∷ RemoveCallOut ∷ FindCallOut ∷ Random ∷ Throw ∷ RaiseError ∷ Strlen ∷ Explode ∷ Implode ∷ LowerCase ∷ UpperCase ∷ Capitalize ∷ Strstr ∷ Trim ∷ Sprintf ∷ Sscanf ∷ ToInt ∷ ToString ∷ Sizeof ∷ Allocate ∷ Member ∷ Copy ∷ Filter ∷ Map ∷ MIndices ∷ MValues ∷ MDelete ∷ Mkmapping ∷ Min ∷ Max ∷ Abs ∷ ReadFile ∷ WriteFile ∷ FileSize ∷ Rm ∷ SaveObject ∷ RestoreObject ∷ []

-- whether two names are one
abbrev pub is_name : List ℕ → List ℕ → Bool
is_name a b = pointwise nat_eq a b

abbrev pub efun_in : List Efun → List ℕ → Option Efun
efun_in [] w = None
efun_in (e ∷ es) w = if is_name (efun_name e) w then Some e else efun_in es w

-- the efun with a name
unfoldable pub efun_named : List ℕ → Option Efun
efun_named w = efun_in efuns w

-- the efuns whose names have so many letters
abbrev pub efuns_of_length : ℕ → List Efun
efuns_of_length n = filter (λ e. nat_eq (length (efun_name e)) n) efuns

-- where an efun stands in a list, counted from 0
abbrev pub place_in : List Efun → Efun → ℕ
place_in [] e = 0
place_in (x ∷ xs) e = if is_name (efun_name x) (efun_name e) then 0 else 1 + place_in xs e

-- the number of an efun
unfoldable pub efun_number : Efun → ℕ
efun_number e = place_in efuns e

-- each efun stands at its number in the list, and nowhere else
pub record AreNumbered : Type 0 where
  pub there : (e : Efun) → slice_get efuns (efun_number e) ≡ Some e
  pub only : (n : ℕ) (e : Efun) → slice_get efuns n ≡ Some e → n ≡ efun_number e

-- each efun is found by its name, and by no other
pub record AreNamed : Type 0 where
  pub found : (e : Efun) → efun_named (efun_name e) ≡ Some e
  pub only : (w : List ℕ) (e : Efun) → efun_named w ≡ Some e → w ≡ efun_name e

-- how many arguments an efun takes: at least and at most, or any number more
abbrev pub from_to : ℕ → ℕ → Arity
from_to m n = record { least = m; most = Some n }

abbrev pub from_on : ℕ → Arity
from_on m = record { least = m; most = None }

abbrev pub arity : Efun → Arity
arity ThisObject = from_to 0 0
arity ThisPlayer = from_to 0 0
arity ThisInteractive = from_to 0 0
arity PreviousObject = from_to 0 1
arity CallOther = from_on 2
arity CloneObject = from_to 1 1
arity LoadObject = from_to 1 1
arity FindObject = from_to 1 1
arity Destruct = from_to 1 1
arity ObjectName = from_to 0 1
arity LoadName = from_to 0 1
arity ProgramName = from_to 0 1
arity Clonep = from_to 1 1
arity Objectp = from_to 1 1
arity Intp = from_to 1 1
arity Stringp = from_to 1 1
arity Pointerp = from_to 1 1
arity Mappingp = from_to 1 1
arity Living = from_to 1 1
arity Interactive = from_to 0 1
arity FunctionExists = from_to 1 2
arity EnableCommands = from_to 0 0
arity Shadow = from_to 1 1
arity QueryShadowing = from_to 1 1
arity Unshadow = from_to 0 0
arity Environment = from_to 0 1
arity AllInventory = from_to 0 1
arity FirstInventory = from_to 0 1
arity NextInventory = from_to 0 1
arity Present = from_to 1 2
arity MoveObject = from_to 2 2
arity AddAction = from_to 2 3
arity Command = from_to 1 1
arity QueryVerb = from_to 0 0
arity NotifyFail = from_to 1 1
arity InputTo = from_on 1
arity Write = from_to 1 1
arity TellObject = from_to 2 2
arity TellRoom = from_to 2 2
arity Say = from_to 1 1
arity Printf = from_on 1
arity Users = from_to 0 0
arity Exec = from_to 2 2
arity RemoveInteractive = from_to 1 1
arity Time = from_to 0 0
arity SetHeartBeat = from_to 1 1
arity CallOut = from_on 2
arity RemoveCallOut = from_to 1 1
arity FindCallOut = from_to 1 1
arity Random = from_to 1 1
arity Throw = from_to 1 1
arity RaiseError = from_to 1 1
arity Strlen = from_to 1 1
arity Explode = from_to 2 2
arity Implode = from_to 2 2
arity LowerCase = from_to 1 1
arity UpperCase = from_to 1 1
arity Capitalize = from_to 1 1
arity Strstr = from_to 2 3
arity Trim = from_to 1 1
arity Sprintf = from_on 1
arity Sscanf = from_on 2
arity ToInt = from_to 1 1
arity ToString = from_to 1 1
arity Sizeof = from_to 1 1
arity Allocate = from_to 1 1
arity Member = from_to 2 2
arity Copy = from_to 1 1
arity Filter = from_on 2
arity Map = from_on 2
arity MIndices = from_to 1 1
arity MValues = from_to 1 1
arity MDelete = from_to 2 2
arity Mkmapping = from_to 2 2
arity Min = from_to 2 2
arity Max = from_to 2 2
arity Abs = from_to 1 1
arity ReadFile = from_to 1 1
arity WriteFile = from_to 2 2
arity FileSize = from_to 1 1
arity Rm = from_to 1 1
arity SaveObject = from_to 1 1
arity RestoreObject = from_to 1 1

abbrev pub IsAtMost : ℕ → Option ℕ → Type 0
IsAtMost n None = ⊤
IsAtMost n (Some m) = n ≤ m

-- the efun may be called with n arguments
abbrev pub Allows : Efun → ℕ → Type 0
Allows e n = ((arity e).least ≤ n) × IsAtMost n (arity e).most

-- Arguments as read, and names of efuns as texts.
use Rattle.std.proofs.Common.{◌≡◌, refl, ap, sym, ◌∙◌, ℕ, pos, Bool, List, Some, None, map, slice_get, unwrap_or}
use Rattle.std.proofs.lemmas.Option.{slice_get-map}
use Rattle.std.specs.Option.{option_map}
use Rattle.std.specs.Str.{chars}
use Rattle.lp_values.specs.Read.{as_read}
use Rattle.lp_values.specs.declared.id.ObjId.{ObjId}
use Rattle.lp_values.specs.declared.value.Value.{Value}
use Rattle.lp_cells.specs.Cells.{Store}
use Rattle.lp_ops.specs.Operands.{Number, opened, operand}
use Rattle.lp_instr.specs.declared.efun.Efun.{Efun}
use Rattle.lp_instr.specs.declared.efun.Efun.TheVariants.{ThisObject, ThisPlayer, ThisInteractive, PreviousObject, CallOther, CloneObject, LoadObject, FindObject, Destruct, ObjectName, LoadName, ProgramName, Clonep, Objectp, Intp, Stringp, Pointerp, Mappingp, Living, Interactive, FunctionExists, EnableCommands, Shadow, QueryShadowing, Unshadow, Environment, AllInventory, FirstInventory, NextInventory, Present, MoveObject, AddAction, Command, QueryVerb, NotifyFail, InputTo, Write, TellObject, TellRoom, Say, Printf, Users, Exec, RemoveInteractive, Time, SetHeartBeat, CallOut, RemoveCallOut, FindCallOut, Random, Throw, RaiseError, Strlen, Explode, Implode, LowerCase, UpperCase, Capitalize, Strstr, Trim, Sprintf, Sscanf, ToInt, ToString, Sizeof, Allocate, Member, Copy, Filter, Map, MIndices, MValues, MDelete, Mkmapping, Min, Max, Abs, ReadFile, WriteFile, FileSize, Rm, SaveObject, RestoreObject}
use Rattle.lp_instr.specs.EfunList.{efun_name}
use Rattle.lp_meaning.specs.EfunArguments.{arg}

-- an argument that is there
pub argument_is : (live : ObjId → Bool) (cells : Store) (vs : List Value) (i : ℕ) (v : Value) → slice_get vs i ≡ Some v → opened live cells (as_read live v) ≡ arg (map (operand live cells) vs) i
argument_is live cells vs i v e = sym (ap (λ o. unwrap_or o (Number (pos 0))) (slice_get-map (operand live cells) vs i ∙ ap (option_map (operand live cells)) e))

-- and one that is missing
pub missing_is : (live : ObjId → Bool) (cells : Store) (vs : List Value) (i : ℕ) → slice_get vs i ≡ None → Number (pos 0) ≡ arg (map (operand live cells) vs) i
missing_is live cells vs i e = sym (ap (λ o. unwrap_or o (Number (pos 0))) (slice_get-map (operand live cells) vs i ∙ ap (option_map (operand live cells)) e))

-- the names of efuns are ASCII
pub name_chars : (e : Efun) → chars (efun_name e) ≡ efun_name e
unfolding chars
name_chars ThisObject = refl
name_chars ThisPlayer = refl
name_chars ThisInteractive = refl
name_chars PreviousObject = refl
name_chars CallOther = refl
name_chars CloneObject = refl
name_chars LoadObject = refl
name_chars FindObject = refl
name_chars Destruct = refl
name_chars ObjectName = refl
name_chars LoadName = refl
name_chars ProgramName = refl
name_chars Clonep = refl
name_chars Objectp = refl
name_chars Intp = refl
name_chars Stringp = refl
name_chars Pointerp = refl
name_chars Mappingp = refl
name_chars Living = refl
name_chars Interactive = refl
name_chars FunctionExists = refl
name_chars EnableCommands = refl
name_chars Shadow = refl
name_chars QueryShadowing = refl
name_chars Unshadow = refl
name_chars Environment = refl
name_chars AllInventory = refl
name_chars FirstInventory = refl
name_chars NextInventory = refl
name_chars Present = refl
name_chars MoveObject = refl
name_chars AddAction = refl
name_chars Command = refl
name_chars QueryVerb = refl
name_chars NotifyFail = refl
name_chars InputTo = refl
name_chars Write = refl
name_chars TellObject = refl
name_chars TellRoom = refl
name_chars Say = refl
name_chars Printf = refl
name_chars Users = refl
name_chars Exec = refl
name_chars RemoveInteractive = refl
name_chars Time = refl
name_chars SetHeartBeat = refl
name_chars CallOut = refl
name_chars RemoveCallOut = refl
name_chars FindCallOut = refl
name_chars Random = refl
name_chars Throw = refl
name_chars RaiseError = refl
name_chars Strlen = refl
name_chars Explode = refl
name_chars Implode = refl
name_chars LowerCase = refl
name_chars UpperCase = refl
name_chars Capitalize = refl
name_chars Strstr = refl
name_chars Trim = refl
name_chars Sprintf = refl
name_chars Sscanf = refl
name_chars ToInt = refl
name_chars ToString = refl
name_chars Sizeof = refl
name_chars Allocate = refl
name_chars Member = refl
name_chars Copy = refl
name_chars Filter = refl
name_chars Map = refl
name_chars MIndices = refl
name_chars MValues = refl
name_chars MDelete = refl
name_chars Mkmapping = refl
name_chars Min = refl
name_chars Max = refl
name_chars Abs = refl
name_chars ReadFile = refl
name_chars WriteFile = refl
name_chars FileSize = refl
name_chars Rm = refl
name_chars SaveObject = refl
name_chars RestoreObject = refl

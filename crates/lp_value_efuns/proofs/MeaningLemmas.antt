-- Efuns that compute, by a state and by what they look at; and what they do names what is there.
use Rattle.std.proofs.Common.{◌≡◌, ◌∙◌, refl, ap, sym, subst, ℕ, zero, suc, pos, Bool, true, false, List, [], ◌∷◌, ◌++◌, Option, Some, None, map, drop, unwrap_or, slice_get, if◌then◌else◌}
use Rattle.std.specs.Option.{option_map}
use Rattle.std.proofs.lemmas.Option.{slice_get-map}
use Rattle.lp_values.specs.declared.id.ObjId.{ObjId}
use Rattle.lp_values.specs.declared.value.Value.{Value}
use Rattle.lp_values.specs.declared.value.Value.TheVariants as values
use Rattle.lp_values.specs.declared.id.CellId.{CellId}
use Rattle.lp_cells.specs.Cells.{Store, items_of, stored_pairs}
use Rattle.lp_cells.specs.Mapping.{pairs_there}
use Rattle.lp_format.specs.Forms.{pieces}
use Rattle.lp_format.specs.Formatted.{formatted}
use Rattle.lp_format.specs.Spelled.{array_spelled, deepest, hidden, is_among, mapping_spelled, object_text, pair_spelled, spelled_within}
use Rattle.lp_ops.specs.declared.effect.Effect.{Effect}
use Rattle.lp_ops.specs.Effects.{within}
use Rattle.lp_ops.specs.Integers.{truth}
use Rattle.lp_ops.specs.Operators.{text}
use Rattle.lp_ops.specs.Operands.{Opened, Number, Chars, Array, Mapping, Object, opened, operand}
use Rattle.lp_instr.specs.declared.efun.Efun.{Efun}
use Rattle.lp_instr.specs.declared.efun.Efun.TheVariants.{ThisObject, ThisPlayer, ThisInteractive, PreviousObject, CallOther, CloneObject, LoadObject, FindObject, Destruct, ObjectName, LoadName, ProgramName, Clonep, Objectp, Intp, Stringp, Pointerp, Mappingp, Living, Interactive, FunctionExists, EnableCommands, Shadow, QueryShadowing, Unshadow, Environment, AllInventory, FirstInventory, NextInventory, Present, MoveObject, AddAction, Command, QueryVerb, NotifyFail, InputTo, Write, TellObject, TellRoom, Say, Printf, Users, Exec, RemoveInteractive, Time, SetHeartBeat, CallOut, RemoveCallOut, FindCallOut, Random, Throw, RaiseError, Strlen, Explode, Implode, LowerCase, UpperCase, Capitalize, Strstr, Trim, Sprintf, Sscanf, ToInt, ToString, Sizeof, Allocate, Member, Copy, Filter, Map, MIndices, MValues, MDelete, Mkmapping, Min, Max, Abs, ReadFile, WriteFile, FileSize, Rm, SaveObject, RestoreObject}
use Rattle.lp_language.specs.Course.{State}
use Rattle.lp_language.specs.Operations.{cells_of, living}
use Rattle.lp_language.specs.World.{World}
use Rattle.lp_meaning.specs.WorldSteps.{is_clone_name}
use Rattle.lp_meaning.specs.EfunArguments.{arg, opened_args, text_in}
use Rattle.lp_meaning.specs.ComputingEfuns as meant
use Rattle.lp_meaning.specs.ComputingEfuns.{as_text, computes, name_in}
use Rattle.lp_value_efuns.specs.Computed.{Named, computed, is_clone, written}

clone_same : (w : World) (x : Opened) → meant.is_clone w x ≡ is_clone (name_in w) x
clone_same w (Number n) = refl
clone_same w (Chars s) = refl
clone_same w (Array c vs) = refl
clone_same w (Mapping c ps) = refl
clone_same w (Object o) = refl

written_same : (w : World) (x : Opened) → meant.written w x ≡ written (name_in w) x
written_same w (Number n) = refl
written_same w (Chars s) = refl
written_same w (Array c vs) = refl
written_same w (Mapping c ps) = refl
written_same w (Object o) = refl

-- both ways to say it are one
pub meaning : (e : Efun) (s : State) (vs : List Value) (xs : List Opened) → meant.computed e s vs xs ≡ computed e (living s) (name_in s.world) (cells_of s) vs (arg xs 0) (arg xs 1) (arg xs 2)
meaning ThisObject s vs xs = refl
meaning ThisPlayer s vs xs = refl
meaning ThisInteractive s vs xs = refl
meaning PreviousObject s vs xs = refl
meaning CallOther s vs xs = refl
meaning CloneObject s vs xs = refl
meaning LoadObject s vs xs = refl
meaning FindObject s vs xs = refl
meaning Destruct s vs xs = refl
meaning ObjectName s vs xs = refl
meaning LoadName s vs xs = refl
meaning ProgramName s vs xs = refl
meaning Clonep s vs xs = ap truth (clone_same s.world (arg xs 0))
meaning Objectp s vs xs = refl
meaning Intp s vs xs = refl
meaning Stringp s vs xs = refl
meaning Pointerp s vs xs = refl
meaning Mappingp s vs xs = refl
meaning Living s vs xs = refl
meaning Interactive s vs xs = refl
meaning FunctionExists s vs xs = refl
meaning EnableCommands s vs xs = refl
meaning Shadow s vs xs = refl
meaning QueryShadowing s vs xs = refl
meaning Unshadow s vs xs = refl
meaning Environment s vs xs = refl
meaning AllInventory s vs xs = refl
meaning FirstInventory s vs xs = refl
meaning NextInventory s vs xs = refl
meaning Present s vs xs = refl
meaning MoveObject s vs xs = refl
meaning AddAction s vs xs = refl
meaning Command s vs xs = refl
meaning QueryVerb s vs xs = refl
meaning NotifyFail s vs xs = refl
meaning InputTo s vs xs = refl
meaning Write s vs xs = refl
meaning TellObject s vs xs = refl
meaning TellRoom s vs xs = refl
meaning Say s vs xs = refl
meaning Printf s vs xs = refl
meaning Users s vs xs = refl
meaning Exec s vs xs = refl
meaning RemoveInteractive s vs xs = refl
meaning Time s vs xs = refl
meaning SetHeartBeat s vs xs = refl
meaning CallOut s vs xs = refl
meaning RemoveCallOut s vs xs = refl
meaning FindCallOut s vs xs = refl
meaning Random s vs xs = refl
meaning Throw s vs xs = refl
meaning RaiseError s vs xs = refl
meaning Strlen s vs xs = refl
meaning Explode s vs xs = refl
meaning Implode s vs xs = refl
meaning LowerCase s vs xs = refl
meaning UpperCase s vs xs = refl
meaning Capitalize s vs xs = refl
meaning Strstr s vs xs = refl
meaning Trim s vs xs = refl
meaning Sprintf s vs xs = refl
meaning Sscanf s vs xs = refl
meaning ToInt s vs xs = refl
meaning ToString s vs xs = ap text (written_same s.world (arg xs 0))
meaning Sizeof s vs xs = refl
meaning Allocate s vs xs = refl
meaning Member s vs xs = refl
meaning Copy s vs xs = refl
meaning Filter s vs xs = refl
meaning Map s vs xs = refl
meaning MIndices s vs xs = refl
meaning MValues s vs xs = refl
meaning MDelete s vs xs = refl
meaning Mkmapping s vs xs = refl
meaning Min s vs xs = refl
meaning Max s vs xs = refl
meaning Abs s vs xs = refl
meaning ReadFile s vs xs = refl
meaning WriteFile s vs xs = refl
meaning FileSize s vs xs = refl
meaning Rm s vs xs = refl
meaning SaveObject s vs xs = refl
meaning RestoreObject s vs xs = refl

-- what is computed of arguments as read
abbrev pub of_args : Efun → (ObjId → Bool) → Named → Store → List Value → Effect
of_args e live name cells vs = computed e live name cells vs (arg (map (operand live cells) vs) 0) (arg (map (operand live cells) vs) 1) (arg (map (operand live cells) vs) 2)

-- two ways to call objects are one for those that are live
abbrev pub CallAlike : (ObjId → Bool) → Named → Named → Type 0
CallAlike live name other = (o : ObjId) → live o ≡ true → name o ≡ other o

-- an object that was read is live
abbrev IsLive : (ObjId → Bool) → Opened → Type 0
IsLive live (Number n) = Unit {0}
IsLive live (Chars s) = Unit {0}
IsLive live (Array c vs) = Unit {0}
IsLive live (Mapping c ps) = Unit {0}
IsLive live (Object o) = live o ≡ true

read_object : (live : ObjId → Bool) (cells : Store) (o : ObjId) (b : Bool) → live o ≡ b → IsLive live (opened live cells (unwrap_or (if b then Some (values.Obj o) else None) (values.Int (pos 0))))
read_object live cells o true h = h
read_object live cells o false h = tt

read_live : (live : ObjId → Bool) (cells : Store) (v : Value) → IsLive live (operand live cells v)
read_live live cells (values.Int n) = tt
read_live live cells (values.Str s) = tt
read_live live cells (values.Arr c) = tt
read_live live cells (values.Map c) = tt
read_live live cells (values.Obj o) = read_object live cells o (live o) refl

found_live : (live : ObjId → Bool) (cells : Store) (o : Option Value) → IsLive live (unwrap_or (option_map (operand live cells) o) (Number (pos 0)))
found_live live cells None = tt
found_live live cells (Some v) = read_live live cells v

arg_live : (live : ObjId → Bool) (cells : Store) (vs : List Value) (i : ℕ) → IsLive live (arg (map (operand live cells) vs) i)
arg_live live cells vs i = subst (λ o. IsLive live (unwrap_or o (Number (pos 0)))) (sym (slice_get-map (operand live cells) vs i)) (found_live live cells (slice_get vs i))

clone_alike : (live : ObjId → Bool) (name other : Named) → CallAlike live name other → (x : Opened) → IsLive live x → is_clone name x ≡ is_clone other x
clone_alike live name other h (Number n) l = refl
clone_alike live name other h (Chars s) l = refl
clone_alike live name other h (Array c vs) l = refl
clone_alike live name other h (Mapping c ps) l = refl
clone_alike live name other h (Object o) l = ap (λ n. is_clone_name (unwrap_or n [])) (h o l)

written_alike : (live : ObjId → Bool) (name other : Named) → CallAlike live name other → (x : Opened) → IsLive live x → written name x ≡ written other x
written_alike live name other h (Number n) l = refl
written_alike live name other h (Chars s) l = refl
written_alike live name other h (Array c vs) l = refl
written_alike live name other h (Mapping c ps) l = refl
written_alike live name other h (Object o) l = ap (λ n. unwrap_or n []) (h o l)

object_alike : (live : ObjId → Bool) (name other : Named) → CallAlike live name other → (o : ObjId) (b : Bool) → live o ≡ b → object_text (if b then name o else None) ≡ object_text (if b then other o else None)
object_alike live name other h o true l = ap object_text (h o l)
object_alike live name other h o false l = refl

spelled_alike : (live : ObjId → Bool) (name other : Named) (cells : Store) → CallAlike live name other → (n : ℕ) (path : List CellId) (v : Value) → spelled_within live name cells n path v ≡ spelled_within live other cells n path v
spelled_alike live name other cells h n path (values.Int z) = refl
spelled_alike live name other cells h n path (values.Str s) = refl
spelled_alike live name other cells h n path (values.Obj o) = object_alike live name other h o (live o) refl
spelled_alike live name other cells h zero path (values.Arr c) = refl
spelled_alike live name other cells h (suc n) path (values.Arr c) = λ i. if is_among c path then hidden else array_spelled (map (λ v. spelled_alike live name other cells h n (path ++ c ∷ []) v i) (items_of cells c))
spelled_alike live name other cells h zero path (values.Map c) = refl
spelled_alike live name other cells h (suc n) path (values.Map c) = λ i. if is_among c path then hidden else mapping_spelled (map (pair_spelled (λ v. spelled_alike live name other cells h n (path ++ c ∷ []) v i)) (pairs_there live (stored_pairs cells c)))

-- objects that are not live are not called
pub alike : (e : Efun) (live : ObjId → Bool) (name other : Named) (cells : Store) (vs : List Value) → CallAlike live name other → of_args e live name cells vs ≡ of_args e live other cells vs
alike ThisObject live name other cells vs h = refl
alike ThisPlayer live name other cells vs h = refl
alike ThisInteractive live name other cells vs h = refl
alike PreviousObject live name other cells vs h = refl
alike CallOther live name other cells vs h = refl
alike CloneObject live name other cells vs h = refl
alike LoadObject live name other cells vs h = refl
alike FindObject live name other cells vs h = refl
alike Destruct live name other cells vs h = refl
alike ObjectName live name other cells vs h = refl
alike LoadName live name other cells vs h = refl
alike ProgramName live name other cells vs h = refl
alike Clonep live name other cells vs h = ap truth (clone_alike live name other h (arg (map (operand live cells) vs) 0) (arg_live live cells vs 0))
alike Objectp live name other cells vs h = refl
alike Intp live name other cells vs h = refl
alike Stringp live name other cells vs h = refl
alike Pointerp live name other cells vs h = refl
alike Mappingp live name other cells vs h = refl
alike Living live name other cells vs h = refl
alike Interactive live name other cells vs h = refl
alike FunctionExists live name other cells vs h = refl
alike EnableCommands live name other cells vs h = refl
alike Shadow live name other cells vs h = refl
alike QueryShadowing live name other cells vs h = refl
alike Unshadow live name other cells vs h = refl
alike Environment live name other cells vs h = refl
alike AllInventory live name other cells vs h = refl
alike FirstInventory live name other cells vs h = refl
alike NextInventory live name other cells vs h = refl
alike Present live name other cells vs h = refl
alike MoveObject live name other cells vs h = refl
alike AddAction live name other cells vs h = refl
alike Command live name other cells vs h = refl
alike QueryVerb live name other cells vs h = refl
alike NotifyFail live name other cells vs h = refl
alike InputTo live name other cells vs h = refl
alike Write live name other cells vs h = refl
alike TellObject live name other cells vs h = refl
alike TellRoom live name other cells vs h = refl
alike Say live name other cells vs h = refl
alike Printf live name other cells vs h = refl
alike Users live name other cells vs h = refl
alike Exec live name other cells vs h = refl
alike RemoveInteractive live name other cells vs h = refl
alike Time live name other cells vs h = refl
alike SetHeartBeat live name other cells vs h = refl
alike CallOut live name other cells vs h = refl
alike RemoveCallOut live name other cells vs h = refl
alike FindCallOut live name other cells vs h = refl
alike Random live name other cells vs h = refl
alike Throw live name other cells vs h = refl
alike RaiseError live name other cells vs h = refl
alike Strlen live name other cells vs h = refl
alike Explode live name other cells vs h = refl
alike Implode live name other cells vs h = refl
alike LowerCase live name other cells vs h = refl
alike UpperCase live name other cells vs h = refl
alike Capitalize live name other cells vs h = refl
alike Strstr live name other cells vs h = refl
alike Trim live name other cells vs h = refl
alike Sprintf live name other cells vs h = λ i. as_text Sprintf (formatted live (λ v. spelled_alike live name other cells h deepest [] v i) (drop 1 vs) (pieces (text_in (arg (map (operand live cells) vs) 0))))
alike Sscanf live name other cells vs h = refl
alike ToInt live name other cells vs h = refl
alike ToString live name other cells vs h = ap text (written_alike live name other h (arg (map (operand live cells) vs) 0) (arg_live live cells vs 0))
alike Sizeof live name other cells vs h = refl
alike Allocate live name other cells vs h = refl
alike Member live name other cells vs h = refl
alike Copy live name other cells vs h = refl
alike Filter live name other cells vs h = refl
alike Map live name other cells vs h = refl
alike MIndices live name other cells vs h = refl
alike MValues live name other cells vs h = refl
alike MDelete live name other cells vs h = refl
alike Mkmapping live name other cells vs h = refl
alike Min live name other cells vs h = refl
alike Max live name other cells vs h = refl
alike Abs live name other cells vs h = refl
alike ReadFile live name other cells vs h = refl
alike WriteFile live name other cells vs h = refl
alike FileSize live name other cells vs h = refl
alike Rm live name other cells vs h = refl
alike SaveObject live name other cells vs h = refl
alike RestoreObject live name other cells vs h = refl

-- in any state with the same live objects, the same names of those, and the same cells
pub meant_by : (e : Efun) (vs : List Value) (s : State) (live : ObjId → Bool) (name : Named) (cells : Store) → living s ≡ live → CallAlike live (name_in s.world) name → cells_of s ≡ cells → within (of_args e live name cells vs) ≡ computes e s vs (opened_args s vs)
unfolding computes
meant_by e vs s live name cells h n g =
    sym (ap within (meaning e s vs (opened_args s vs)) ∙ ap (λ l. within (of_args e l (name_in s.world) (cells_of s) vs)) h ∙ ap (λ c. within (of_args e live (name_in s.world) c vs)) g ∙ ap within (alike e live (name_in s.world) name cells vs n))

-- What efuns see of the cells of the state is what they see of those of the world.
use Rattle.std.proofs.Common.{◌≡◌, ◌∙◌, ◌+◌, ℕ, Bool, List, [], ◌∷◌, refl, ap, sym, All, map, drop, if◌then◌else◌}
use Rattle.std.specs.List.{fold}
use Rattle.std.proofs.lemmas.List.Elements.{All-drop, All-head, All-tail, All-weaker}
use Rattle.lp_values.specs.declared.id.ObjId.{ObjId}
use Rattle.lp_values.specs.declared.value.Value.{Value}
use Rattle.lp_cells.specs.Cells.{IsClosed, IsThere, Store}
use Rattle.lp_format.specs.Spelled.{deepest, spelled}
use Rattle.lp_ops.specs.Effects.{within}
use Rattle.lp_ops.specs.Operands.{Opened, operand, size_of}
use Rattle.lp_ops.specs.Prices.{share}
use Rattle.lp_instr.specs.declared.efun.Efun.{Efun}
use Rattle.lp_instr.specs.declared.efun.Efun.TheVariants.{ThisObject, ThisPlayer, ThisInteractive, PreviousObject, CallOther, CloneObject, LoadObject, FindObject, Destruct, ObjectName, LoadName, ProgramName, Clonep, Objectp, Intp, Stringp, Pointerp, Mappingp, Living, Interactive, FunctionExists, EnableCommands, Shadow, QueryShadowing, Unshadow, Environment, AllInventory, FirstInventory, NextInventory, Present, MoveObject, AddAction, Command, QueryVerb, NotifyFail, InputTo, Write, TellObject, TellRoom, Say, Printf, Users, Exec, RemoveInteractive, Time, SetHeartBeat, CallOut, RemoveCallOut, FindCallOut, Random, Throw, RaiseError, Strlen, Explode, Implode, LowerCase, UpperCase, Capitalize, Strstr, Trim, Sprintf, Sscanf, ToInt, ToString, Sizeof, Allocate, Member, Copy, Filter, Map, MIndices, MValues, MDelete, Mkmapping, Min, Max, Abs, ReadFile, WriteFile, FileSize, Rm, SaveObject, RestoreObject}
use Rattle.lp_language.specs.Course.{State}
use Rattle.lp_language.specs.Operations.{cells_of, living, with_store}
use Rattle.lp_meaning.specs.EfunArguments.{arg, has_share, opened_args, price_before, text_in}
use Rattle.lp_meaning.specs.ComputingEfuns.{as_text, computes, name_in}
use Rattle.lp_value_efuns.specs.Computed.{Named, computed}
use Rattle.lp_value_efuns.proofs.MeaningLemmas.{meaning}
use Rattle.lp_world.specs.Stands.{IsPart}
use Rattle.lp_world.proofs.Keeping.{operand_same}
use Rattle.lp_efuns.proofs.Formatted.{formatted_same, map_same, spelled_same}

-- arguments that are there are the same ones as read
pub args_same : (l : ObjId → Bool) (part whole : Store) (vs : List Value) → IsPart part whole → All (IsThere part) vs → map (operand l part) vs ≡ map (operand l whole) vs
args_same l part whole vs p t = map_same (IsThere part) (operand l part) (operand l whole) vs (λ v i. operand_same l part whole v p i) t

-- their lengths together
sizes_same : (l : ObjId → Bool) (part whole : Store) (n : ℕ) (vs : List Value) → IsPart part whole → All (IsThere part) vs
    → fold (λ n v. n + size_of (operand l part v)) n vs ≡ fold (λ n v. n + size_of (operand l whole v)) n vs
sizes_same l part whole n [] p t = refl
sizes_same l part whole n (v ∷ vs) p t =
    ap (λ x. fold (λ n v. n + size_of (operand l part v)) (n + size_of x) vs) (operand_same l part whole v p (All-head (IsThere part) v vs t))
    ∙ sizes_same l part whole (n + size_of (operand l whole v)) vs p (All-tail (IsThere part) v vs t)

-- and what a call costs before the efun acts
pub price_same : (e : Efun) (vs : List Value) (s : State) (part : Store) → IsPart part (cells_of s) → All (IsThere part) vs → price_before e vs (with_store s part) ≡ price_before e vs s
price_same e vs s part p t = ap (λ n. 1 + (if has_share e then share n else 0)) (sizes_same (living s) part (cells_of s) 0 vs p t)

spelled_all : (l : ObjId → Bool) (name : Named) (part whole : Store) (vs : List Value) → IsPart part whole → IsClosed part → All (IsThere part) vs → All (λ v. spelled l name part v ≡ spelled l name whole v) vs
spelled_all l name part whole vs p c t = All-weaker (IsThere part) (λ v. spelled l name part v ≡ spelled l name whole v) (λ v i. spelled_same l name part whole p c deepest [] v i) vs t

same_computed : (e : Efun) (l : ObjId → Bool) (name : Named) (part whole : Store) (vs : List Value) (a b c : Opened) → IsPart part whole → IsClosed part → All (IsThere part) vs
    → computed e l name part vs a b c ≡ computed e l name whole vs a b c
same_computed ThisObject l name part whole vs a b c p closed t = refl
same_computed ThisPlayer l name part whole vs a b c p closed t = refl
same_computed ThisInteractive l name part whole vs a b c p closed t = refl
same_computed PreviousObject l name part whole vs a b c p closed t = refl
same_computed CallOther l name part whole vs a b c p closed t = refl
same_computed CloneObject l name part whole vs a b c p closed t = refl
same_computed LoadObject l name part whole vs a b c p closed t = refl
same_computed FindObject l name part whole vs a b c p closed t = refl
same_computed Destruct l name part whole vs a b c p closed t = refl
same_computed ObjectName l name part whole vs a b c p closed t = refl
same_computed LoadName l name part whole vs a b c p closed t = refl
same_computed ProgramName l name part whole vs a b c p closed t = refl
same_computed Clonep l name part whole vs a b c p closed t = refl
same_computed Objectp l name part whole vs a b c p closed t = refl
same_computed Intp l name part whole vs a b c p closed t = refl
same_computed Stringp l name part whole vs a b c p closed t = refl
same_computed Pointerp l name part whole vs a b c p closed t = refl
same_computed Mappingp l name part whole vs a b c p closed t = refl
same_computed Living l name part whole vs a b c p closed t = refl
same_computed Interactive l name part whole vs a b c p closed t = refl
same_computed FunctionExists l name part whole vs a b c p closed t = refl
same_computed EnableCommands l name part whole vs a b c p closed t = refl
same_computed Shadow l name part whole vs a b c p closed t = refl
same_computed QueryShadowing l name part whole vs a b c p closed t = refl
same_computed Unshadow l name part whole vs a b c p closed t = refl
same_computed Environment l name part whole vs a b c p closed t = refl
same_computed AllInventory l name part whole vs a b c p closed t = refl
same_computed FirstInventory l name part whole vs a b c p closed t = refl
same_computed NextInventory l name part whole vs a b c p closed t = refl
same_computed Present l name part whole vs a b c p closed t = refl
same_computed MoveObject l name part whole vs a b c p closed t = refl
same_computed AddAction l name part whole vs a b c p closed t = refl
same_computed Command l name part whole vs a b c p closed t = refl
same_computed QueryVerb l name part whole vs a b c p closed t = refl
same_computed NotifyFail l name part whole vs a b c p closed t = refl
same_computed InputTo l name part whole vs a b c p closed t = refl
same_computed Write l name part whole vs a b c p closed t = refl
same_computed TellObject l name part whole vs a b c p closed t = refl
same_computed TellRoom l name part whole vs a b c p closed t = refl
same_computed Say l name part whole vs a b c p closed t = refl
same_computed Printf l name part whole vs a b c p closed t = refl
same_computed Users l name part whole vs a b c p closed t = refl
same_computed Exec l name part whole vs a b c p closed t = refl
same_computed RemoveInteractive l name part whole vs a b c p closed t = refl
same_computed Time l name part whole vs a b c p closed t = refl
same_computed SetHeartBeat l name part whole vs a b c p closed t = refl
same_computed CallOut l name part whole vs a b c p closed t = refl
same_computed RemoveCallOut l name part whole vs a b c p closed t = refl
same_computed FindCallOut l name part whole vs a b c p closed t = refl
same_computed Random l name part whole vs a b c p closed t = refl
same_computed Throw l name part whole vs a b c p closed t = refl
same_computed RaiseError l name part whole vs a b c p closed t = refl
same_computed Strlen l name part whole vs a b c p closed t = refl
same_computed Explode l name part whole vs a b c p closed t = refl
same_computed Implode l name part whole vs a b c p closed t = refl
same_computed LowerCase l name part whole vs a b c p closed t = refl
same_computed UpperCase l name part whole vs a b c p closed t = refl
same_computed Capitalize l name part whole vs a b c p closed t = refl
same_computed Strstr l name part whole vs a b c p closed t = refl
same_computed Trim l name part whole vs a b c p closed t = refl
same_computed Sprintf l name part whole vs a b c p closed t =
    ap (as_text Sprintf) (formatted_same l (spelled l name part) (spelled l name whole) (drop 1 vs) (spelled_all l name part whole (drop 1 vs) p closed (All-drop (IsThere part) 1 vs t)) (text_in a))
same_computed Sscanf l name part whole vs a b c p closed t = refl
same_computed ToInt l name part whole vs a b c p closed t = refl
same_computed ToString l name part whole vs a b c p closed t = refl
same_computed Sizeof l name part whole vs a b c p closed t = refl
same_computed Allocate l name part whole vs a b c p closed t = refl
same_computed Member l name part whole vs a b c p closed t = refl
same_computed Copy l name part whole vs a b c p closed t = refl
same_computed Filter l name part whole vs a b c p closed t = refl
same_computed Map l name part whole vs a b c p closed t = refl
same_computed MIndices l name part whole vs a b c p closed t = refl
same_computed MValues l name part whole vs a b c p closed t = refl
same_computed MDelete l name part whole vs a b c p closed t = refl
same_computed Mkmapping l name part whole vs a b c p closed t = refl
same_computed Min l name part whole vs a b c p closed t = refl
same_computed Max l name part whole vs a b c p closed t = refl
same_computed Abs l name part whole vs a b c p closed t = refl
same_computed ReadFile l name part whole vs a b c p closed t = refl
same_computed WriteFile l name part whole vs a b c p closed t = refl
same_computed FileSize l name part whole vs a b c p closed t = refl
same_computed Rm l name part whole vs a b c p closed t = refl
same_computed SaveObject l name part whole vs a b c p closed t = refl
same_computed RestoreObject l name part whole vs a b c p closed t = refl

-- what an efun computes of arguments that are there
pub computes_same : (e : Efun) (s : State) (part : Store) (vs : List Value) → IsPart part (cells_of s) → IsClosed part → All (IsThere part) vs
    → computes e (with_store s part) vs (opened_args (with_store s part) vs) ≡ computes e s vs (opened_args s vs)
unfolding computes
computes_same e s part vs p c t =
    ap within (meaning e (with_store s part) vs (map (operand (living s) part) vs)
    ∙ ap (λ xs. computed e (living s) (name_in s.world) part vs (arg xs 0) (arg xs 1) (arg xs 2)) (args_same (living s) part (cells_of s) vs p t)
    ∙ same_computed e (living s) (name_in s.world) part (cells_of s) vs (arg (opened_args s vs) 0) (arg (opened_args s vs) 1) (arg (opened_args s vs) 2) p c t
    ∙ sym (meaning e s vs (opened_args s vs)))

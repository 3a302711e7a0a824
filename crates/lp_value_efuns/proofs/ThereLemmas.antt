-- What efuns that compute do names what is there, where the cells are closed.
use Rattle.std.proofs.Common.{◌≡◌, sym, subst, ℕ, ℤ, pos, negsuc, nat_abs, Bool, true, false, List, [], ◌∷◌, Option, Some, None, map, drop, unwrap_or, slice_get, if◌then◌else◌, Result, Ok, Err}
use Rattle.std.specs.Prelude.{All}
use Rattle.std.specs.Option.{option_map}
use Rattle.std.specs.Ordering.{int_eq}
use Rattle.std.proofs.lemmas.List.Elements.{All-nil, All-head, All-tail, All-cons, All-replicate, All-get_or}
use Rattle.std.proofs.lemmas.Option.{get_or_from_slice_get, slice_get-map, slice_get_within}
use Rattle.lp_values.specs.Read.{as_read}
use Rattle.lp_values.specs.declared.id.ObjId.{ObjId}
use Rattle.lp_values.specs.declared.error.ErrorKind.TheVariants.{Overflow}
use Rattle.lp_values.specs.declared.value.Value.{Value}
use Rattle.lp_values.specs.declared.value.Value.TheVariants as values
use Rattle.lp_cells.specs.Cells.{IsClosed, IsPairThere, IsThere, Store}
use Rattle.lp_cells.proofs.ClosedLemmas.{insert_all_there, read_there}
use Rattle.lp_text.specs.Pieces.{exploded}
use Rattle.lp_text.specs.Texts.{place}
use Rattle.lp_format.specs.declared.fault.FormatFault.{FormatFault}
use Rattle.lp_format.specs.declared.fault.FormatFault.TheVariants as faults
use Rattle.lp_format.specs.Forms.{pieces}
use Rattle.lp_format.specs.Formatted.{formatted}
use Rattle.lp_format.specs.Spelled.{spelled}
use Rattle.lp_ops.specs.declared.effect.Effect.{Effect}
use Rattle.lp_ops.specs.Effects.{IsEffectThere, refused}
use Rattle.lp_ops.specs.Integers.{fits, int, whole}
use Rattle.lp_ops.specs.Operands.{Opened, Number, Chars, Array, Mapping, Object, operand}
use Rattle.lp_ops.proofs.ClosedLemmas.{IsOpenedThere, opened_there}
use Rattle.lp_instr.specs.declared.efun.Efun.{Efun}
use Rattle.lp_instr.specs.declared.efun.Efun.TheVariants.{ThisObject, ThisPlayer, ThisInteractive, PreviousObject, CallOther, CloneObject, LoadObject, FindObject, Destruct, ObjectName, LoadName, ProgramName, Clonep, Objectp, Intp, Stringp, Pointerp, Mappingp, Living, Interactive, FunctionExists, EnableCommands, Shadow, QueryShadowing, Unshadow, Environment, AllInventory, FirstInventory, NextInventory, Present, MoveObject, AddAction, Command, QueryVerb, NotifyFail, InputTo, Write, TellObject, TellRoom, Say, Printf, Users, Exec, RemoveInteractive, Time, SetHeartBeat, CallOut, RemoveCallOut, FindCallOut, Random, Throw, RaiseError, Strlen, Explode, Implode, LowerCase, UpperCase, Capitalize, Strstr, Trim, Sprintf, Sscanf, ToInt, ToString, Sizeof, Allocate, Member, Copy, Filter, Map, MIndices, MValues, MDelete, Mkmapping, Min, Max, Abs, ReadFile, WriteFile, FileSize, Rm, SaveObject, RestoreObject}
use Rattle.lp_language.specs.Course.{zero_value}
use Rattle.lp_meaning.specs.EfunArguments.{arg, bad, int_in, items_in, pairs_in, text_in}
use Rattle.lp_meaning.specs.ComputingEfuns.{allocate, as_text, copied, from_zero, leading_int, member, paired, place_or_none, sizeof, to_int}
use Rattle.lp_value_efuns.specs.Computed.{Named, computed}

choice_there : (cells : Store) (b : Bool) (e f : Effect) → IsEffectThere cells e → IsEffectThere cells f → IsEffectThere cells (if b then e else f)
choice_there cells true e f i j = i
choice_there cells false e f i j = j

whole_there : (cells : Store) (z : ℤ) → IsEffectThere cells (whole z)
whole_there cells z = choice_there cells (fits z) (int z) (refused Overflow) tt tt

place_there : (cells : Store) (o : Option ℕ) → IsEffectThere cells (place_or_none o)
place_there cells (Some i) = tt
place_there cells None = tt

texts_there : (cells : Store) (ts : List (List ℕ)) → All (IsThere cells) (map values.Str ts)
texts_there cells [] = All-nil (IsThere cells)
texts_there cells (t ∷ ts) = All-cons (IsThere cells) (values.Str t) (map values.Str ts) tt (texts_there cells ts)

formatted_there : (cells : Store) (e : Efun) (r : Result (List ℕ) FormatFault) → IsEffectThere cells (as_text e r)
formatted_there cells e (Ok t) = tt
formatted_there cells e (Err (faults.BadFormat at)) = tt
formatted_there cells e (Err faults.TooFewArgs) = tt
formatted_there cells e (Err (faults.BadArg n)) = tt
formatted_there cells e (Err faults.TooLong) = tt
formatted_there cells e (Err faults.NoMemory) = tt

int_there : (cells : Store) (a : Opened) → IsEffectThere cells (to_int a)
int_there cells (Number n) = tt
int_there cells (Chars s) = whole_there cells (leading_int s)
int_there cells (Array c vs) = tt
int_there cells (Mapping c ps) = tt
int_there cells (Object o) = tt

size_there : (cells : Store) (a : Opened) → IsEffectThere cells (sizeof a)
size_there cells (Number n) = choice_there cells (int_eq n (pos 0)) (int (pos 0)) (bad Sizeof 1) tt tt
size_there cells (Chars s) = tt
size_there cells (Array c vs) = tt
size_there cells (Mapping c ps) = tt
size_there cells (Object o) = tt

zeros_there : (cells : Store) (z : ℤ) → IsEffectThere cells (allocate z)
zeros_there cells (pos n) = All-replicate (IsThere cells) n zero_value tt
zeros_there cells (negsuc n) = tt

member_there : (cells : Store) (live : ObjId → Bool) (a b : Opened) → IsEffectThere cells (member live a b)
member_there cells live (Array c vs) b = place_there cells _
member_there cells live (Mapping c ps) b = tt
member_there cells live (Chars s) b = place_there cells _
member_there cells live (Number n) b = tt
member_there cells live (Object o) b = tt

copy_there : (cells : Store) (a : Opened) → IsOpenedThere cells a → IsEffectThere cells (copied a)
copy_there cells (Number n) i = tt
copy_there cells (Chars s) i = tt
copy_there cells (Array c vs) i = i
copy_there cells (Mapping c ps) i = i
copy_there cells (Object o) i = tt

items_there : (cells : Store) (a : Opened) → IsOpenedThere cells a → All (IsThere cells) (items_in a)
items_there cells (Number n) i = All-nil (IsThere cells)
items_there cells (Chars s) i = All-nil (IsThere cells)
items_there cells (Array c vs) i = i
items_there cells (Mapping c ps) i = All-nil (IsThere cells)
items_there cells (Object o) i = All-nil (IsThere cells)

pairs_there : (cells : Store) (a : Opened) → IsOpenedThere cells a → All (IsPairThere cells) (pairs_in a)
pairs_there cells (Number n) i = All-nil (IsPairThere cells)
pairs_there cells (Chars s) i = All-nil (IsPairThere cells)
pairs_there cells (Array c vs) i = All-nil (IsPairThere cells)
pairs_there cells (Mapping c ps) i = i
pairs_there cells (Object o) i = All-nil (IsPairThere cells)

keys_there : (cells : Store) (ps : List (Value × Value)) → All (IsPairThere cells) ps → All (IsThere cells) (map (λ p. p.0) ps)
keys_there cells [] h = All-nil (IsThere cells)
keys_there cells (p ∷ ps) h = All-cons (IsThere cells) p.0 (map (λ p. p.0) ps) (All-head (IsPairThere cells) p ps h).0 (keys_there cells ps (All-tail (IsPairThere cells) p ps h))

values_there : (cells : Store) (ps : List (Value × Value)) → All (IsPairThere cells) ps → All (IsThere cells) (map (λ p. p.1) ps)
values_there cells [] h = All-nil (IsThere cells)
values_there cells (p ∷ ps) h = All-cons (IsThere cells) p.1 (map (λ p. p.1) ps) (All-head (IsPairThere cells) p ps h).1 (values_there cells ps (All-tail (IsPairThere cells) p ps h))

paired_there : (cells : Store) (live : ObjId → Bool) (ks vs : List Value) → All (IsThere cells) ks → All (IsThere cells) vs → All (IsPairThere cells) (paired live ks vs)
paired_there cells live [] vs h i = All-nil (IsPairThere cells)
paired_there cells live (k ∷ ks) [] h i = All-nil (IsPairThere cells)
paired_there cells live (k ∷ ks) (v ∷ vs) h i = All-cons (IsPairThere cells) (as_read live k, v) (paired live ks vs) (read_there live cells k (All-head (IsThere cells) k ks h), All-head (IsThere cells) v vs i) (paired_there cells live ks vs (All-tail (IsThere cells) k ks h) (All-tail (IsThere cells) v vs i))

-- what an efun does names what is there
pub computed_there : (e : Efun) (live : ObjId → Bool) (name : Named) (cells : Store) (vs : List Value) (a b c : Opened) → IsOpenedThere cells a → IsOpenedThere cells b → IsEffectThere cells (computed e live name cells vs a b c)
computed_there ThisObject live name cells vs a b c i j = tt
computed_there ThisPlayer live name cells vs a b c i j = tt
computed_there ThisInteractive live name cells vs a b c i j = tt
computed_there PreviousObject live name cells vs a b c i j = tt
computed_there CallOther live name cells vs a b c i j = tt
computed_there CloneObject live name cells vs a b c i j = tt
computed_there LoadObject live name cells vs a b c i j = tt
computed_there FindObject live name cells vs a b c i j = tt
computed_there Destruct live name cells vs a b c i j = tt
computed_there ObjectName live name cells vs a b c i j = tt
computed_there LoadName live name cells vs a b c i j = tt
computed_there ProgramName live name cells vs a b c i j = tt
computed_there Clonep live name cells vs a b c i j = tt
computed_there Objectp live name cells vs a b c i j = tt
computed_there Intp live name cells vs a b c i j = tt
computed_there Stringp live name cells vs a b c i j = tt
computed_there Pointerp live name cells vs a b c i j = tt
computed_there Mappingp live name cells vs a b c i j = tt
computed_there Living live name cells vs a b c i j = tt
computed_there Interactive live name cells vs a b c i j = tt
computed_there FunctionExists live name cells vs a b c i j = tt
computed_there EnableCommands live name cells vs a b c i j = tt
computed_there Shadow live name cells vs a b c i j = tt
computed_there QueryShadowing live name cells vs a b c i j = tt
computed_there Unshadow live name cells vs a b c i j = tt
computed_there Environment live name cells vs a b c i j = tt
computed_there AllInventory live name cells vs a b c i j = tt
computed_there FirstInventory live name cells vs a b c i j = tt
computed_there NextInventory live name cells vs a b c i j = tt
computed_there Present live name cells vs a b c i j = tt
computed_there MoveObject live name cells vs a b c i j = tt
computed_there AddAction live name cells vs a b c i j = tt
computed_there Command live name cells vs a b c i j = tt
computed_there QueryVerb live name cells vs a b c i j = tt
computed_there NotifyFail live name cells vs a b c i j = tt
computed_there InputTo live name cells vs a b c i j = tt
computed_there Write live name cells vs a b c i j = tt
computed_there TellObject live name cells vs a b c i j = tt
computed_there TellRoom live name cells vs a b c i j = tt
computed_there Say live name cells vs a b c i j = tt
computed_there Printf live name cells vs a b c i j = tt
computed_there Users live name cells vs a b c i j = tt
computed_there Exec live name cells vs a b c i j = tt
computed_there RemoveInteractive live name cells vs a b c i j = tt
computed_there Time live name cells vs a b c i j = tt
computed_there SetHeartBeat live name cells vs a b c i j = tt
computed_there CallOut live name cells vs a b c i j = tt
computed_there RemoveCallOut live name cells vs a b c i j = tt
computed_there FindCallOut live name cells vs a b c i j = tt
computed_there Random live name cells vs a b c i j = tt
computed_there Throw live name cells vs a b c i j = tt
computed_there RaiseError live name cells vs a b c i j = tt
computed_there Strlen live name cells vs a b c i j = tt
computed_there Explode live name cells vs a b c i j = texts_there cells (exploded (text_in b) (text_in a))
computed_there Implode live name cells vs a b c i j = tt
computed_there LowerCase live name cells vs a b c i j = tt
computed_there UpperCase live name cells vs a b c i j = tt
computed_there Capitalize live name cells vs a b c i j = tt
computed_there Strstr live name cells vs a b c i j = place_there cells (place (text_in b) (text_in a) (from_zero (int_in c)))
computed_there Trim live name cells vs a b c i j = tt
computed_there Sprintf live name cells vs a b c i j = formatted_there cells Sprintf (formatted live (spelled live name cells) (drop 1 vs) (pieces (text_in a)))
computed_there Sscanf live name cells vs a b c i j = tt
computed_there ToInt live name cells vs a b c i j = int_there cells a
computed_there ToString live name cells vs a b c i j = tt
computed_there Sizeof live name cells vs a b c i j = size_there cells a
computed_there Allocate live name cells vs a b c i j = zeros_there cells (int_in a)
computed_there Member live name cells vs a b c i j = member_there cells live a b
computed_there Copy live name cells vs a b c i j = copy_there cells a i
computed_there Filter live name cells vs a b c i j = tt
computed_there Map live name cells vs a b c i j = tt
computed_there MIndices live name cells vs a b c i j = keys_there cells (pairs_in a) (pairs_there cells a i)
computed_there MValues live name cells vs a b c i j = values_there cells (pairs_in a) (pairs_there cells a i)
computed_there MDelete live name cells vs a b c i j = tt
computed_there Mkmapping live name cells vs a b c i j = insert_all_there cells [] (paired live (items_in a) (items_in b)) (All-nil (IsPairThere cells)) (paired_there cells live (items_in a) (items_in b) (items_there cells a i) (items_there cells b j))
computed_there Min live name cells vs a b c i j = tt
computed_there Max live name cells vs a b c i j = tt
computed_there Abs live name cells vs a b c i j = whole_there cells (pos (nat_abs (int_in a)))
computed_there ReadFile live name cells vs a b c i j = tt
computed_there WriteFile live name cells vs a b c i j = tt
computed_there FileSize live name cells vs a b c i j = tt
computed_there Rm live name cells vs a b c i j = tt
computed_there SaveObject live name cells vs a b c i j = tt
computed_there RestoreObject live name cells vs a b c i j = tt

found_there : (live : ObjId → Bool) (cells : Store) (o : Option Value) → IsClosed cells → IsOpenedThere cells (unwrap_or (option_map (operand live cells) o) (Number (pos 0)))
found_there live cells None h = tt
found_there live cells (Some v) h = opened_there live cells (as_read live v) h

-- what an argument holds is there
pub arg_there : (live : ObjId → Bool) (cells : Store) (vs : List Value) (i : ℕ) → IsClosed cells → IsOpenedThere cells (arg (map (operand live cells) vs) i)
arg_there live cells vs i h = subst (λ o. IsOpenedThere cells (unwrap_or o (Number (pos 0)))) (sym (slice_get-map (operand live cells) vs i)) (found_there live cells (slice_get vs i) h)

-- an argument as read is there
pub get_there : (live : ObjId → Bool) (cells : Store) (vs : List Value) (i : ℕ) (v : Value) → All (IsThere cells) vs → slice_get vs i ≡ Some v → IsThere cells (as_read live v)
get_there live cells vs i v h e = read_there live cells v (subst (IsThere cells) (get_or_from_slice_get vs i v v e) (All-get_or (IsThere cells) vs i v (slice_get_within vs i v e) h))

-- Efuns that may call LPC, each as the course of what it asks, in order.
use Rattle.std.specs.Prelude.{ℕ, List, [], ◌∷◌, ◌++◌, drop, Bool, false, not, ◌&&◌, ◌||◌, cond, Option, Some, None, is_some, slice_get, pos, codes, if◌then◌else◌}
use Rattle.std.specs.List.{list_any}
use Rattle.lp_values.specs.declared.id.ObjId.{ObjId}
use Rattle.lp_values.specs.declared.value.Value.{Value}
use Rattle.lp_values.specs.declared.value.Value.TheVariants.{Int, Str, Obj}
use Rattle.lp_values.specs.declared.error.ErrorKind.TheVariants.{BadTarget}
use Rattle.lp_values.specs.Errors.{bad_arg, plain}
use Rattle.lp_events.specs.declared.out.Out.TheVariants as outs
use Rattle.lp_ops.specs.Operands.{Opened, Chars, Object}
use Rattle.lp_ops.specs.Operators.{array}
use Rattle.lp_instr.specs.declared.efun.Efun.{Efun}
use Rattle.lp_instr.specs.declared.efun.Efun.TheVariants as efuns
use Rattle.lp_instr.specs.EfunList.{efun_name}
use Rattle.lp_language.specs.World.{World, is_live, object_at}
use Rattle.lp_language.specs.Course.{Scene, State, Failed, Other, Command, Course, Over, and_then, gives, stops, zero_value}
use Rattle.lp_language.specs.Operations.{finished, is_false}
use Rattle.lp_language.specs.Resolve.{Found, function_of, heritage_of, is_nomask, names_in}
use Rattle.lp_places.specs.Places.{is_at, environment, inventory, may_shadow, shadowed}
use Rattle.lp_meaning.specs.WorldSteps.{as_name, load_name, version_of_object}
use Rattle.lp_meaning.specs.Askers.{Asker, ask_value, for_player, tell, told}
use Rattle.lp_meaning.specs.FileLoads.{text_target, as_target, live_object, clone_of, master_call}
use Rattle.lp_meaning.specs.MovesAndCommands.{is_living, moving}
use Rattle.lp_meaning.specs.EfunArguments.{arg, text_arg, items_arg, object_arg, value_arg}
use Rattle.lp_meaning.specs.ComputingEfuns.{format, written}

-- the integer 1
abbrev pub one_value : Value
one_value = Int (pos 1)

-- an object that is live, as the arguments of the kind are
abbrev pub with_live : Option ObjId → State → (ObjId → Course Value) → Course Value
with_live None s go = gives zero_value s
with_live (Some o) s go = go o

-- Calls of other objects

-- The target: a text names one, which is loaded if needed; what is no live object then is an error.
abbrev pub with_target : Asker → Opened → State → (ObjId → State → Course Value) → Course Value
with_target by (Chars t) s go = and_then (text_target by t s) (λ v s. as_target v s go)
with_target by (Object o) s go = go o s
with_target by _ s go = stops (Failed (plain BadTarget)) s

-- the efun `call_other`: the function and its arguments follow the target
abbrev pub call_other : Asker → State → List Value → List Opened → Course Value
call_other by s vs xs = with_target by (arg xs 0) s (λ o s. ask_value (Other o (text_arg xs 1)) (drop 2 vs) by s)

-- a clone of a name's blueprint, or of an object's
abbrev pub clone_object : Asker → State → Opened → Course Value
clone_object by s (Chars t) = clone_of by (as_name t) s
clone_object by s (Object o) = clone_of by (load_name (object_at s.world o).name) s
clone_object by s _ = gives zero_value s

-- Shadows

-- a nomask function of an object has the name of a function of another one
abbrev pub is_nomask_found : Option Found → Bool
is_nomask_found None = false
is_nomask_found (Some f) = is_nomask f.function.modifiers

-- whether one object has a nomask function with the name of a function of another one
abbrev pub masks : World → ObjId → ObjId → Bool
masks w by o = list_any (λ name. is_nomask_found (function_of w o name) && is_some (function_of w by name)) (names_in (heritage_of w o))

-- both live, and the places and chains allow it
abbrev pub may_begin : World → ObjId → ObjId → Bool
may_begin w this o = is_live w this && is_live w o && not (is_some (may_shadow w.places w.shadows this o))

-- the world in which one object shadows another one
abbrev pub with_shadow : World → ObjId → ObjId → World
with_shadow w this o = record w { shadows = shadowed w.shadows this o }

-- The places, the nomask functions and the pragma are looked at, then the master is asked, and then live and places again.
abbrev pub shadow_answered : ObjId → ObjId → Value → State → Course Value
shadow_answered this o v s =
    if is_false s v || not (may_begin s.world this o) then gives zero_value s else gives one_value (record s { world = with_shadow s.world this o })

-- the efun `shadow`
abbrev pub shadow : Asker → Scene → ObjId → State → Course Value
shadow by c o s =
    if not (may_begin s.world c.this o) || masks s.world c.this o || (version_of_object s.world o).pragmas.no_shadow then gives zero_value s
    else and_then (master_call by (codes "query_allow_shadow") (Obj o ∷ []) s) (λ v s. shadow_answered c.this o v s)

-- Places

-- the first object of a list whose `id(s)` is not 0; one that is destructed when its turn comes is left out
abbrev pub present_among : Asker → List ℕ → List ObjId → State → (State → Course Value) → Course Value
present_among by t [] s none = none s
present_among by t (o ∷ os) s none =
    if is_live s.world o then
    and_then (ask_value (Other o (codes "id")) (Str t ∷ []) by s) (λ v s. cond (is_false s v) (present_among by t os s none) (gives (Obj o) s))
    else present_among by t os s none

-- the objects in one that there may be
abbrev pub present_in : Asker → List ℕ → Option ObjId → State → (State → Course Value) → Course Value
present_in by t None s none = none s
present_in by t (Some o) s none = present_among by t (inventory s.world.places o) s none

-- nothing was found
abbrev pub nobody : State → Course Value
nobody s = gives zero_value s

-- an object is there where its environment is the given one, and else this object or its environment
abbrev pub is_beside : World → ObjId → Option ObjId → ObjId → Bool
is_beside w this (Some e) o = is_at (environment w.places o) e
is_beside w this None o = is_at (environment w.places o) this || elim (environment w.places this) [ Some e ↦ is_at (environment w.places o) e | None ↦ false ]

-- a text is looked for in the given object, and else in this object and then in its environment
abbrev pub present_text : Asker → Scene → List ℕ → Option ObjId → State → Course Value
present_text by c t (Some o) s = present_in by t (Some o) s nobody
present_text by c t None s = present_in by t (Some c.this) s (λ s. present_in by t (environment s.world.places c.this) s nobody)

-- the efun `present`
abbrev pub present : Asker → Scene → State → List Opened → Opened → Course Value
present by c s xs (Object o) = if is_beside s.world c.this (object_arg xs 1) o then gives (Obj o) s else gives zero_value s
present by c s xs (Chars t) = present_text by c t (object_arg xs 1) s
present by c s xs _ = gives zero_value s

-- the item and the destination are to be live once the destination is found
abbrev pub move_to : Asker → Option ObjId → Option ObjId → State → Course Value
move_to by (Some item) (Some dest) s = moving by item dest s
move_to by _ _ s = stops (Failed (plain BadTarget)) s

-- the efun `move_object`: a text names the destination
abbrev pub move_object : Asker → State → Value → Opened → Course Value
move_object by s item (Chars t) = and_then (text_target by t s) (λ v s. move_to by (live_object s.world item) (live_object s.world v) s)
move_object by s item (Object o) = move_to by (live_object s.world item) (Some o) s
move_object by s item _ = gives zero_value s

-- Commands and messages

-- this object, if it is living, carries out a line as `this_player()`
abbrev pub command : Asker → Scene → List ℕ → State → Course Value
command by c line s =
    if is_live s.world c.this && is_living s.world c.this then for_player (Some c.this) (λ s. ask_value (Command c.this line) [] by s) s
    else gives zero_value s

-- a text goes to `this_player()`, and is a log record where that is 0
abbrev pub write_to : Asker → Option ObjId → List ℕ → State → Course Value
write_to by None t s = gives zero_value (told (outs.Log t ∷ []) s)
write_to by (Some p) t s = if is_live s.world p then tell by p t s else gives zero_value (told (outs.Log t ∷ []) s)

-- the same for `this_player()`
abbrev pub write_text : Asker → List ℕ → State → Course Value
write_text by t s = write_to by s.player t s

-- each living object of a list but one is told; one that is destructed or not living when its turn comes is left out
abbrev pub tell_each : Asker → List ℕ → Option ObjId → List ObjId → State → Course Value
tell_each by t but [] s = gives zero_value s
tell_each by t but (o ∷ os) s =
    if is_live s.world o && is_living s.world o && not (is_at but o) then and_then (tell by o t s) (λ v s. tell_each by t but os s)
    else tell_each by t but os s

-- `say`: in the environment of `this_player()`, or of this object where that is 0, without that object itself
abbrev pub speaker : World → ObjId → Option ObjId → ObjId
speaker w this None = this
speaker w this (Some p) = if is_live w p then p else this

-- where there is an environment
abbrev pub say_in : Asker → ObjId → List ℕ → Option ObjId → State → Course Value
say_in by o t None s = gives zero_value s
say_in by o t (Some e) s = tell_each by t (Some o) (inventory s.world.places e) s

-- the efun `say`
abbrev pub say : Asker → Scene → List ℕ → State → Course Value
say by c t s = let o : ObjId = speaker s.world c.this s.player in say_in by o t (environment s.world.places o) s

-- `printf` writes what is formatted
abbrev pub formatted_text : Value → List ℕ
formatted_text (Str t) = t
formatted_text _ = []

-- the text that is written is not paid again
abbrev pub printf : Asker → State → List Value → List Opened → Course Value
printf by s vs xs = and_then (Over (finished 0 (format efuns.Printf s (text_arg xs 0) (drop 1 vs)) s)) (λ v s. write_text by (formatted_text v) s)

-- Filters and maps

-- For each item of the array as it stood, in order, the function of the object is called with the item and the further arguments;
-- an object that is not live then is no target. `take` says what the answer adds to the result.
abbrev pub per_item : Asker → ObjId → List ℕ → List Value → (State → Value → Value → List Value) → List Value → List Value → State → Course Value
per_item by o fun more take got [] s = Over (finished 0 (array got) s)
per_item by o fun more take got (x ∷ xs) s =
    if is_live s.world o then and_then (ask_value (Other o fun) (x ∷ more) by s) (λ v s. per_item by o fun more take (got ++ take s x v) xs s)
    else stops (Failed (plain BadTarget)) s

-- a filter takes the item where the answer is not 0
abbrev pub kept_item : State → Value → Value → List Value
kept_item s x v = if is_false s v then [] else x ∷ []

-- a map takes the answer
abbrev pub mapped_item : State → Value → Value → List Value
mapped_item s x v = v ∷ []

-- the object is the third argument, or this object, which reads as 0 where it is destructed
abbrev pub object_for : Scene → State → List Opened → Option ObjId
object_for c s xs = elim (slice_get xs 2) [ Some x ↦ object_arg xs 2 | None ↦ if is_live s.world c.this then Some c.this else None ]

-- the efuns `filter` and `map`
abbrev pub over_items : Efun → Asker → (State → Value → Value → List Value) → List Value → List Opened → Option ObjId → State → Course Value
over_items e by take vs xs None s = stops (Failed (bad_arg 3 (efun_name e))) s
over_items e by take vs xs (Some o) s = per_item by o (text_arg xs 1) (drop 3 vs) take [] (items_arg xs 0) s

-- What an efun of this group does.
unfoldable pub calls : Efun → Asker → Scene → State → List Value → List Opened → Course Value
calls efuns.CallOther by c s vs xs = call_other by s vs xs
calls efuns.CloneObject by c s vs xs = clone_object by s (arg xs 0)
calls efuns.LoadObject by c s vs xs = text_target by (text_arg xs 0) s
calls efuns.Shadow by c s vs xs = with_live (object_arg xs 0) s (λ o. shadow by c o s)
calls efuns.Present by c s vs xs = present by c s xs (arg xs 0)
calls efuns.MoveObject by c s vs xs = move_object by s (value_arg vs 0) (arg xs 1)
calls efuns.Command by c s vs xs = command by c (text_arg xs 0) s
calls efuns.Write by c s vs xs = write_text by (written s.world (arg xs 0)) s
calls efuns.TellObject by c s vs xs = with_live (object_arg xs 0) s (λ o. tell by o (text_arg xs 1) s)
calls efuns.TellRoom by c s vs xs = with_live (object_arg xs 0) s (λ o. tell_each by (text_arg xs 1) None (inventory s.world.places o) s)
calls efuns.Say by c s vs xs = say by c (text_arg xs 0) s
calls efuns.Printf by c s vs xs = printf by s vs xs
calls efuns.Filter by c s vs xs = over_items efuns.Filter by kept_item vs xs (object_for c s xs) s
calls efuns.Map by c s vs xs = over_items efuns.Map by mapped_item vs xs (object_for c s xs) s
calls _ by c s vs xs = gives zero_value s

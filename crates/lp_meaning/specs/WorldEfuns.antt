-- Efuns that look at the world or change it, and call no LPC.
use Rattle.std.specs.Prelude.{ℕ, ℤ, pos, negsuc, ◌+◌, ◌-◌, ◌%◌, List, [], ◌∷◌, ◌++◌, length, drop, map, Bool, true, not, ◌&&◌, Option, Some, None, is_some, slice_get, nat_eq, nat_lt, if◌then◌else◌}
use Rattle.std.specs.List.{list_any}
use Rattle.std.specs.Ordering.{int_eq}
use Rattle.rand_xoshiro.specs.SplitMix64.{mix_u64}
use Rattle.lp_values.specs.declared.id.CellId.{CellId}
use Rattle.lp_values.specs.declared.id.ObjId.{ObjId}
use Rattle.lp_values.specs.declared.value.Value.{Value}
use Rattle.lp_values.specs.declared.value.Value.TheVariants as values
use Rattle.lp_values.specs.declared.error.ErrorKind.TheVariants as errors
use Rattle.lp_values.specs.Errors.{error}
use Rattle.lp_cells.specs.declared.content.Content.TheVariants as content
use Rattle.lp_cells.specs.Cells.{content_set, pairs_at}
use Rattle.lp_cells.specs.Mapping.{pairs_dropped}
use Rattle.lp_events.specs.declared.out.Out.TheVariants as outs
use Rattle.lp_ops.specs.declared.effect.Effect.{Effect}
use Rattle.lp_ops.specs.declared.effect.Effect.TheVariants.{Gives, Fault}
use Rattle.lp_ops.specs.Effects.{refused, within}
use Rattle.lp_ops.specs.Integers.{int, truth}
use Rattle.lp_ops.specs.Operands.{Opened, Mapping}
use Rattle.lp_ops.specs.Operators.{text, array}
use Rattle.lp_instr.specs.declared.efun.Efun.{Efun}
use Rattle.lp_instr.specs.declared.efun.Efun.TheVariants.{ThisObject, ThisPlayer, ThisInteractive, PreviousObject, FindObject, Destruct, ObjectName, LoadName, ProgramName, Living, Interactive, FunctionExists, EnableCommands, QueryShadowing, Unshadow, Environment, AllInventory, FirstInventory, NextInventory, AddAction, QueryVerb, NotifyFail, InputTo, Users, Exec, RemoveInteractive, Time, SetHeartBeat, CallOut, RemoveCallOut, FindCallOut, Random, Throw, RaiseError, MDelete}
use Rattle.lp_language.specs.World.{Object as ObjectOf, World, is_live, object_at, object_named, object_value, with_object}
use Rattle.lp_timers.specs.Timers.{Beat}
use Rattle.lp_timers.specs.Timers.{CallOut as CallOutOf}
use Rattle.lp_language.specs.Course.{Scene, State, Typed}
use Rattle.lp_language.specs.Operations.{living, cells_of, with_store, with_world}
use Rattle.lp_language.specs.Resolve.{Found, function_of, is_private, heritage_of, part_at, version_of, without_c}
use Rattle.lp_places.specs.Places.{environment, in_reach, inventory, next_in, shadowing, unshadowed}
use Rattle.lp_timers.specs.Timers.{max_call_outs, beats, beat_on, beat_off, earliest, without_call_out}
use Rattle.lp_meaning.specs.WorldSteps.{as_name, load_name, version_of_object, connection_of, is_connected, with_holder, without_connection, destructed, destruction}
use Rattle.lp_meaning.specs.Askers.{told}
use Rattle.lp_meaning.specs.EfunArguments.{arg, int_arg, text_arg, object_arg, object_in, value_arg, bad}

-- What an efun does: a value, a new cell or an error, in a state that it may have changed; or a throw.
pub data Deed : Type 0 where
  Yields : Effect → State → Deed
  Throws : Value → Deed

-- an object, or 0 where there is none
abbrev pub answers_object : Option ObjId → State → Deed
answers_object o s = Yields (Gives (object_value s.world o)) s

-- 0 and 1
abbrev pub zero : Effect
zero = int (pos 0)

-- the integer 1
abbrev pub one : Effect
one = int (pos 1)

-- the world changes
abbrev pub changes : World → Effect → State → Deed
changes w e s = Yields e (with_world s w)

-- the object of an argument; a missing one is this object, which reads as 0 where it is destructed
abbrev pub object_or_this : Scene → State → List Opened → ℕ → Option ObjId
object_or_this c s xs n = elim (slice_get xs n) [ Some x ↦ object_in x | None ↦ if is_live s.world c.this then Some c.this else None ]

-- an efun about an object; without one the argument is bad
abbrev pub of_object : Efun → ℕ → Option ObjId → State → (ObjId → Deed) → Deed
of_object e n None s go = Yields (bad e n) s
of_object e n (Some o) s go = go o

-- an object that is live, as the arguments of the kind are
abbrev pub of_live : Option ObjId → State → (ObjId → Deed) → Deed
of_live None s go = Yields zero s
of_live (Some o) s go = go o

-- Objects

-- the caller with a number, the latest being 0
abbrev pub caller_at : List ObjId → ℤ → Option ObjId
caller_at callers (pos n) = slice_get callers n
caller_at callers (negsuc n) = None

-- the path without `.c` of the program in whose text a function stands, unless it is private
abbrev pub program_of : World → ObjId → Found → List ℕ
program_of w o f = elim (part_at (heritage_of w o) f.part) [ Some p ↦ without_c (version_of p.tree).path | None ↦ [] ]

-- the program of a function that may be seen, or 0
abbrev pub function_program : World → ObjId → Option Found → Effect
function_program w o None = zero
function_program w o (Some f) = if is_private f.function.modifiers then zero else text (program_of w o f)

-- an object becomes living, and `this_player()`
abbrev pub living_object : ObjectOf → ObjectOf
living_object x = record x { is_living = true }

-- the state after `enable_commands`
abbrev pub enabled : ObjId → State → State
enabled o s = record s { player = Some o; world = with_object s.world o (living_object (object_at s.world o)) }

-- an object stops shadowing
abbrev pub with_shadows_less : World → ObjId → World
with_shadows_less w o = record w { shadows = unshadowed w.shadows o }

-- Places

abbrev pub object_values : List ObjId → List Value
object_values os = map values.Obj os

-- the first of a list
abbrev pub first_of : List ObjId → Option ObjId
first_of [] = None
first_of (o ∷ os) = Some o

-- the object that follows in the environment
abbrev pub next_beside : World → ObjId → Option ObjId
next_beside w o = elim (environment w.places o) [ Some e ↦ next_in o (inventory w.places e) | None ↦ None ]

-- Commands

-- an integer that is 1 is a flag, and no other
abbrev pub is_flag : ℤ → Bool
is_flag n = int_eq n (pos 1)

-- whether an object has a function, whatever its modifiers
abbrev pub has_function : World → ObjId → List ℕ → Bool
has_function w o name = is_some (function_of w o name)

-- an object where it lives
abbrev pub live_one : World → Option ObjId → Option ObjId
live_one w None = None
live_one w (Some o) = if is_live w o then Some o else None

-- the player, where it is living and this object is in its reach
abbrev pub holder_for : World → ObjId → Option ObjId → Option ObjId
holder_for w o None = None
holder_for w o (Some p) = if is_live w p && (object_at w p).is_living && in_reach w.places p o then Some p else None

-- one action more, the latest
abbrev pub with_sentence : World → ObjId → ObjId → List ℕ → List ℕ → Bool → World
with_sentence w holder giver fun verb is_front =
    record w {
      sentences = record { number = w.next_sentence; holder = holder; giver = giver; function = fun; verb = verb; is_front = is_front } ∷ w.sentences;
      next_sentence = w.next_sentence + 1;
    }

-- the efun `add_action`: 0 comes before the error of a missing function
abbrev pub add_action : Scene → State → List Opened → Deed
add_action c s xs =
    if not (is_live s.world c.this) then Yields zero s
    else elim (holder_for s.world c.this s.player) [
      | None ↦ Yields zero s
      | Some p ↦ if has_function s.world c.this (text_arg xs 0) then changes (with_sentence s.world p c.this (text_arg xs 0) (text_arg xs 1) (is_flag (int_arg xs 2))) one s
          else Yields (refused errors.NoFunction) s
    ]

-- the verb of the innermost running command, or 0
abbrev pub verb_value : List Typed → Effect
verb_value [] = zero
verb_value (c ∷ cs) = text c.verb

-- the text that the innermost command shows where no action does it
abbrev pub with_fail : List ℕ → List Typed → List Typed
with_fail t [] = []
with_fail t (c ∷ cs) = record c { fail = Some t } ∷ cs

-- the same in a state
abbrev pub failing : List ℕ → State → State
failing t s = record s { commands = with_fail t s.commands }

-- the connection of the player, where nothing waits for its next line
abbrev pub is_awaited : World → ℕ → Bool
is_awaited w k = list_any (λ x. nat_eq x.connection k) w.waiting

-- a connection for whose next line nothing waits
abbrev pub unless_awaited : World → Option ℕ → Option ℕ
unless_awaited w None = None
unless_awaited w (Some k) = if is_awaited w k then None else Some k

-- that of the player
abbrev pub free_connection : World → Option ObjId → Option ℕ
free_connection w None = None
free_connection w (Some p) = unless_awaited w (connection_of w p)

-- a function waits for the next line of a connection
abbrev pub with_waiting : World → ℕ → ObjId → List ℕ → Bool → List Value → World
with_waiting w k o fun hides vs =
    record w { waiting = w.waiting ++ record { connection = k; object = o; function = fun; hides = hides; arguments = vs } ∷ [] }

-- a function of this object waits for the next line of the player's connection; with the flag the input is hidden
abbrev pub input_to : Scene → State → List Value → List Opened → Deed
input_to c s vs xs = elim (free_connection s.world s.player) [
  | None ↦ Yields zero s
  | Some k ↦
      if has_function s.world c.this (text_arg xs 0) then
      Yields one (told (if is_flag (int_arg xs 1) then outs.Hide k ∷ [] else []) (with_world s (with_waiting s.world k c.this (text_arg xs 0) (is_flag (int_arg xs 1)) (drop 2 vs))))
      else Yields (refused errors.NoFunction) s
]

-- Connections

-- the connection of the second object goes to the first, unless that has one
abbrev pub exec : ObjId → ObjId → State → Deed
exec a b s = elim (connection_of s.world b) [
  | None ↦ Yields zero s
  | Some k ↦ if is_connected s.world a then Yields zero s else changes (with_holder s.world k a) one s
]

-- a connection is closed by LPC
abbrev pub remove_interactive : ObjId → State → Deed
remove_interactive o s = elim (connection_of s.world o) [
  | None ↦ Yields zero s
  | Some k ↦ Yields zero (told (outs.Close k ∷ []) (with_world s (without_connection s.world k)))
]

-- Time

abbrev pub with_beats : World → List Beat → World
with_beats w bs = record w { beats = bs }

-- a heart is switched on or off: 1 where that changes anything; a destructed object has none
abbrev pub set_heart_beat : Scene → State → ℤ → Deed
set_heart_beat c s n =
    if not (is_live s.world c.this) then Yields zero s
    else (if int_eq n (pos 0) then
    (if beats s.world.beats c.this then changes (with_beats s.world (beat_off s.world.beats c.this)) one s else Yields zero s)
    else (if beats s.world.beats c.this then Yields zero s else changes (with_beats s.world (beat_on s.world.beats c.this s.world.clock)) one s))

-- one call-out more, the last
abbrev pub with_call_out : World → ObjId → List ℕ → ℕ → List Value → World
with_call_out w o fun delay vs =
    record w {
      call_outs = w.call_outs ++ record { number = w.next_call_out; object = o; function = fun; due = w.clock + delay; arguments = vs } ∷ [];
      next_call_out = w.next_call_out + 1;
    }

-- a call-out of a function of this object: the delay is looked at first, then the function, then how many wait
abbrev pub call_out_after : Scene → State → List Value → List ℕ → ℤ → Deed
call_out_after c s vs fun (negsuc n) = Yields (bad CallOut 2) s
call_out_after c s vs fun (pos n) =
    if not (has_function s.world c.this fun) then Yields (refused errors.NoFunction) s
    else (if nat_lt (length s.world.call_outs) max_call_outs then changes (with_call_out s.world c.this fun n (drop 2 vs)) zero s
    else Yields (refused errors.TooMany) s)

-- a destructed object makes none
abbrev pub call_out : Scene → State → List Value → List Opened → Deed
call_out c s vs xs = if is_live s.world c.this then call_out_after c s vs (text_arg xs 0) (int_arg xs 1) else Yields zero s

-- the seconds until a call-out is due, 0 if it is due, or -1 where there is none
abbrev pub seconds_left : World → Option CallOutOf → Effect
seconds_left w None = int (negsuc 0)
seconds_left w (Some x) = int (pos (x.due - w.clock))

-- without a call-out, where there is one
abbrev pub without_one : World → Option CallOutOf → World
without_one w None = w
without_one w (Some x) = record w { call_outs = without_call_out w.call_outs x.number }

-- a word of the generator modulo a number above 0, and else 0 without a word
abbrev pub with_generator : World → ℕ → World
with_generator w n = record w { generator = n }

-- the efun `random`
abbrev pub random : ℤ → State → Deed
random (negsuc n) s = Yields zero s
random (pos n) s =
    if nat_eq n 0 then Yields zero s
    else changes (with_generator s.world (mix_u64 s.world.generator).1) (int (pos ((mix_u64 s.world.generator).0 % n))) s

-- Mappings: a key is dropped, and the answer is the same mapping, which is there.
abbrev pub pairs_left : State → CellId → Option (List (Value × Value)) → Value → Deed
pairs_left s c None k = Yields (Gives (values.Map c)) s
pairs_left s c (Some ps) k = Yields (Gives (values.Map c)) (with_store s (content_set (cells_of s) c (content.Mapping (pairs_dropped (living s) ps k))))

abbrev pub m_delete : State → Opened → Value → Deed
m_delete s (Mapping c ps) k = pairs_left s c (pairs_at (cells_of s) c) k
m_delete s x k = Yields zero s

-- What an efun of this group does, in a function of this scene, with these arguments, as they are and as read.
unfoldable pub deed : Efun → Scene → State → List Value → List Opened → Deed
deed ThisObject c s vs xs = answers_object (Some c.this) s
deed ThisPlayer c s vs xs = answers_object s.player s
deed ThisInteractive c s vs xs = answers_object c.interactive s
deed PreviousObject c s vs xs = answers_object (caller_at c.callers (int_arg xs 0)) s
deed FindObject c s vs xs = answers_object (object_named s.world (as_name (text_arg xs 0))) s
deed Destruct c s vs xs = of_live (object_arg xs 0) s (λ o. Yields zero (told (destruction s.world o) (with_world s (destructed s.world o))))
deed ObjectName c s vs xs = of_object ObjectName 1 (object_or_this c s xs 0) s (λ o. Yields (text (object_at s.world o).name) s)
deed LoadName c s vs xs = of_object LoadName 1 (object_or_this c s xs 0) s (λ o. Yields (text (load_name (object_at s.world o).name)) s)
deed ProgramName c s vs xs = of_object ProgramName 1 (object_or_this c s xs 0) s (λ o. Yields (text (version_of_object s.world o).path) s)
deed Living c s vs xs = of_live (object_arg xs 0) s (λ o. Yields (truth (object_at s.world o).is_living) s)
deed Interactive c s vs xs = of_object Interactive 1 (object_or_this c s xs 0) s (λ o. Yields (truth (is_connected s.world o)) s)
deed FunctionExists c s vs xs = of_object FunctionExists 2 (object_or_this c s xs 1) s (λ o. Yields (function_program s.world o (function_of s.world o (text_arg xs 0))) s)
deed EnableCommands c s vs xs = if is_live s.world c.this then Yields zero (enabled c.this s) else Yields zero s
deed QueryShadowing c s vs xs = of_live (object_arg xs 0) s (λ o. answers_object (shadowing s.world.shadows o) s)
deed Unshadow c s vs xs = changes (with_shadows_less s.world c.this) zero s
deed Environment c s vs xs = of_object Environment 1 (object_or_this c s xs 0) s (λ o. answers_object (environment s.world.places o) s)
deed AllInventory c s vs xs = of_object AllInventory 1 (object_or_this c s xs 0) s (λ o. Yields (within (array (object_values (inventory s.world.places o)))) s)
deed FirstInventory c s vs xs = of_object FirstInventory 1 (object_or_this c s xs 0) s (λ o. answers_object (first_of (inventory s.world.places o)) s)
deed NextInventory c s vs xs = of_object NextInventory 1 (object_or_this c s xs 0) s (λ o. answers_object (next_beside s.world o) s)
deed AddAction c s vs xs = add_action c s xs
deed QueryVerb c s vs xs = Yields (verb_value s.commands) s
deed NotifyFail c s vs xs = Yields zero (failing (text_arg xs 0) s)
deed InputTo c s vs xs = input_to c s vs xs
deed Users c s vs xs = Yields (array (object_values (map (λ x. x.object) s.world.connections))) s
deed Exec c s vs xs = of_live (object_arg xs 0) s (λ a. of_live (object_arg xs 1) s (λ b. exec a b s))
deed RemoveInteractive c s vs xs = of_live (object_arg xs 0) s (λ o. remove_interactive o s)
deed Time c s vs xs = Yields (int (pos s.world.clock)) s
deed SetHeartBeat c s vs xs = set_heart_beat c s (int_arg xs 0)
deed CallOut c s vs xs = call_out c s vs xs
deed RemoveCallOut c s vs xs =
    let x : Option CallOutOf = earliest s.world.call_outs c.this (text_arg xs 0) in changes (without_one s.world x) (seconds_left s.world x) s
deed FindCallOut c s vs xs = Yields (seconds_left s.world (earliest s.world.call_outs c.this (text_arg xs 0))) s
deed Random c s vs xs = random (int_arg xs 0) s
deed Throw c s vs xs = Throws (value_arg vs 0)
deed RaiseError c s vs xs = Yields (Fault (error errors.Raised (text_arg xs 0))) s
deed MDelete c s vs xs = m_delete s (arg xs 0) (value_arg vs 1)
deed _ c s vs xs = Yields zero s

-- `move_object` as a job: what it still does.
use Rattle.std.specs.Prelude.{◌+◌, ◌<◌, ◌≤◌, ⊤, List, Option, drop, length, map}
use Rattle.lp_values.specs.declared.id.ObjId.{ObjId}
use Rattle.lp_values.specs.declared.value.Value.{Value}
use Rattle.lp_language.specs.Course.{Course, State, and_then, gives, zero_value}
use Rattle.lp_meaning.specs.Askers.{Asker}
use Rattle.lp_meaning.specs.CallingEfuns.{move_to}
use Rattle.lp_meaning.specs.EfunArguments.{value_arg}
use Rattle.lp_meaning.specs.FileLoads.{live_object, load_value}
use Rattle.lp_meaning.specs.MovesAndCommands.{inits, moving}
use Rattle.lp_moving.specs.Moving.{init_of}
use Rattle.lp_places.specs.Places.{Init}
use Rattle.lp_calling.specs.declared.moving.Moving.{Moving}
use Rattle.lp_calling.specs.declared.moving.Moving.TheVariants as moves
use Rattle.lp_calling.specs.declared.moving.Visits.{Visits}

-- the calls of `init` that are left, and those behind the next one
abbrev pub calls_left : Visits → List Init
calls_left r = map init_of (drop r.done r.calls.items)

abbrev pub calls_behind : Visits → List Init
calls_behind r = map init_of (drop (r.done + 1) r.calls.items)

-- an item comes into a destination, where both are live objects
abbrev pub comes_into : Value → Asker → Value → State → Course Value
comes_into item by dest s = move_to by (live_object s.world item) (live_object s.world dest) s

-- THE COURSE OF A MOVE, where the item is the first of these values; and what follows the answer of a question.
abbrev pub move_course : Moving → List Value → Asker → State → Course Value
move_course (moves.Destination name) own by s = and_then (load_value by name s) (comes_into (value_arg own 0) by)
move_course (moves.Into item dest) own by s = moving by item dest s
move_course (moves.Visiting r) own by s = inits by r.item r.dest (calls_left r) s

abbrev pub move_rest : Moving → List Value → Asker → Value → State → Course Value
move_rest (moves.Destination name) own by v s = comes_into (value_arg own 0) by v s
move_rest (moves.Into item dest) own by v s = gives zero_value s
move_rest (moves.Visiting r) own by v s = inits by r.item r.dest (calls_behind r) s

-- `this_player()` once a question has ended
abbrev pub move_back : Moving → Option ObjId → Option ObjId
move_back (moves.Destination name) p = p
move_back (moves.Into item dest) p = p
move_back (moves.Visiting r) p = r.back

-- no more calls are done than there are
abbrev pub IsMoveOn : Moving → Type 0
IsMoveOn (moves.Destination name) = ⊤
IsMoveOn (moves.Into item dest) = ⊤
IsMoveOn (moves.Visiting r) = r.done ≤ length r.calls.items

-- it may ask
abbrev pub IsMoveAsking : Moving → Type 0
IsMoveAsking (moves.Destination name) = ⊤
IsMoveAsking (moves.Into item dest) = ⊥
IsMoveAsking (moves.Visiting r) = r.done < length r.calls.items

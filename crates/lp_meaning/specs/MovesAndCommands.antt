-- Moves with their calls of `init`, and commands.
use Rattle.std.specs.Prelude.{ℕ, List, [], ◌∷◌, drop, Bool, ◌&&◌, Option, Some, None, unwrap_or, cond, pos, codes, if◌then◌else◌}
use Rattle.lp_values.specs.declared.id.ObjId.{ObjId}
use Rattle.lp_values.specs.declared.value.Value.{Value}
use Rattle.lp_values.specs.declared.value.Value.TheVariants.{Int, Str}
use Rattle.lp_values.specs.declared.error.ErrorKind.{ErrorKind}
use Rattle.lp_values.specs.declared.error.ErrorKind.TheVariants as kinds
use Rattle.lp_values.specs.Errors.{plain}
use Rattle.lp_language.specs.World.{World, object_at, is_live}
use Rattle.lp_actions.specs.Actions.{Sentence}
use Rattle.lp_language.specs.Operations.{is_false}
use Rattle.lp_language.specs.Course.{State, Typed, Failed, End, Gives, Stops, Apply, Ask, Reply, Course, Over, and_then, in_any_case, gives, stops, zero_value}
use Rattle.lp_places.specs.Places.{Init, MoveNo, IsShadow, WouldContainItself, is_at, environment, moved, may_move, inits_of_move}
use Rattle.lp_actions.specs.Actions.{holds, kept_in_reach, matching, verb_of, argument_in}
use Rattle.lp_meaning.specs.Askers.{Asker, asker_of, state_of, ask_value, plainly, for_player, tell}

-- the world after a move; each action whose giver is then out of reach is dropped
abbrev pub moved_world : World → ObjId → ObjId → World
moved_world w item dest =
    record w { places = moved w.places item dest; sentences = kept_in_reach (moved w.places item dest) w.sentences }

-- whether an object is living
abbrev pub is_living : World → ObjId → Bool
is_living w o = (object_at w o).is_living

-- a call of `init` is made only while the item is still there, the objects are live, and the one for whom it is made is living
abbrev pub may_init : World → ObjId → ObjId → Init → Bool
may_init w item dest i =
    is_at (environment w.places item) dest && is_live w item && is_live w dest && is_live w i.of && is_live w i.player && is_living w i.player

-- the calls of `init`, in their order
abbrev pub inits : Asker → ObjId → ObjId → List Init → State → Course Value
inits by item dest [] s = gives zero_value s
inits by item dest (i ∷ is) s =
    if may_init s.world item dest i then
    and_then (for_player (Some i.player) (λ s. ask_value (Apply i.of (codes "init")) [] by s) s) (λ v s. inits by item dest is s)
    else inits by item dest is s

-- the error of a move that may not be
abbrev pub move_error : MoveNo → ErrorKind
move_error IsShadow = kinds.IsShadow
move_error WouldContainItself = kinds.WouldContainItself

-- A move: the item becomes the first in the inventory of its destination, and then the calls of `init` are made.
abbrev pub moving : Asker → ObjId → ObjId → State → Course Value
moving by item dest s = elim (may_move s.world.places s.world.shadows item dest) [
  | Some reason ↦ stops (Failed (plain (move_error reason))) s
  | None ↦ inits by item dest (inits_of_move (moved s.world.places item dest) item dest) (record s { world = moved_world s.world item dest })
]

-- Commands

-- the text that is shown where no action did a command: the last one that was given for it, or `What?`
abbrev pub fail_text : List Typed → List ℕ
fail_text [] = codes "What?\n"
fail_text (c ∷ cs) = unwrap_or c.fail (codes "What?\n")

-- the argument of a line as a value: 0 where there is none
abbrev pub argument_value : Option (List ℕ) → Value
argument_value None = zero_value
argument_value (Some text) = Str text

-- The actions are tried in order. Each that is still held and whose giver is live is applied; the first answer that is not 0 ends
-- the search with 1. Where there is none, the living object is told so, and the answer is 0.
abbrev pub trying : Asker → ObjId → Value → List Sentence → State → Course Value
trying by o argument [] s = and_then (tell by o (fail_text s.commands) s) (λ v s. gives zero_value s)
trying by o argument (x ∷ xs) s =
    if holds s.world.sentences o x.number && is_live s.world x.giver then
    and_then (ask_value (Apply x.giver x.function) (argument ∷ []) by s) (λ v s.
    cond (is_false s v) (trying by o argument xs s) (gives (Int (pos 1)) s))
    else trying by o argument xs s

-- a command that runs no longer
abbrev pub without_command : {A : Type 0} → End A → End A
without_command (Gives x s) = Gives x (record s { commands = drop 1 s.commands })
without_command (Stops x s) = Stops x (record s { commands = drop 1 s.commands })

-- A command of a living object, which is `this_player()` already: an empty line does nothing and answers 0.
abbrev pub commanding : Asker → ObjId → List ℕ → State → Course Value
commanding by o [] s = gives zero_value s
commanding by o (c ∷ cs) s =
    in_any_case
    (trying by o (argument_value (argument_in (c ∷ cs))) (matching s.world.sentences o (verb_of (c ∷ cs)))
    (record s { commands = record { verb = verb_of (c ∷ cs); fail = None } ∷ s.commands }))
    (λ e. Over (without_command e))

-- a command as the answer to a question
abbrev pub command_call : Ask → ObjId → List ℕ → Course Reply
command_call a o line = plainly (commanding (asker_of a) o line (state_of a))

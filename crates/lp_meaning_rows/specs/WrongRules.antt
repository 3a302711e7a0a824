-- Wrong rules, each with one line of the meaning changed, and a row that tells it from the meaning.
use Rattle.std.specs.Prelude.{◌≡◌, ℕ, List, [], ◌∷◌, ◌++◌, false, Option, Some, None, option_map, reverse, flat_map, drop, codes, if◌then◌else◌}
use Rattle.lp_tree.specs.Trees.{Tree, Assign, Binary}
use Rattle.lp_tree.specs.Statements.{Run, StmtTrees, NoStmt, MoreStmts}
use Rattle.lp_values.specs.declared.id.ObjId.{ObjId}
use Rattle.lp_values.specs.declared.value.Value.{Value}
use Rattle.lp_events.specs.declared.event.Event.{Event}
use Rattle.lp_events.specs.declared.event.Event.TheVariants as events
use Rattle.lp_instr.specs.declared.efun.Efun.TheVariants as efuns
use Rattle.lp_ops.specs.Operands.{Opened}
use Rattle.lp_instr.specs.EfunList.{is_name}
use Rattle.lp_language.specs.World.{World}
use Rattle.lp_language.specs.Course.{Scene, State, End, Gives, Stops, Asked, Internal, Apply, Other, Command, OfEfun, Ask, Reply, Course, Over, and_then, in_any_case, gives, zero_value}
use Rattle.lp_language.specs.Resolve.{Found, Part, heritage_of, part_at, function_of, resolve, moved, is_private, is_protected}
use Rattle.lp_places.specs.Places.{Init, inventory}
use Rattle.lp_actions.specs.Actions.{matching, verb_of, argument_in}
use Rattle.lp_timers.specs.Timers.{due_at}
use Rattle.lp_meaning.specs.WorldSteps.{holder_of}
use Rattle.lp_meaning.specs.Askers.{Asker, asker_of, state_of, driver, ask_value, plainly}
use Rattle.lp_meaning.specs.FunctionCalls.{callers_behind, calling_if, nothing_called}
use Rattle.lp_meaning.specs.FileLoads.{text_target, live_object}
use Rattle.lp_meaning.specs.MovesAndCommands.{moved_world, inits, argument_value, trying, without_command}
use Rattle.lp_meaning.specs.EfunArguments.{object_arg, text_arg, opened_args}
use Rattle.lp_meaning.specs.EventTurns.{begun, call_end, line_text, done}
use Rattle.lp_meaning.specs.Ticks.{calls_out, turn}
use Rattle.lp_meaning.specs.Questions.{means}
use Rattle.lp_meaning.specs.Computing.{Rules}
use Rattle.lp_meaning_rows.specs.Rows.{Row, Gives as GivesTranscript, GivesBy}
use Rattle.lp_meaning_rows.specs.Values.{order}
use Rattle.lp_meaning_rows.specs.Calls.{callable, shadowed, inner}
use Rattle.lp_meaning_rows.specs.Places.{inits as inits_row}
use Rattle.lp_meaning_rows.specs.Commands.{latest_first, player_back, effects_stay}
use Rattle.lp_meaning_rows.specs.Time.{call_outs}

-- other answers to questions, or another turn
abbrev pub answering : (Ask → Asked → Option (Course Reply)) → Rules
answering answers = record { answers = λ a. answers a a.what; turns = turn }

abbrev pub turning : (Event → State → Course (Unit {0})) → Rules
turning turns = record { answers = means; turns = turns }

-- a call of a running function
abbrev pub by_function : Ask → (Scene → Course Reply) → Option (Course Reply)
by_function a go = Some (elim a.scene [ Some c ↦ go c | None ↦ nothing_called a ])

-- Order of evaluation: in an assignment the right operand of a sum is evaluated before the left one.
abbrev pub right_first_in : Tree → Tree
right_first_in (Assign l op p (Binary k o x y)) = Assign l op p (Binary k o y x)
right_first_in t = t

abbrev pub right_first_of : StmtTrees → StmtTrees
right_first_of NoStmt = NoStmt
right_first_of (MoreStmts (Run l t) ss) = MoreStmts (Run l (right_first_in t)) (right_first_of ss)
right_first_of (MoreStmts s ss) = MoreStmts s (right_first_of ss)

abbrev pub right_first_body : Found → Found
right_first_body f = record f { function = record (f.function) { body = right_first_of f.function.body } }

abbrev pub right_first : Ask → Asked → Option (Course Reply)
right_first a (Apply o name) = Some (calling_if a o (callers_behind a.scene) (option_map right_first_body (function_of a.world o name)))
right_first a _ = means a

-- Resolve of an internal call: it stays in the calling part.
abbrev pub of_part : Option Part → List ℕ → Option Found
of_part None name = None
of_part (Some p) name = moved p.first (resolve p.tree name)

abbrev pub stays_in_part : Ask → Asked → Option (Course Reply)
stays_in_part a (Internal name) = by_function a (λ c. calling_if a c.this c.callers (of_part (part_at (heritage_of a.world c.this) c.part) name))
stays_in_part a _ = means a

-- Shadow target: the shadows are passed over.
abbrev pub no_shadows : Ask → Asked → Option (Course Reply)
no_shadows a (Other o name) = by_function a (λ c. calling_if a o (c.this ∷ c.callers) (function_of a.world o name))
no_shadows a _ = means a

-- Static from outside: only private and protected functions are not called.
abbrev pub not_hidden : Option Found → Option Found
not_hidden None = None
not_hidden (Some f) = if is_private f.function.modifiers then None else (if is_protected f.function.modifiers then None else Some f)

abbrev pub static_from_outside : Ask → Asked → Option (Course Reply)
static_from_outside a (Other o name) = by_function a (λ c. calling_if a o (c.this ∷ c.callers) (not_hidden (function_of a.world o name)))
static_from_outside a _ = means a

-- Order of actions: the oldest first.
abbrev pub oldest_first_of : Ask → ObjId → List ℕ → State → Course Value
oldest_first_of a o line s =
    in_any_case
    (trying (asker_of a) o (argument_value (argument_in line)) (reverse (matching s.world.sentences o (verb_of line)))
    (record s { commands = record { verb = verb_of line; fail = None } ∷ s.commands }))
    (λ e. Over (without_command e))

abbrev pub oldest_first : Ask → Asked → Option (Course Reply)
oldest_first a (Command o line) = Some (plainly (oldest_first_of a o line (state_of a)))
oldest_first a _ = means a

-- `this_player()` after a command: it stays who carried it out.
abbrev pub player_stays : Ask → Asked → Option (Course Reply)
player_stays a (OfEfun efuns.Command) =
    by_function a (λ c. plainly (ask_value (Command c.this (text_arg (opened_args (state_of a) a.arguments) 0)) [] (asker_of a) (record (state_of a) { player = Some c.this })))
player_stays a _ = means a

-- Order of `init`: of two, that of the other comes before that of the item.
abbrev pub others_first : ObjId → List ObjId → List Init
others_first item others = flat_map (λ o. record { of = o; player = item } ∷ record { of = item; player = o } ∷ []) others

abbrev pub inits_others_first : World → ObjId → ObjId → List Init
inits_others_first w item dest = record { of = dest; player = item } ∷ others_first item (drop 1 (inventory w.places dest)) ++ record { of = item; player = dest } ∷ []

abbrev pub moving_others_first : Asker → Option ObjId → Option ObjId → State → Course Value
moving_others_first by (Some item) (Some dest) s =
    inits by item dest (inits_others_first (moved_world s.world item dest) item dest) (record s { world = moved_world s.world item dest })
moving_others_first by _ _ s = gives zero_value s

abbrev pub moves_others_first : Ask → Asked → Option (Course Reply)
moves_others_first a (OfEfun efuns.MoveObject) =
    by_function a (λ c.
    let xs : List Opened = opened_args (state_of a) a.arguments in
    plainly (and_then (text_target (asker_of a) (text_arg xs 1) (state_of a)) (λ v s. moving_others_first (asker_of a) (object_arg xs 0) (live_object s.world v) s)))
moves_others_first a _ = means a

-- A call-out in its own tick: what is due once the call-outs are done is called, too.
abbrev pub call_outs_again : Event → State → Course (Unit {0})
call_outs_again (events.Tick t) s = and_then (turn (events.Tick t) s) (λ x s. calls_out (due_at t s.world.call_outs) s)
call_outs_again e s = turn e s

-- Effects after an error: an uncaught end of a command leaves the world as it was before.
abbrev pub world_back : World → End Value → End Value
world_back w (Gives v s) = Gives v s
world_back w (Stops x s) = Stops x (record s { world = w })

abbrev pub command_undone : ObjId → List ℕ → State → Course (Unit {0})
command_undone o text s =
    in_any_case (ask_value (Command o text) [] (driver (Some o)) (begun (Some o) s)) (λ e. and_then (Over (call_end (Some o) (world_back s.world e))) (λ d s. done s))

abbrev pub errors_undone : Event → State → Course (Unit {0})
errors_undone (events.Line k bytes) s = elim (holder_of s.world k) [ Some o ↦ command_undone o (line_text bytes) s | None ↦ done s ]
errors_undone e s = turn e s

-- A row tells wrong rules from the meaning: it gives one transcript by the meaning and another by them.
pub record TellsApart (wrong : Rules) (row : Row) (right other : List ℕ) : Type 0 where
  pub by_the_meaning : GivesTranscript row right
  pub by_the_wrong_rules : GivesBy wrong row other
  pub differ : is_name right other ≡ false

-- Each of them is told from the meaning by a row.
pub record WrongRules : Type 0 where
  pub operands_from_right_to_left : TellsApart (answering right_first) order (codes "to 1 4\n2315\nend\n") (codes "to 1 4\n3215\nend\n")
  pub internal_call_stays_in_its_part : TellsApart (answering stays_in_part) inner (codes "to 1 5\n33,13\nend\n") (codes "to 1 5\n13,13\nend\n")
  pub shadows_are_passed_over : TellsApart (answering no_shadows) shadowed (codes "to 1 6\n1,11,1\nend\n") (codes "to 1 5\n1,1,1\nend\n")
  pub static_function_is_called_from_outside : TellsApart (answering static_from_outside) callable (codes "to 1 6\n0,0,30\nend\n") (codes "to 1 6\n3,0,30\nend\n")
  pub oldest_action_is_first : TellsApart (answering oldest_first) latest_first (codes "to 1 2\n21\nend\n") (codes "to 1 1\n1\nend\n")
  pub player_is_not_put_back : TellsApart (answering player_stays) player_back (codes "to 1 14\n/secure/master\nend\n") (codes "end\n")
  pub init_of_the_other_is_first : TellsApart (answering moves_others_first) inits_row (codes "to 1 27\nra rb ba ab rs sb bs sa as \nend\n") (codes "to 1 27\nra rb ab ba rs bs sb as sa \nend\n")
  pub call_out_comes_in_its_own_tick : TellsApart (turning call_outs_again) call_outs (codes "to 1 2\nab\nto 1 1\nc\nend\n") (codes "to 1 3\nabc\nend\n")
  pub effects_are_undone : TellsApart (turning errors_undone) effects_stay (codes "to 1 1\nx\nlog 70\nerror: Division by zero [bad of /secure/master, object /secure/master]\nto 1 64\nYour sensitive mind notices a wrongness in the fabric of space.\n\nto 1 1\n7\nend\n") (codes "to 1 1\nx\nlog 70\nerror: Division by zero [bad of /secure/master, object /secure/master]\nto 1 64\nYour sensitive mind notices a wrongness in the fabric of space.\n\nto 1 1\n0\nend\n")

-- Who asks, what is told of uncaught ends, and messages to objects.
use Rattle.std.specs.Prelude.{ℕ, List, [], ◌∷◌, ◌++◌, Option, Some, None, codes, if◌then◌else◌}
use Rattle.lp_values.specs.declared.id.ObjId.{ObjId}
use Rattle.lp_values.specs.declared.value.Value.{Value}
use Rattle.lp_values.specs.declared.value.Value.TheVariants.{Str}
use Rattle.lp_values.specs.Errors.{without_newline}
use Rattle.lp_events.specs.declared.out.Out.{Out}
use Rattle.lp_events.specs.declared.out.Out.TheVariants as outs
use Rattle.lp_language.specs.World.{is_live}
use Rattle.lp_language.specs.Course.{Scene, State, Place, Cause, Thrown, Failed, Spent, Stop, End, Gives, Stops, Loading, Asked, Apply, Ask, Reply, Plain, Course, Over, Asks, after, end_of_reply, end_of_outcome, and_then, in_any_case, gives, zero_value}
use Rattle.lp_meaning.specs.WorldSteps.{connection_of}

-- Who asks: the running function, or none where the driver asks; `this_interactive()`; the loads under way, the innermost first.
pub record Asker : Type 0 where
  pub scene : Option Scene
  pub interactive : Option ObjId
  pub loads : List Loading

-- the driver asks, with no load under way
abbrev pub driver : Option ObjId → Asker
driver interactive = record { scene = None; interactive = interactive; loads = [] }

-- who asked a question
abbrev pub asker_of : Ask → Asker
asker_of a = record { scene = a.scene; interactive = a.interactive; loads = a.loads }

-- the state in which a question is answered
abbrev pub state_of : Ask → State
state_of a = record { locals = []; player = a.player; commands = a.commands; world = a.world; budget = a.budget; outputs = [] }

-- a further question on behalf of who asks
abbrev pub question : Asked → List Value → Asker → State → Ask
question what xs by s = record {
  what = what;
  arguments = xs;
  scene = by.scene;
  interactive = by.interactive;
  loads = by.loads;
  player = s.player;
  commands = s.commands;
  world = s.world;
  budget = s.budget;
}

-- it is asked, and the reply is the value
abbrev pub ask_reply : Asked → List Value → Asker → State → Course Reply
ask_reply what xs by s = Asks (question what xs by s) (λ o. Over (end_of_reply o.answer (after s o)))

-- it is asked, and the value of the reply is the value
abbrev pub ask_value : Asked → List Value → Asker → State → Course Value
ask_value what xs by s = Asks (question what xs by s) (λ o. Over (end_of_outcome s o))

-- a value as a reply
abbrev pub plainly : Course Value → Course Reply
plainly c = and_then c (λ v s. gives (Plain v) s)

-- the state with one output more, or with several
abbrev pub told : List Out → State → State
told os s = record s { outputs = s.outputs ++ os }

-- Something is done for another `this_player()`, which is put back afterwards, however it ends.
abbrev pub with_player_back : {A : Type 0} → Option ObjId → End A → End A
with_player_back p (Gives x s) = Gives x (record s { player = p })
with_player_back p (Stops x s) = Stops x (record s { player = p })

-- a course for another `this_player()`
abbrev pub for_player : {A : Type 0} → Option ObjId → (State → Course A) → State → Course A
for_player p go s = in_any_case (go (record s { player = p })) (λ e. Over (with_player_back s.player e))

-- The text of an uncaught end, without a newline at its end.
abbrev pub cause_text : Cause → List ℕ
cause_text (Thrown v) = codes "Throw without catch"
cause_text (Failed e) = without_newline e.text
cause_text Spent = codes "Too long evaluation. Execution aborted."

-- where it was: ` [FUN of PROGRAM, object NAME]`, or nothing where no function was running
abbrev pub place_text : Option Place → List ℕ
place_text None = []
place_text (Some p) = codes " [" ++ p.function ++ codes " of " ++ p.program ++ codes ", object " ++ p.object ++ codes "]"

-- the log record of an uncaught end
abbrev pub error_record : Stop → Out
error_record x = outs.Log (codes "error: " ++ cause_text x.cause ++ place_text x.place)

-- A message to an object goes to its connection, and without one `catch_tell` is applied with it. A destructed object gets none.
abbrev pub tell : Asker → ObjId → List ℕ → State → Course Value
tell by o text s =
    if is_live s.world o then elim (connection_of s.world o) [
      | Some k ↦ gives zero_value (told (outs.Text k text ∷ []) s)
      | None ↦ and_then (ask_value (Apply o (codes "catch_tell")) (Str text ∷ []) by s) (λ v s. gives zero_value s)
    ]
    else gives zero_value s

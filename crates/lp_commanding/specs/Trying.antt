-- Which actions of a command are tried.
use Rattle.std.specs.Prelude.{◌≡◌, ◌≤◌, ⊤, ℕ, List, [], ◌∷◌, Bool, true, ◌&&◌, Option, Some, None, length, map, reverse, take}
use Rattle.lp_values.specs.declared.id.ObjId.{ObjId}
use Rattle.lp_values.specs.declared.value.Value.{Value}
use Rattle.lp_actions.specs.Actions.{Sentence, holds}
use Rattle.lp_actions.specs.Stored.{sentence_of}
use Rattle.lp_actions.specs.declared.sentence.Sentence as given
use Rattle.lp_language.specs.Course.{State}
use Rattle.lp_language.specs.World.{World, is_live}
use Rattle.lp_meaning.specs.Askers.{Asker}
use Rattle.lp_meaning.specs.MovesAndCommands.{trying}
use Rattle.lp_world.specs.declared.live.Live.{Live}
use Rattle.lp_world.specs.declared.objects.Object.{Object}
use Rattle.lp_world.specs.Rows.{live_in}
use Rattle.lp_efuns.specs.declared.caller.Turn.{Turn}
use Rattle.lp_efuns.specs.Turns.{At, Setting}
use Rattle.lp_commanding.specs.declared.job.Question.{Question}
use Rattle.lp_commanding.specs.declared.job.Question.TheVariants as questions

-- an action is tried: the object still holds it, and its giver is live
abbrev pub is_tried : World → ObjId → Sentence → Bool
is_tried w o x = holds w.sentences o x.number && is_live w x.giver

-- so it is in each world for which the live state stands, or it is not
abbrev pub IsTried : Bool → Live → ObjId → given.Sentence → Type 0
IsTried is live o x = (g : Setting) (turn : Turn) (budget : ℕ) (s : State) → At g live turn budget s → is ≡ is_tried s.world o (sentence_of o x)

-- actions that are kept with the next one last, with the next one first
abbrev pub actions_in : ObjId → List given.Sentence → List Sentence
actions_in o left = map (sentence_of o) (reverse left)

-- the first of them is tried, and its giver is live
abbrev pub IsFirstTried : World → ObjId → List Sentence → Type 0
IsFirstTried w o [] = ⊤
IsFirstTried w o (x ∷ xs) = is_tried w o x ≡ true

abbrev pub IsFirstLive : List (Option Object) → List Sentence → Type 0
IsFirstLive objects [] = ⊤
IsFirstLive objects (x ∷ xs) = live_in objects x.giver ≡ true

-- The next of these actions is tried, if there is one.
pub record IsNext (live : Live) (o : ObjId) (left : List given.Sentence) : Type 0 where
  pub tried : (g : Setting) (turn : Turn) (budget : ℕ) (s : State) → At g live turn budget s → IsFirstTried s.world o (actions_in o left)
  pub giver : IsFirstLive live.objects (actions_in o left)

-- Trying some actions is trying others, in each state for which the live state stands.
abbrev pub AreTriedAs : Live → ObjId → List given.Sentence → List given.Sentence → Type 0
AreTriedAs live o old new =
    (g : Setting) (turn : Turn) (budget : ℕ) (by : Asker) (s : State) (argument : Value) → At g live turn budget s → trying by o argument (actions_in o old) s ≡ trying by o argument (actions_in o new) s

-- So many actions are left, without those behind them that are not tried any more: the last of them is tried next.
pub record IsLeft (live : Live) (o : ObjId) (left : List given.Sentence) (n : ℕ) : Type 0 where
  pub within : n ≤ length left
  pub same : AreTriedAs live o left (take n left)
  pub next : IsNext live o (take n left)

-- what the first of some actions asks
abbrev pub question_of : List Sentence → Option Question
question_of [] = None
question_of (x ∷ xs) = Some (questions.Action x.giver x.function)

-- How courses end along the lists of their calls.
use Rattle.std.specs.Prelude.{◌≡◌, ◌≤◌, ◌-◌, Some}
use Rattle.lp_values.specs.declared.value.Value.{Value}
use Rattle.lp_language.specs.Course.{Ask, Course, Asks, End, Outcome, Reply, Scene, State, outcome_of}
use Rattle.lp_meaning.specs.Askers.{plainly}
use Rattle.lp_meaning.specs.Closing.{Ends, Has}
use Rattle.lp_meaning.specs.FrontEnd.{FrontEnd}
use Rattle.lp_meaning.specs.FunctionCalls.{entering, place_of, placed_end}
use Rattle.lp_meaning.specs.Limits.{max_depth}
use Rattle.lp_meaning.specs.Questions.{means}
use Rattle.lp_meaning.specs.WorldSteps.{entered}
use Rattle.lp_asking.specs.Endings.{plain_end}

-- A call whose entry is paid and that does not lie too deep ends as its body does, with the function's place at a stop without one.
abbrev pub CallsEnd : Type 0
CallsEnd = (front : FrontEnd) (c : Scene) (body : State → Course Value) (s : State) (e : End Value) → 1 ≤ s.budget → c.depth ≤ max_depth
    → Ends front (body (record s { budget = s.budget - 1; world = entered s.world c.this c.version })) e → Ends front (plainly (entering c body s)) (plain_end (placed_end (place_of s.world c) e))

-- A course that asks ends as what follows an outcome that the question has.
abbrev pub QuestionsEnd : Type 0
QuestionsEnd = (front : FrontEnd) (a : Ask) (k : Outcome → Course Value) (o : Outcome) (e : End Value) → Has front a o → Ends front (k o) e → Ends front (Asks a k) e

-- A question has the outcome with which its course ends.
abbrev pub QuestionsHave : Type 0
QuestionsHave = (front : FrontEnd) (a : Ask) (c : Course Reply) (e : End Reply) → means a ≡ Some c → Ends front c e → Has front a (outcome_of e)

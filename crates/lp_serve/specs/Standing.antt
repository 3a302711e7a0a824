-- How a game stands for what was heard, and what it does at a happening.
use Rattle.std.specs.Prelude.{◌≡◌, ℕ, List, [], ◌∷◌, ◌++◌, Bool, false, Option, Some}
use Rattle.lp_wire.specs.Courses.{Course, Deed, Along}
use Rattle.lp_wire.specs.Heard.{Hearing, Slow, slow_by}
use Rattle.lp_wire.specs.Wires.{given}
use Rattle.lp_wire.specs.declared.happening.WireCall.{WireCall}
use Rattle.lp_sessions.specs.All.{OffersAll}
use Rattle.lp_sessions.specs.Serving.{Foresees}
use Rattle.lp_control.specs.Operator.{ControlStands, OffersOperator}
use Rattle.lp_serving.specs.Serves.{RanOn}
use Rattle.lp_serving.specs.Happens.{Serving}
use Rattle.lp_serve.specs.declared.game.Game.{Game}

-- A GAME STANDS FOR WHAT WAS HEARD: its connections and its clock do, and the operator's connection
pub record StandsFor (g : Game) (h : Hearing) (calls : List WireCall) : Type 0 where
  pub serving : Serving g.server.connections.sessions g.server.connections.highest g.server.moment h calls
  pub control : ControlStands g.control h calls

-- what will be taken in the end, so far as it can be foreseen
abbrev pub IsForeseen : (ℕ → ℕ) → Game → List WireCall → Type 0
IsForeseen final g calls = Foresees final g.server.connections.sessions g.server.connections.highest calls

-- IT GOES ALONG A COURSE by these deeds, whatever is foreseen, and stops the run or does not
pub record DoesBy (course : Slow → Hearing → Course Hearing) (g g1 : Game) (stops : Bool) (calls added : List WireCall) (deeds : List Deed) : Type 0 where
  pub none_given : given added ≡ []
  pub foresees : (final : ℕ → ℕ) → IsForeseen final g1 (calls ++ added) → IsForeseen final g calls
  pub goes : (final : ℕ → ℕ) (h : Hearing) → IsForeseen final g1 (calls ++ added) → StandsFor g h calls → h.stopped ≡ false
      → (after : Hearing) × Along (course (slow_by final) h) deeds after × StandsFor g1 after (calls ++ added) × (after.stopped ≡ stops)

pub record Does (course : Slow → Hearing → Course Hearing) (ran0 ran1 : List Deed → Type 0) (g g1 : Game) (stops : Bool) (old now : Option (List WireCall)) : Type 0 where
  pub deeds : List Deed
  pub ran : RanOn ran0 ran1 deeds
  pub told : (l : List WireCall) → now ≡ Some l → (l0 : List WireCall) × (added : List WireCall) × (old ≡ Some l0) × (l ≡ l0 ++ added) × DoesBy course g g1 stops l0 added deeds

-- ALL IS OFFERED ONCE MORE, to the connections and to the operator
pub record OffersAgain (g g1 : Game) (added : List WireCall) : Type 0 where
  pub offers : List WireCall
  pub others : List WireCall
  pub both : added ≡ offers ++ others
  pub all : OffersAll g.server.connections.sessions g1.server.connections.sessions offers
  pub operator : OffersOperator g.control g1.control others
  pub highest : g1.server.connections.highest ≡ g.server.connections.highest
  pub moment : g1.server.moment ≡ g.server.moment

abbrev pub TellsAgain : Game → Game → Option (List WireCall) → Option (List WireCall) → Type 0
TellsAgain g g1 old now = (l : List WireCall) → now ≡ Some l → (l0 : List WireCall) × (added : List WireCall) × (old ≡ Some l0) × (l ≡ l0 ++ added) × OffersAgain g g1 added

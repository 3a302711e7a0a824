-- What a served run does at an event, as a course of what is heard.
use Rattle.std.specs.Prelude.{◌≡◌, ℕ, List, [], ◌∷◌, ◌++◌, false, Option, Some}
use Rattle.lp_events.specs.declared.event.Event.{Event}
use Rattle.lp_events.specs.declared.out.Out.{Out}
use Rattle.lp_wire.specs.Courses.{Course, Turns, Deed, Turned, Along}
use Rattle.lp_wire.specs.Heard.{is_connected, Hearing, Slow, with_outputs, settled, slow_by}
use Rattle.lp_wire.specs.Wires.{taken, given}
use Rattle.lp_wire.specs.declared.happening.WireCall.{WireCall}
use Rattle.lp_sessions.specs.declared.session.Session.{Session}
use Rattle.lp_sessions.specs.All.{AreOther}
use Rattle.lp_sessions.specs.Table.{AreAtMost}
use Rattle.lp_sessions.specs.Serving.{Stands, Foresees, Sent}

-- the driver ran on so
abbrev pub RanOn : (List Deed → Type 0) → (List Deed → Type 0) → List Deed → Type 0
RanOn ran0 ran1 deeds = (ds : List Deed) → ran0 ds → ran1 (ds ++ deeds)

-- outputs were sent, and nothing else
pub record SentAlone (outs : List Out) (ss ss1 : List Session) (calls added : List WireCall) : Type 0 where
  pub sent : Sent outs ss ss1 calls added
  pub others : (j : ℕ) → AreOther j ss → taken j added ≡ []

abbrev pub SendsAlone : List Out → List Session → List Session → Option (List WireCall) → Option (List WireCall) → Type 0
SendsAlone outs ss ss1 old now = (l : List WireCall) → now ≡ Some l → (l0 : List WireCall) × (added : List WireCall) × (old ≡ Some l0) × (l ≡ l0 ++ added) × SentAlone outs ss ss1 l0 added

-- ONE EVENT HAD ITS TURN, and its outputs were sent
pub record TurnsOver (event : Event) (ran0 ran1 : List Deed → Type 0) (ss ss1 : List Session) (old now : Option (List WireCall)) : Type 0 where
  pub outs : List Out
  pub ran : RanOn ran0 ran1 (Turned event outs ∷ [])
  pub sends : SendsAlone outs ss ss1 old now

-- the turn of an event, in the context behind it, and those that are slow then
abbrev pub turn_course : Event → Slow → Hearing → Course Hearing
turn_course event slow h = Turns event (λ outs. settled slow (with_outputs outs h))

-- WHAT EVENTS LEAVE of what was heard, once their context is there
pub record Leaves (h after : Hearing) : Type 0 where
  pub highest : after.context.highest ≡ h.context.highest
  pub moment : after.context.moment ≡ h.context.moment
  pub stopped : after.stopped ≡ h.stopped
  pub spans : after.spans ≡ h.spans
  pub answers : after.answers ≡ h.answers
  pub streams : (j : ℕ) → (after.links j).stream ≡ (h.links j).stream
  pub others : (j : ℕ) → is_connected j h ≡ false → (after.links j ≡ h.links j) × (is_connected j after ≡ false)

-- THE CONNECTIONS GO ALONG A COURSE by these deeds, whatever is foreseen.
pub record GoesBy (course : Slow → Hearing → Course Hearing) (ss ss1 : List Session) (calls added : List WireCall) (deeds : List Deed) : Type 0 where
  pub none_given : given added ≡ []
  pub untaken : (j : ℕ) → AreOther j ss → taken j added ≡ []
  pub at_most : (highest : ℕ) → AreAtMost highest ss → AreAtMost highest ss1
  pub foresees : (final : ℕ → ℕ) (highest : ℕ) → Foresees final ss1 highest (calls ++ added) → Foresees final ss highest calls
  pub goes : (final : ℕ → ℕ) (highest : ℕ) (h : Hearing) → AreAtMost highest ss → Foresees final ss1 highest (calls ++ added) → Stands ss h calls
      → (after : Hearing) × Along (course (slow_by final) h) deeds after × Stands ss1 after (calls ++ added) × Leaves h after

pub record Goes (course : Slow → Hearing → Course Hearing) (ran0 ran1 : List Deed → Type 0) (ss ss1 : List Session) (old now : Option (List WireCall)) : Type 0 where
  pub deeds : List Deed
  pub ran : RanOn ran0 ran1 deeds
  pub told : (l : List WireCall) → now ≡ Some l → (l0 : List WireCall) × (added : List WireCall) × (old ≡ Some l0) × (l ≡ l0 ++ added) × GoesBy course ss ss1 l0 added deeds

-- nothing is given, and nothing is taken
pub record AreCloses (added : List WireCall) : Type 0 where
  pub none_given : given added ≡ []
  pub untaken : (j : ℕ) → taken j added ≡ []

-- at most a close is told of a connection that is gone
abbrev pub Forgets : Option (List WireCall) → Option (List WireCall) → Type 0
Forgets old now = (l : List WireCall) → now ≡ Some l → (l0 : List WireCall) × (added : List WireCall) × (old ≡ Some l0) × (l ≡ l0 ++ added) × AreCloses added

-- What a served run does at one happening of its players or of the clock.
use Rattle.std.specs.Prelude.{◌≡◌, ℕ, ◌<◌, List, [], ◌++◌, Bool, true, false, Option, Some}
use Rattle.lp_wire.specs.Courses.{Course, Deed, Along}
use Rattle.lp_wire.specs.Heard.{Hearing, Slow, slow_by}
use Rattle.lp_wire.specs.WireText.{new_link}
use Rattle.lp_wire.specs.Wires.{taken, given}
use Rattle.lp_wire.specs.declared.happening.WireCall.{WireCall}
use Rattle.lp_sessions.specs.declared.session.Phase.{Phase}
use Rattle.lp_sessions.specs.declared.session.Phase.TheVariants.{Open, Closing, Over}
use Rattle.lp_sessions.specs.declared.session.Session.{Session}
use Rattle.lp_sessions.specs.Table.{AreAtMost}
use Rattle.lp_sessions.specs.Serving.{Stands, Foresees}
use Rattle.lp_serving.specs.Serves.{RanOn}

-- THE SERVER STANDS FOR WHAT WAS HEARD: its connections do, with the highest number so far and the moment; of higher numbers nothing was heard, and nothing was taken for them.
pub record Serving (ss : List Session) (highest moment : ℕ) (h : Hearing) (calls : List WireCall) : Type 0 where
  pub stands : Stands ss h calls
  pub top : h.context.highest ≡ highest
  pub now : h.context.moment ≡ moment
  pub most : AreAtMost highest ss
  pub fresh : (j : ℕ) → highest < j → (h.links j ≡ new_link) × (taken j calls ≡ [])

-- THE OPERATOR'S CONNECTION IS LEFT ALONE, and the run goes on if it did
pub record Aside (h after : Hearing) (added : List WireCall) : Type 0 where
  pub stopped : after.stopped ≡ h.stopped
  pub spans : after.spans ≡ h.spans
  pub answers : after.answers ≡ h.answers
  pub stream : (after.links 0).stream ≡ (h.links 0).stream
  pub untaken : taken 0 added ≡ []

-- THE SERVER GOES ALONG A COURSE by these deeds, whatever is foreseen
pub record HappensBy (course : Slow → Hearing → Course Hearing) (ss : List Session) (highest moment : ℕ) (ss1 : List Session) (highest1 moment1 : ℕ) (calls added : List WireCall) (deeds : List Deed) : Type 0 where
  pub none_given : given added ≡ []
  pub foresees : (final : ℕ → ℕ) → Foresees final ss1 highest1 (calls ++ added) → Foresees final ss highest calls
  pub goes : (final : ℕ → ℕ) (h : Hearing) → Foresees final ss1 highest1 (calls ++ added) → Serving ss highest moment h calls
      → (after : Hearing) × Along (course (slow_by final) h) deeds after × Serving ss1 highest1 moment1 after (calls ++ added) × Aside h after added

pub record Happens (course : Slow → Hearing → Course Hearing) (ran0 ran1 : List Deed → Type 0) (ss : List Session) (highest moment : ℕ) (ss1 : List Session) (highest1 moment1 : ℕ) (old now : Option (List WireCall)) : Type 0 where
  pub deeds : List Deed
  pub ran : RanOn ran0 ran1 deeds
  pub told : (l : List WireCall) → now ≡ Some l → (l0 : List WireCall) × (added : List WireCall) × (old ≡ Some l0) × (l ≡ l0 ++ added)
      × HappensBy course ss highest moment ss1 highest1 moment1 l0 added deeds

-- whether lines of a connection are events, by how far it has come
abbrev pub open_phase : Phase → Bool
open_phase Open = true
open_phase Closing = false
open_phase Over = false

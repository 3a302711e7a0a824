-- Objects are given a text, one after another.
use Rattle.std.specs.Prelude.{◌≡◌, ◌≤◌, ◌<◌, ◌∷◌, ◌++◌, [], ℕ, List, Bool, true, false, Option, None, drop, length}
use Rattle.lp_values.specs.declared.id.ObjId.{ObjId}
use Rattle.lp_events.specs.declared.out.Out.TheVariants as outs
use Rattle.lp_language.specs.Course.{State}
use Rattle.lp_meaning.specs.Askers.{Asker}
use Rattle.lp_meaning.specs.CallingEfuns.{speaker}
use Rattle.lp_places.specs.Places.{environment, inventory}
use Rattle.lp_world.specs.declared.live.Live.{Live}
use Rattle.lp_world.specs.Rows.{live_in}
use Rattle.lp_efuns.specs.declared.caller.Turn.{Turn}
use Rattle.lp_efuns.specs.Subjects.{number_of}
use Rattle.lp_efuns.specs.Turns.{At, Setting}
use Rattle.lp_calling.specs.declared.job.Audience.{Audience}
use Rattle.lp_calling.specs.Beginning.{Settled}
use Rattle.lp_calling.specs.Entering.{IsAudiencePoised, IsTold}
use Rattle.lp_calling.specs.Jobs.{listeners_left, telling}

-- who says something, in each state for which the live state stands
abbrev pub Speaks : ObjId → Live → Turn → ObjId → Type 0
Speaks o live turn this = (g : Setting) (budget : ℕ) (s : State) → At g live turn budget s → speaker s.world this s.player ≡ o

-- where an object lies
abbrev pub LiesIn : Option ObjId → Live → ObjId → Type 0
LiesIn place live o = (g : Setting) (turn : Turn) (budget : ℕ) (s : State) → At g live turn budget s → environment s.world.places o ≡ place

-- what lies in an object
abbrev pub Holds : Live → ObjId → List ObjId → Type 0
Holds live place os = (g : Setting) (turn : Turn) (budget : ℕ) (s : State) → At g live turn budget s → inventory s.world.places place ≡ os

-- All who lie in an object are told a text, but one.
pub record IsAudienceIn (a : Audience) (live : Live) (place : ObjId) (but : Option ObjId) (text : List ℕ) : Type 0 where
  pub same_text : a.text ≡ text
  pub same_but : a.but ≡ but
  pub listeners : Holds live place a.listeners.items
  pub none_done : a.done ≡ 0

-- An object that is next is done: telling it and those behind it is telling those, in a state for which the live state stands then.
abbrev pub IsDone : Audience → Live → Live → ObjId → Type 0
IsDone a live0 live1 o =
    (g : Setting) (turn : Turn) (budget : ℕ) (by : Asker) (s : State) (os : List ObjId) → At g live0 turn budget s → (t : State) × Settled s.world g live1 turn budget t × (telling a (o ∷ os) by s ≡ telling a os by t)

-- or it is to be asked
pub record IsToBeAsked (a : Audience) (live0 live1 : Live) (o : ObjId) : Type 0 where
  pub same : live1 ≡ live0
  pub lives : live_in live1.objects o ≡ true
  pub told : IsTold true live1 a.but o
  pub unconnected : number_of live1 o ≡ None

abbrev pub Hears : Bool → Audience → Live → Live → ObjId → Type 0
Hears true a live0 live1 o = IsDone a live0 live1 o
Hears false a live0 live1 o = IsToBeAsked a live0 live1 o

-- So many objects are done: telling those that are left is telling those behind.
abbrev pub AreDone : Audience → Live → Live → ℕ → Type 0
AreDone a live0 live1 n =
    (g : Setting) (turn : Turn) (budget : ℕ) (by : Asker) (s : State) → At g live0 turn budget s → (t : State) × Settled s.world g live1 turn budget t × (telling a (listeners_left a) by s ≡ telling a (drop n a.listeners.items) by t)

-- All are done up to one that is to be asked.
pub record IsHeard (a : Audience) (live0 live1 : Live) (n : ℕ) : Type 0 where
  pub done : AreDone a live0 live1 n
  pub more : a.done ≤ n
  pub next : n < length a.listeners.items → IsAudiencePoised (record a { done = n }) live1

-- an object with a connection is told by that
abbrev pub told_by : Live → ℕ → List ℕ → Live
told_by live number text = record live { outputs = live.outputs ++ outs.Text number text ∷ [] }

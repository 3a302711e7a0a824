-- What a served run comes to.
use Rattle.std.specs.Prelude.{◌≡◌, ℕ, ◌<◌, List, [], ◌∷◌, ◌++◌, length, Bool, true, false, Option, Some, Result, Ok, Err, ⊤, ◌≤◌, string_bytes}
use Rattle.lp_io.specs.Told.{after_adding}
use Rattle.lp_core.specs.Turning.{Turn, turns_of}
use Rattle.lp_wire.specs.Courses.{Deed, Along}
use Rattle.lp_wire.specs.Heard.{Hearing, heard, hearing_from, slow_by}
use Rattle.lp_wire.specs.Wires.{given, taken}
use Rattle.lp_wire.specs.declared.happening.Happening.{Happening}
use Rattle.lp_wire.specs.declared.happening.WireCall.{WireCall}
use Rattle.lp_wire.specs.declared.happening.WireCall.TheVariants.{Gave}
use Rattle.lp_sessions.specs.Serving.{IsFront}
use Rattle.lp_control.specs.Operator.{AreFronts}
use Rattle.lp_recording.specs.declared.recording.Keeps.{Keeps}
use Rattle.lp_serving.specs.Recorded.{deeds_written}
use Rattle.lp_serving.specs.Serves.{RanOn}
use Rattle.lp_serve.specs.declared.game.Game.{Game}
use Rattle.lp_serving.specs.declared.server.End.{End}
use Rattle.lp_serving.specs.declared.server.End.TheVariants as ends
use Rattle.lp_serve.specs.declared.run.Early.{Early}
use Rattle.lp_serve.specs.declared.run.Early.TheVariants as early
use Rattle.lp_serve.specs.declared.run.Served.{Served}
use Rattle.lp_serve.specs.declared.run.Served.TheVariants.{Done, OutputFault, FilesFault, WireFault, TurnsSpent, Stopped, NoMemory}
use Rattle.lp_serve.specs.Rounds.{IsRound, Rounds, in_the_end}
use Rattle.lp_serve.specs.Standing.{IsForeseen, StandsFor}

-- A GAME GOES A ROUND
pub record RoundsBy (g g1 : Game) (stops : Bool) (calls : List WireCall) (happening : Happening) (more : List WireCall) (deeds : List Deed) : Type 0 where
  pub none_given : given more ≡ []
  pub foresees : (final : ℕ → ℕ) → IsForeseen final g1 (calls ++ Gave happening ∷ more) → IsForeseen final g calls
  pub goes : (final : ℕ → ℕ) (at : Hearing) → IsForeseen final g1 (calls ++ Gave happening ∷ more) → StandsFor g at calls → at.stopped ≡ false
      → (after : Hearing) × IsRound (slow_by final) calls at happening more deeds after × StandsFor g1 after (calls ++ Gave happening ∷ more) × (after.stopped ≡ stops)

pub record GoesRound (ran0 ran1 : List Deed → Type 0) (g g1 : Game) (stops : Bool) (old now : Option (List WireCall)) : Type 0 where
  pub deeds : List Deed
  pub ran : RanOn ran0 ran1 deeds
  pub told : (l : List WireCall) → now ≡ Some l → (l0 : List WireCall) × (happening : Happening) × (more : List WireCall) × (old ≡ Some l0) × (l ≡ l0 ++ Gave happening ∷ more) × RoundsBy g g1 stops l0 happening more deeds

-- A GAME HAS COME from its opening by rounds, where its wire has told nothing before
pub record RunsBy (opening : ℕ) (g : Game) (stops : Bool) (calls : List WireCall) (deeds : List Deed) : Type 0 where
  pub goes : (final : ℕ → ℕ) → IsForeseen final g calls → (after : Hearing) × Rounds (slow_by final) opening calls deeds after × StandsFor g after calls × (after.stopped ≡ stops)

pub record Runs (opening polls : ℕ) (ran0 ran1 : List Deed → Type 0) (g : Game) (stops : Bool) (old now : Option (List WireCall)) : Type 0 where
  pub deeds : List Deed
  pub ran : RanOn ran0 ran1 deeds
  pub told : old ≡ Some [] → (l : List WireCall) → now ≡ Some l → (length (given l) ≡ polls) × RunsBy opening g stops l deeds

-- WHAT WAS TAKEN is a front of each connection's text
abbrev pub TakesFronts : List WireCall → Hearing → Type 0
TakesFronts calls after = (k : ℕ) → 0 < k → IsFront (taken k calls) (after.links k).text

-- what the operator was sent is, span by span, a front of the answers
abbrev pub AnswersFronts : List WireCall → Hearing → Type 0
AnswersFronts calls after = AreFronts (taken 0 calls) (after.spans ++ after.answers ∷ [])

-- WHAT A RUN HAS HEARD AND SENT, of all that its wire told
pub record HasServed (opening : ℕ) (calls : List WireCall) (deeds : List Deed) (stops : Bool) : Type 0 where
  pub after : Hearing
  -- its events and reads are those that are heard of all that was given, by what was taken in the end
  pub hears : Along (heard (slow_by (in_the_end calls)) (given calls) (hearing_from opening)) deeds after
  -- round by round, and promptly
  pub rounds : Rounds (slow_by (in_the_end calls)) opening calls deeds after
  pub fronts : TakesFronts calls after
  pub operator : AnswersFronts calls after
  pub stopped : after.stopped ≡ stops

-- A RUN AS FAR AS IT CAME, with what is written at its end and how many polls it made: the driver ran its turns, they were written, and they are what was heard.
-- What was heard is known of a wire that has told nothing before and tells all.
pub record HasRun (opening : ℕ) (ran : List Turn → Type 0) (keeps : Keeps) (before now : Option (List ℕ)) (end : List ℕ) (stops : Bool) (polls : ℕ → Type 0) (told0 told1 : Option (List WireCall)) : Type 0 where
  pub deeds : List Deed
  pub did : ran (turns_of deeds)
  pub written : now ≡ after_adding before (deeds_written keeps deeds ++ end)
  pub served : told0 ≡ Some [] → (calls : List WireCall) → told1 ≡ Some calls → polls (length (given calls)) × HasServed opening calls deeds stops

-- HOW IT ENDED: by the operator's stop, when its polls were spent, or where one failed. Of other ends it is not said here.
abbrev pub AsEnded : Served → (List ℕ → Bool → (ℕ → Type 0) → Type 0) → List ℕ → ℕ → Type 0
AsEnded Done run ending turns = run ending true (λ polls. polls ≤ turns)
AsEnded (FilesFault path) run ending turns = run ending true (λ polls. polls ≤ turns)
AsEnded TurnsSpent run ending turns = run ending false (λ polls. polls ≡ turns)
AsEnded WireFault run ending turns = run [] false (λ polls. polls < turns)
AsEnded OutputFault run ending turns = ⊤
AsEnded (Stopped why) run ending turns = ⊤
AsEnded NoMemory run ending turns = ⊤

-- the end of a run whose round was not gone to its end
abbrev pub early_served : Early → Served
early_served early.Wire = WireFault
early_served (early.At ends.Output) = OutputFault
early_served (early.At (ends.Stopped why)) = Stopped why
early_served (early.At ends.NoMemory) = NoMemory

-- what holds where a poll failed
abbrev pub IfVain : Result Bool Early → Type 0 → Type 0
IfVain (Ok stops) P = ⊤
IfVain (Err early.Wire) P = P
IfVain (Err (early.At why)) P = ⊤

abbrev pub is_vain : Result Bool Early → Bool
is_vain (Ok stops) = false
is_vain (Err early.Wire) = true
is_vain (Err (early.At why)) = false

-- what holds where a run that was stopped ended in order; it ends in no way but these
abbrev pub IfStopped : Served → Type 0 → Type 0
IfStopped Done P = P
IfStopped (FilesFault path) P = P
IfStopped OutputFault P = ⊤
IfStopped NoMemory P = ⊤
IfStopped WireFault P = ⊥
IfStopped TurnsSpent P = ⊥
IfStopped (Stopped why) P = ⊥

-- WHICH CHANGED FILES STAY UNWRITTEN where the operator has stopped the run: none, or the one that is named, and perhaps others behind it. Of other ends it is not said here.
abbrev pub LeavesUnwritten : Served → List (List ℕ) → Type 0
LeavesUnwritten Done changed = changed ≡ []
LeavesUnwritten (FilesFault path) changed = (others : List (List ℕ)) × (changed ≡ string_bytes path ∷ others)
LeavesUnwritten TurnsSpent changed = ⊤
LeavesUnwritten WireFault changed = ⊤
LeavesUnwritten OutputFault changed = ⊤
LeavesUnwritten (Stopped why) changed = ⊤
LeavesUnwritten NoMemory changed = ⊤

-- The steps of a tick, one after another.
use Rattle.std.proofs.Common.{◌++◌, ◌∷◌, [], ℕ, List, Option, sym, subst}
use Rattle.lp_swapfile.specs.Device.{Bytes}
use Rattle.lp_language.specs.Course.{AreCalled, Asks, Course, End, Entry, Fits, Gives, Over, State, and_then}
use Rattle.lp_lasting_laws.specs.Numbers.{NumbersAreEnough, calls_due}
use Rattle.lp_meaning.specs.Closing.{Ends}
use Rattle.lp_meaning.specs.FrontEnd.{FrontEnd, IsTold}
use Rattle.lp_meaning.specs.Questions.{means}
use Rattle.lp_meaning.specs.Ticks.{tick_turn}
use Rattle.lp_world.specs.declared.live.Live.{Live}
use Rattle.lp_turn.specs.Ticks.{beats_due, clean_ups_due, resets_due}
use Rattle.lp_turn.specs.TickSteps.{AreCallOutsNumbered}
use Rattle.lp_driver.specs.Turning.{TurnEnds, call_outs_due}

-- What follows a course that gives something ends as the whole does.
fits_behind : {A B : Type 0} (c : Course A) (go : A → State → Course B) (x : A) (s : State) (xs ys : List Entry) (f : End B) → Fits c xs (Gives x s) → Fits (go x s) ys f → Fits (and_then c go) (xs ++ ys) f
fits_behind (Over e) go x s [] ys f h j = subst (λ z. Fits (and_then (Over z) go) ys f) (sym h) j
fits_behind (Over e) go x s (c ∷ cs) ys f h j = absurd h
fits_behind (Asks a k) go x s [] ys f h j = absurd h
fits_behind (Asks a k) go x s (c ∷ cs) ys f h j = (h.0, h.1, fits_behind (k c.outcome) go x s cs ys f h.2 j)

both_called : (front : FrontEnd) (xs ys : List Entry) → AreCalled means (IsTold front) xs → AreCalled means (IsTold front) ys → AreCalled means (IsTold front) (xs ++ ys)
both_called front [] ys h k = k
both_called front (x ∷ xs) ys h k = (h.0, both_called front xs ys h.1 k)

ends_behind : {A B : Type 0} (front : FrontEnd) (c : Course A) (go : A → State → Course B) (x : A) (s : State) (f : End B) → Ends front c (Gives x s) → Ends front (go x s) f → Ends front (and_then c go) f
ends_behind front c go x s f h k = (h.0 ++ k.0, fits_behind c go x s h.0 k.0 f h.1 k.1, both_called front h.0 k.0 h.2 k.2)

-- one step behind another
turn_behind : (first second : State → Course (Unit {0})) (told0 told1 told2 : Option Bytes) (live0 live1 live2 : Live) → TurnEnds first told0 live0 told1 live1 → TurnEnds second told1 live1 told2 live2
    → TurnEnds (λ s. and_then (first s) (λ x t. second t)) told0 live0 told2 live2
turn_behind first second told0 told1 told2 live0 live1 live2 one two front real programs before s h =
    let a = one front real programs before s h in
    let b = two front real a.programs before a.state a.rests in
    record { programs = b.programs; state = b.state; rests = b.rests; ends = ends_behind front (first s) (λ x t. second t) tt a.state (Gives tt b.state) a.ends b.ends }

-- THE TICK, step by step
pub ticked : (t : ℕ) (told0 told1 told2 told3 told4 : Option Bytes) (live0 live1 live2 live3 live4 : Live) → TurnEnds (call_outs_due t) told0 live0 told1 live1 → TurnEnds (beats_due t) told1 live1 told2 live2 → TurnEnds (resets_due t) told2 live2 told3 live3
    → TurnEnds (clean_ups_due t) told3 live3 told4 live4 → TurnEnds (tick_turn t) told0 live0 told4 live4
ticked t told0 told1 told2 told3 told4 live0 live1 live2 live3 live4 a b c d =
    turn_behind (call_outs_due t) (λ s. and_then (beats_due t s) (λ x s. and_then (resets_due t s) (λ x s. clean_ups_due t s))) told0 told1 told4 live0 live1 live4 a
    (turn_behind (beats_due t) (λ s. and_then (resets_due t s) (λ x s. clean_ups_due t s)) told1 told2 told4 live1 live2 live4 b
    (turn_behind (resets_due t) (clean_ups_due t) told2 told3 told4 live2 live3 live4 c d))

-- The call-outs were called by their numbers.
pub called_out : (t : ℕ) (told0 told1 : Option Bytes) (live0 live1 : Live) → NumbersAreEnough → AreCallOutsNumbered live0 → TurnEnds (calls_due t) told0 live0 told1 live1 → TurnEnds (call_outs_due t) told0 live0 told1 live1
called_out t told0 told1 live0 live1 law numbered ended front real programs before s h =
    let z = ended front real programs before s h in
    record { programs = z.programs; state = z.state; rests = z.rests; ends = law front t s (Gives tt z.state) (numbered told0 programs s.world h.world.stands) z.ends }

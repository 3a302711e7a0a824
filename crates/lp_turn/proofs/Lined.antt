-- Lines of connections.
use Rattle.std.proofs.Common.{◌≡◌, ◌∙◌, ◌++◌, ◌∷◌, [], ℕ, Bool, true, false, List, Option, Some, None, All, ap, refl, sym, subst, find, nat_eq, option_map, if◌then◌else◌}
use Rattle.std.proofs.lemmas.List.Elements.{All-head, All-tail}
use Rattle.lp_values.specs.declared.id.ObjId.{ObjId}
use Rattle.lp_values.specs.declared.value.Value.TheVariants as values
use Rattle.lp_cells.specs.Cells.{IsThere, Store}
use Rattle.lp_code.specs.declared.program.RawProgram.{RawProgram}
use Rattle.lp_events.specs.declared.out.Out.{Out}
use Rattle.lp_events.specs.declared.out.Out.TheVariants as outs
use Rattle.lp_swapfile.specs.Device.{Bytes}
use Rattle.lp_language.specs.World as world
use Rattle.lp_language.specs.Course.{Course, State, and_then}
use Rattle.lp_meaning.specs.Askers.{told}
use Rattle.lp_meaning.specs.EventTurns.{done, driver_apply, line_of, line_taken, line_text, line_turn, shown, waiting_for, without_waiting}
use Rattle.lp_meaning.specs.WorldSteps.{holder_of}
use Rattle.lp_world.specs.Closed.{IsClosed}
use Rattle.lp_world.specs.Rows.{live_in}
use Rattle.lp_world.specs.Stands.{Stands, waiting_of}
use Rattle.lp_world.specs.declared.connections.Waiting.{Waiting as Taker}
use Rattle.lp_world.specs.declared.live.Live.{Live}
use Rattle.lp_turn.specs.Calls.{IsAskedThere}
use Rattle.lp_turn.specs.Connections as changes
use Rattle.lp_turn.specs.Connections.{HasTakenLine}
use Rattle.lp_turn.specs.Going.{BeginsWith}
use Rattle.lp_turn.specs.Lines.{IsShown, commanding}
use Rattle.lp_turn.specs.Resting.{Rests}
use Rattle.lp_turn.specs.declared.job.Asked.TheVariants as asks
use Rattle.lp_turn.specs.declared.job.Call.{Call}
use Rattle.lp_turn.specs.declared.job.Step.{Step}
use Rattle.lp_turn.specs.declared.job.Step.TheVariants as steps
use Rattle.lp_turn.specs.declared.job.Waiting.TheVariants as waitings
use Rattle.lp_turn.proofs.Connected.{asks_as}
use Rattle.lp_turn.proofs.Kept.{begins_as, holder_in, live_row, lives_in, rests_changed, waiting_in, waiting_without}

-- the state and the live state once the line was taken
abbrev pub after_line : ℕ → Taker → State → State
after_line k x s = told (shown k (waiting_of x)) (record s { world = without_waiting s.world k })

abbrev pub live_after : ℕ → Taker → Live → Live
live_after k x l = record l { connections = changes.without_waiting k l.connections; outputs = l.outputs ++ (if x.hides then outs.Show k ∷ [] else []) }

rests_after : (g : Option Bytes) (programs : List RawProgram) (before : List Out) (live : Live) (s : State) (k : ℕ) (x : Taker) → Rests g programs before live s → Rests g programs before (live_after k x live) (after_line k x s)
rests_after g programs before live s k x h =
    let r = h.world.stands.rest in
    rests_changed g programs before live s (changes.without_waiting k live.connections) (if x.hides then outs.Show k ∷ [] else []) s.world.connections s.world.highest s.world.present (without_waiting s.world k).waiting h
    r.connections r.highest r.present (waiting_without g programs live s.world k h.world.stands)

live_is : (live0 live1 live2 : Live) (k : ℕ) (x : Taker) → IsShown k x.hides live0 live1 → HasTakenLine k live1 live2 → live2 ≡ live_after k x live0
live_is live0 live1 live2 k x a b = b ∙ ap (λ (l : Live). record l { connections = changes.without_waiting k l.connections }) a

-- what follows, by whether the object lives
taking : ℕ → ObjId → Taker → List ℕ → State → Bool → Course (Unit {0})
taking k o x text s b =
    if b then and_then (driver_apply (Some o) (Some o) x.object x.function (values.Str text ∷ x.arguments) (after_line k x s)) (λ d s. done s) else done (after_line k x s)

taking_is : (g : Option Bytes) (programs : List RawProgram) (live : Live) (s : State) (k : ℕ) (o : ObjId) (x : Taker) (text : List ℕ) (b : Bool) → Stands g programs live s.world → live_in live.objects x.object ≡ b
    → line_taken k o (waiting_of x) text s ≡ taking k o x text s b
unfolding taking
taking_is g programs live s k o x text b h e = ap (taking k o x text s) (lives_in g programs live s.world x.object h ∙ e)

pub not_taken : (live0 live1 live2 : Live) (k : ℕ) (o : ObjId) (x : Taker) (text : List ℕ) → IsShown k x.hides live0 live1 → HasTakenLine k live1 live2 → live_in live2.objects x.object ≡ false
    → BeginsWith (line_taken k o (waiting_of x) text) live0 live2 steps.Ends
unfolding taking
not_taken live0 live1 live2 k o x text a b e =
    let q = live_is live0 live1 live2 k x a b in
    subst (λ l. BeginsWith (line_taken k o (waiting_of x) text) live0 l steps.Ends) (sym q) (λ g programs before s h. record {
      state = after_line k x s;
      rests = rests_after g programs before live0 s k x h;
      course = taking_is g programs live0 s k o x text false h.world.stands (ap (λ (l : Live). live_in l.objects x.object) (sym q) ∙ e);
    })

pub taken : (live0 live1 live2 : Live) (k : ℕ) (o : ObjId) (x : Taker) (text : List ℕ) (call : Call) → IsShown k x.hides live0 live1 → HasTakenLine k live1 live2 → live_in live2.objects x.object ≡ true
    → call.asked ≡ asks.Apply x.object x.function → call.player ≡ Some o → call.interactive ≡ Some o → call.arguments.items ≡ values.Str text ∷ x.arguments → BeginsWith (line_taken k o (waiting_of x) text) live0 live2 (steps.Asks call (waitings.Line o))
unfolding taking
taken live0 live1 live2 k o x text call a b e c d i f =
    let q = live_is live0 live1 live2 k x a b in
    let lives : live_in live0.objects x.object ≡ true = ap (λ (l : Live). live_in l.objects x.object) (sym q) ∙ e in
    subst (λ l. BeginsWith (line_taken k o (waiting_of x) text) live0 l (steps.Asks call (waitings.Line o))) (sym q) (λ g programs before s h. record {
      state = after_line k x s;
      rests = rests_after g programs before live0 s k x h;
      there = subst (λ y. IsAskedThere live0.objects y) (sym c) (live_row live0 x.object lives);
      course = taking_is g programs live0 s k o x text true h.world.stands lives ∙ asks_as (asks.Apply x.object x.function) (Some o) (Some o) (values.Str text ∷ x.arguments) (after_line k x s) (waitings.Line o) call c d i f;
    })

-- What takes a line, or a command.
lining : ℕ → ObjId → List ℕ → State → Option world.Waiting → Course (Unit {0})
lining k o text s None = commanding o text s
lining k o text s (Some x) = line_taken k o x text s

lining_is : (k : ℕ) (o : ObjId) (text : List ℕ) (s : State) (q : Option world.Waiting) → (elim q [ Some x ↦ line_taken k o x text s | None ↦ commanding o text s ]) ≡ lining k o text s q
unfolding lining
lining_is k o text s None = refl
lining_is k o text s (Some x) = refl

lining_in : (g : Option Bytes) (programs : List RawProgram) (live : Live) (s : State) (k : ℕ) (o : ObjId) (text : List ℕ) (x : Option Taker) → Stands g programs live s.world → x ≡ find (λ y. nat_eq y.connection k) live.connections.waiting
    → line_of k o text s ≡ lining k o text s (option_map waiting_of x)
lining_in g programs live s k o text x h e = lining_is k o text s (waiting_for s.world k) ∙ ap (lining k o text s) (waiting_in g programs live s.world k h ∙ ap (option_map waiting_of) (sym e))

pub line_waits : (live0 live1 : Live) (k : ℕ) (o : ObjId) (text : List ℕ) (x : Taker) (r : Step) → Some x ≡ find (λ y. nat_eq y.connection k) live0.connections.waiting → BeginsWith (line_taken k o (waiting_of x) text) live0 live1 r
    → BeginsWith (line_of k o text) live0 live1 r
unfolding lining
line_waits live0 live1 k o text x r e b = begins_as (line_taken k o (waiting_of x) text) (line_of k o text) live0 live1 r (λ g programs s h. lining_in g programs live0 s k o text (Some x) h e) b

pub line_commands : (live0 live1 : Live) (k : ℕ) (o : ObjId) (text : List ℕ) (r : Step) → None ≡ find (λ y. nat_eq y.connection k) live0.connections.waiting → BeginsWith (commanding o text) live0 live1 r → BeginsWith (line_of k o text) live0 live1 r
unfolding lining
line_commands live0 live1 k o text r e b = begins_as (commanding o text) (line_of k o text) live0 live1 r (λ g programs s h. lining_in g programs live0 s k o text None h e) b

-- The connection of a line.
turning : ℕ → List ℕ → State → Option ObjId → Course (Unit {0})
turning k bytes s None = done s
turning k bytes s (Some o) = line_of k o (line_text bytes) s

turning_is : (k : ℕ) (bytes : List ℕ) (s : State) (q : Option ObjId) → (elim q [ Some o ↦ line_of k o (line_text bytes) s | None ↦ done s ]) ≡ turning k bytes s q
unfolding turning
turning_is k bytes s None = refl
turning_is k bytes s (Some o) = refl

turning_in : (g : Option Bytes) (programs : List RawProgram) (live : Live) (s : State) (k : ℕ) (bytes : List ℕ) (o : Option ObjId) → Stands g programs live s.world
    → option_map (λ c. c.object) (find (λ c. nat_eq c.number k) live.connections.opened) ≡ o → line_turn k bytes s ≡ turning k bytes s o
turning_in g programs live s k bytes o h e = turning_is k bytes s (holder_of s.world k) ∙ ap (turning k bytes s) (holder_in g programs live s.world k h ∙ e)

pub line_held : (live0 live1 : Live) (k : ℕ) (bytes : List ℕ) (o : ObjId) (r : Step) → option_map (λ c. c.object) (find (λ c. nat_eq c.number k) live0.connections.opened) ≡ Some o → BeginsWith (line_of k o (line_text bytes)) live0 live1 r
    → BeginsWith (line_turn k bytes) live0 live1 r
unfolding turning
line_held live0 live1 k bytes o r e b = begins_as (line_of k o (line_text bytes)) (line_turn k bytes) live0 live1 r (λ g programs s h. turning_in g programs live0 s k bytes (Some o) h e) b

pub line_free : (live : Live) (k : ℕ) (bytes : List ℕ) → option_map (λ c. c.object) (find (λ c. nat_eq c.number k) live.connections.opened) ≡ None → BeginsWith (line_turn k bytes) live live steps.Ends
unfolding turning
line_free live k bytes e g programs before s h = record { state = s; rests = h; course = turning_in g programs live s k bytes None h.world.stands e }

-- What was kept for a line is there.
IsTakerThere : Store → Option Taker → Type 0
IsTakerThere cells None = Unit {0}
IsTakerThere cells (Some x) = All (IsThere cells) x.arguments

found_there : (cells : Store) (k : ℕ) (xs : List Taker) → All (λ (x : Taker). All (IsThere cells) x.arguments) xs → IsTakerThere cells (find (λ y. nat_eq y.connection k) xs)
unfolding IsTakerThere
found_there cells k [] a = tt
found_there cells k (x ∷ xs) a = by (nat_eq x.connection k) (found_there cells k xs (All-tail (λ (x : Taker). All (IsThere cells) x.arguments) x xs a))
  where
    by : (b : Bool) → IsTakerThere cells (find (λ y. nat_eq y.connection k) xs) → IsTakerThere cells (if b then Some x else find (λ y. nat_eq y.connection k) xs)
    by true i = All-head (λ (x : Taker). All (IsThere cells) x.arguments) x xs a
    by false i = i

pub taker_there : (live : Live) (k : ℕ) (x : Taker) → IsClosed live → Some x ≡ find (λ y. nat_eq y.connection k) live.connections.waiting → All (IsThere live.cells) x.arguments
unfolding IsTakerThere
taker_there live k x h e = subst (λ o. IsTakerThere live.cells o) (sym e) (found_there live.cells k live.connections.waiting h.waiting)

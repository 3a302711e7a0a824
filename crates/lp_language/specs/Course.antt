-- What a piece of a program does: it asks calls, goes on with their outcomes, and ends.
use Rattle.std.specs.Prelude.{◌≡◌, ◌≤◌, ◌-◌, ◌++◌, ℕ, List, [], ◌∷◌, ⊤, Option, Some, None, nat_lt, if◌then◌else◌, pos}
use Rattle.lp_tree.specs.declared.pragma.Pragmas.{Pragmas}
use Rattle.lp_tree.specs.declared.fault.Fault.{Fault}
use Rattle.lp_tree.specs.Units.{ItemTree}
use Rattle.lp_values.specs.declared.id.ObjId.{ObjId}
use Rattle.lp_values.specs.declared.id.ProgId.{ProgId}
use Rattle.lp_values.specs.declared.value.Value.{Value}
use Rattle.lp_values.specs.declared.value.Value.TheVariants.{Int, Str}
use Rattle.lp_values.specs.declared.error.RunError.{RunError}
use Rattle.lp_events.specs.declared.out.Out.{Out}
use Rattle.lp_instr.specs.declared.efun.Efun.{Efun}
use Rattle.lp_language.specs.World.{World, Keeps}

-- the integer 0: what was never assigned, and what is false
abbrev pub zero_value : Value
zero_value = Int (pos 0)

-- a running command: its verb, and the text that it shows where no action did it
pub record Typed : Type 0 where
  pub verb : List ℕ
  pub fail : Option (List ℕ)

-- a load under way: the name that is loaded, and how many loads for an `inherit` led to it, one after another
pub record Loading : Type 0 where
  pub name : List ℕ
  pub nested : ℕ

-- Where a function runs, which stays the same while it runs: its object; the part of the object's program in whose
-- text it stands, which is a place in the inheritance tree; the version there, and the place of that version's first
-- variable among the object's; the function's name; `this_interactive()`; the loads under way, the innermost first;
-- the callers, the latest first; and how deep calls are nested, 1 for the outermost.
pub record Scene : Type 0 where
  pub this : ObjId
  pub part : ℕ
  pub version : ProgId
  pub base : ℕ
  pub function : List ℕ
  pub interactive : Option ObjId
  pub loads : List Loading
  pub callers : List ObjId
  pub depth : ℕ

-- What changes while a function runs: its locals; `this_player()`; the running commands, the innermost first; the
-- world; the budget that is left; and the outputs since the function began.
pub record State : Type 0 where
  pub locals : List Value
  pub player : Option ObjId
  pub commands : List Typed
  pub world : World
  pub budget : ℕ
  pub outputs : List Out

-- the innermost function that was running: its name, its program's path without `.c`, and its object's name
pub record Place : Type 0 where
  pub function : List ℕ
  pub program : List ℕ
  pub object : List ℕ

-- why something stops early: a thrown value, an error, or a spent budget
pub data Cause : Type 0 where
  Thrown : Value → Cause
  Failed : RunError → Cause
  Spent : Cause

-- A stop: why, and in which function. Where no place is given it is the function that runs, if one does.
pub record Stop : Type 0 where
  pub cause : Cause
  pub place : Option Place

-- a stop in the function that runs
abbrev pub here : Cause → Stop
here c = record { cause = c; place = None }

-- something ends with a value of A, or stops
pub data End (A : Type 0) : Type 0 where
  Gives : A → State → End A
  Stops : Stop → State → End A

-- for what an object is loaded: by LPC or the driver, or for an `inherit` of a load
pub data LoadKind : Type 0 where
  Wanted : LoadKind
  Inherited : LoadKind

-- What is asked.
pub data Asked : Type 0 where
  -- a function of this object, by its name, from the calling part
  Internal : (name : List ℕ) → Asked
  -- a function of a parent of the calling part, which is the one with this place among its inherits
  Parent : (inherit : ℕ) (name : List ℕ) → Asked
  -- an efun
  OfEfun : (efun : Efun) → Asked
  -- the driver or an efun applies a function of an object, by its name
  Apply : (target : ObjId) (name : List ℕ) → Asked
  -- a function of an object, by its name, as another object calls it
  Other : (target : ObjId) (name : List ℕ) → Asked
  -- the initialisers of one part of the program of an object
  Initialise : (target : ObjId) (part : ℕ) → Asked
  -- a living object carries out a line
  Command : (living : ObjId) (line : List ℕ) → Asked
  -- an object is loaded
  Load : (name : List ℕ) (kind : LoadKind) → Asked
  -- a file is expanded and parsed as it stands
  Read : (path : List ℕ) → Asked
  -- what was read is typed and laid out, with these versions of its parents and these simul efuns
  Check : (path : List ℕ) (items : List ItemTree) (pragmas : Pragmas) (parents : List ProgId) (simuls : List (List ℕ)) → Asked

-- A question: what is asked, with which arguments, by whom (none where the driver asks), and all that the answer may
-- depend on.
pub record Ask : Type 0 where
  pub what : Asked
  pub arguments : List Value
  pub scene : Option Scene
  pub interactive : Option ObjId
  pub loads : List Loading
  pub player : Option ObjId
  pub commands : List Typed
  pub world : World
  pub budget : ℕ

-- what comes back where nothing stops: a value; what a file declares; that it is well-typed; or its faults
pub data Reply : Type 0 where
  Plain : Value → Reply
  WasRead : (items : List ItemTree) (pragmas : Pragmas) → Reply
  IsSound : Reply
  IsFaulty : List Fault → Reply

pub data Answer : Type 0 where
  Returned : Reply → Answer
  Stopped : Stop → Answer

-- what a question gives back: the answer, and all that it may have changed
pub record Outcome : Type 0 where
  pub answer : Answer
  pub player : Option ObjId
  pub commands : List Typed
  pub world : World
  pub budget : ℕ
  pub outputs : List Out

-- the same commands, but that the innermost may show another text
abbrev pub AreSameCommands : List Typed → List Typed → Type 0
AreSameCommands [] [] = ⊤
AreSameCommands [] (d ∷ ds) = ⊥
AreSameCommands (c ∷ cs) [] = ⊥
AreSameCommands (c ∷ cs) (d ∷ ds) = (c.verb ≡ d.verb) × (cs ≡ ds)

-- an outcome that a question can have: it leaves at most the budget that was asked with, and removes nothing
pub record CanAnswer (a : Ask) (o : Outcome) : Type 0 where
  pub no_more : o.budget ≤ a.budget
  pub keeps : Keeps a.world o.world
  pub commands : AreSameCommands a.commands o.commands

-- the state after an outcome: the locals stay
abbrev pub after : State → Outcome → State
after s o = record { locals = s.locals; player = o.player; commands = o.commands; world = o.world; budget = o.budget; outputs = s.outputs ++ o.outputs }

-- the value of a reply
abbrev pub value_in : Reply → Value
value_in (Plain v) = v
value_in (WasRead items pragmas) = zero_value
value_in IsSound = zero_value
value_in (IsFaulty faults) = zero_value

-- an outcome as an end of what asked
abbrev pub end_of_reply : Answer → State → End Reply
end_of_reply (Returned r) s = Gives r s
end_of_reply (Stopped x) s = Stops x s

abbrev pub end_of_answer : Answer → State → End Value
end_of_answer (Returned r) s = Gives (value_in r) s
end_of_answer (Stopped x) s = Stops x s

abbrev pub end_of_outcome : State → Outcome → End Value
end_of_outcome s o = end_of_answer o.answer (after s o)

-- the course of a piece of a program: it is over, or it asks and goes on with the outcome, whatever that is
pub data Course (A : Type 0) : Type 0 where
  Over : End A → Course A
  Asks : Ask → (Outcome → Course A) → Course A

-- first this, and from its value that
abbrev pub and_then : {A B : Type 0} → Course A → (A → State → Course B) → Course B
and_then (Over (Gives x s)) go = go x s
and_then (Over (Stops x s)) go = Over (Stops x s)
and_then (Asks a k) go = Asks a (λ o. and_then (k o) go)

-- whatever its end, go on from that
abbrev pub in_any_case : {A B : Type 0} → Course A → (End A → Course B) → Course B
in_any_case (Over e) go = go e
in_any_case (Asks a k) go = Asks a (λ o. in_any_case (k o) go)

abbrev pub gives : {A : Type 0} → A → State → Course A
gives x s = Over (Gives x s)

abbrev pub stops : {A : Type 0} → Cause → State → Course A
stops c s = Over (Stops (here c) s)

-- A cost is paid, or the budget is spent: that is so exactly where less is left than the cost, and then nothing is left.
abbrev pub pay : {A : Type 0} → ℕ → State → (State → End A) → End A
pay n s go = if nat_lt s.budget n then Stops (here Spent) (record s { budget = 0 }) else go (record s { budget = s.budget - n })

abbrev pub paying : {A : Type 0} → ℕ → State → (State → Course A) → Course A
paying n s go = if nat_lt s.budget n then Over (Stops (here Spent) (record s { budget = 0 })) else go (record s { budget = s.budget - n })

-- a question of a running function
abbrev pub asking : Asked → List Value → Scene → State → Ask
asking what xs c s = record {
  what = what;
  arguments = xs;
  scene = Some c;
  interactive = c.interactive;
  loads = c.loads;
  player = s.player;
  commands = s.commands;
  world = s.world;
  budget = s.budget;
}

-- a running function asks, and its value is what comes back
abbrev pub asks : Asked → List Value → Scene → State → Course Value
asks what xs c s = Asks (asking what xs c s) (λ o. Over (end_of_outcome s o))

-- What a catch makes of a stop: the value that it gives, or nothing where the budget is spent.
abbrev pub caught : Cause → Option Value
caught (Thrown v) = Some v
caught (Failed e) = Some (Str (42 ∷ e.text))
caught Spent = None

abbrev pub caught_end : Option Value → Stop → State → End Value
caught_end (Some v) x s = Gives v s
caught_end None x s = Stops x s

-- `catch`: 0 for what ran through, and else what is caught
abbrev pub catching : Course Value → Course Value
catching (Over (Gives v s)) = Over (Gives zero_value s)
catching (Over (Stops x s)) = Over (caught_end (caught x.cause) x s)
catching (Asks a k) = Asks a (λ o. catching (k o))

-- One call of a list: what was asked, and the outcome.
pub record Entry : Type 0 where
  pub ask : Ask
  pub outcome : Outcome

-- A list of calls fits: its entries are, in order, what the course asks, each with an outcome that it can have, and
-- then the course ends so.
abbrev pub Fits : {A : Type 0} → Course A → List Entry → End A → Type 0
Fits (Over e) [] end = e ≡ end
Fits (Over e) (c ∷ calls) end = ⊥
Fits (Asks a k) [] end = ⊥
Fits (Asks a k) (c ∷ calls) end = (a ≡ c.ask) × CanAnswer a c.outcome × Fits (k c.outcome) calls end

-- an end of a question's meaning as its outcome
abbrev pub outcome_of : End Reply → Outcome
outcome_of (Gives r s) = record { answer = Returned r; player = s.player; commands = s.commands; world = s.world; budget = s.budget; outputs = s.outputs }
outcome_of (Stops x s) = record { answer = Stopped x; player = s.player; commands = s.commands; world = s.world; budget = s.budget; outputs = s.outputs }

-- A question means a course, or it is stated which outcomes it has. A course, in which each question has an outcome of
-- its own meaning, ends so.
pub data Answers (meaning : Ask → Option (Course Reply)) (Stated : Ask → Outcome → Type 0) : Course Reply → End Reply → Type 0 where
  ends : {e : End Reply} → Answers meaning Stated (Over e) e
  asks_one : {a : Ask} {c : Course Reply} {k : Outcome → Course Reply} {r e : End Reply}
      → meaning a ≡ Some c → Answers meaning Stated c r → CanAnswer a (outcome_of r) → Answers meaning Stated (k (outcome_of r)) e
      → Answers meaning Stated (Asks a k) e
  stated : {a : Ask} {k : Outcome → Course Reply} {o : Outcome} {e : End Reply}
      → meaning a ≡ None → Stated a o → CanAnswer a o → Answers meaning Stated (k o) e → Answers meaning Stated (Asks a k) e

-- an outcome that a question has: that of its own meaning, or one that is stated of it
pub data Called (meaning : Ask → Option (Course Reply)) (Stated : Ask → Outcome → Type 0) (a : Ask) (o : Outcome) : Type 0 where
  meant : {c : Course Reply} {r : End Reply} → meaning a ≡ Some c → Answers meaning Stated c r → o ≡ outcome_of r → Called meaning Stated a o
  told : meaning a ≡ None → Stated a o → Called meaning Stated a o

-- and each entry of a list has such a one
abbrev pub AreCalled : (Ask → Option (Course Reply)) → (Ask → Outcome → Type 0) → List Entry → Type 0
AreCalled meaning Stated [] = ⊤
AreCalled meaning Stated (e ∷ es) = Called meaning Stated e.ask e.outcome × AreCalled meaning Stated es

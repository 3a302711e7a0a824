-- What it says that a run of the code follows the course of a tree.
use Rattle.std.specs.Prelude.{ℕ, List, [], ◌∷◌}
use Rattle.lp_values.specs.declared.value.Value.{Value}
use Rattle.lp_language.specs.Course.{Scene, State, End, Ask, Outcome, CanAnswer, Course, Over, Asks, Entry, Fits}
use Rattle.lp_language.specs.Resolve.{Function}
use Rattle.lp_language.specs.Eval.{Site}
use Rattle.lp_language.specs.Exec.{body_of, initialisers_of}
use Rattle.lp_instr.specs.Code.{Code}
use Rattle.lp_isa.specs.Machine.{Moment, Next, Goes, Ended, Awaits, goes, step}
use Rattle.lp_isa.specs.Translates.{MakesFun, MakesInitOf}

-- the code comes from one point to another, by some instructions and no question
pub data Comes (code : Code) (c : Scene) : Next → Next → Type 0 where
  there : {x : Next} → Comes code c x x
  later : {m : Moment} {y : Next} → Comes code c (step code c m) y → Comes code c (Goes m) y

-- the code asks what the course asks, and whatever the outcomes, it comes to a point that fits the course's end
abbrev pub Follows : {A : Type 0} → Code → Scene → Next → Course A → (End A → Next → Type 0) → Type 0
Follows code c x (Over e) Q = (y : Next) × Comes code c x y × Q e y
Follows code c x (Asks a k) Q =
    (resume : Outcome → Next) × Comes code c x (Awaits a resume) × ((o : Outcome) → CanAnswer a o → Follows code c (resume o) (k o) Q)

-- a run of the code asks just these calls, takes their outcomes, and then ends so
abbrev pub Runs : Code → Scene → Next → List Entry → End Value → Type 0
Runs code c x [] end = Comes code c x (Ended end)
Runs code c x (e ∷ calls) end =
    (resume : Outcome → Next) × Comes code c x (Awaits e.ask resume) × Runs code c (resume e.outcome) calls end

-- The machine does what a course does: whatever the outcomes that can be, it asks the same questions in the same order,
-- and ends the same.
pub data Does (code : Code) (c : Scene) : Next → Course Value → Type 0 where
  ends : {e : End Value} → Does code c (Ended e) (Over e)
  goes_on : {m : Moment} {t : Course Value} → Does code c (step code c m) t → Does code c (Goes m) t
  waits : {a : Ask} {resume : Outcome → Next} {k : Outcome → Course Value}
      → ((o : Outcome) → CanAnswer a o → Does code c (resume o) (k o)) → Does code c (Awaits a resume) (Asks a k)

-- Code keeps the meaning: wherever it stands for a function's body, it makes the calls of every list that fits the
-- body, in the same order, and ends with the same value or stop, outputs, budget and world.
abbrev pub KeepsTheMeaning : Type 0
KeepsTheMeaning = (k : Site) (f : Function) (code : Code) (from : ℕ) (s : State) (calls : List Entry) (end : End Value)
    → MakesFun k.tree f code from → Fits (body_of k f s) calls end → Runs code k.scene (goes from [] [] s) calls end

-- and so it does for initialisers
abbrev pub KeepsTheInitialisers : Type 0
KeepsTheInitialisers = (k : Site) (code : Code) (from : ℕ) (s : State) (calls : List Entry) (end : End Value)
    → MakesInitOf k.tree code from → Fits (initialisers_of k s) calls end → Runs code k.scene (goes from [] [] s) calls end

-- and in the words of the machine alone
abbrev pub DoesTheMeaning : Type 0
DoesTheMeaning = (k : Site) (f : Function) (code : Code) (from : ℕ) (s : State) → MakesFun k.tree f code from → Does code k.scene (goes from [] [] s) (body_of k f s)

-- What is known of each place while paths are walked.
use Rattle.std.specs.Prelude.{◌≡◌, ◌<◌, ℕ, true, ⊤, List, [], All, length, map, replicate}
use Rattle.lp_instr.specs.Code.{Catching}
use Rattle.lp_instr.specs.Sound.{Shape, shape}
use Rattle.lp_verify.specs.declared.seen.Form.{Form}
use Rattle.lp_verify.specs.declared.seen.Seen.{Seen}
use Rattle.lp_verify.specs.declared.seen.Seen.TheVariants as seen
use Rattle.lp_verify.specs.declared.walk.Walk.{Walk}
use Rattle.lp_code.specs.declared.program.RawProgram.{RawProgram}
use Rattle.lp_verify.specs.declared.effect.Effect.{Effect}
use Rattle.lp_verify.specs.declared.effect.Exit.{Exit}
use Rattle.lp_verify.specs.Flow.{exits_hold}
use Rattle.lp_verify.specs.Openings.{list_at, GoesOn}
use Rattle.lp_verify.specs.Paths.{Known, Never, Once, Mixed, Way}
use Rattle.lp_verify.specs.Work.{Grows}

abbrev pub shape_of : List (List Catching) → Form → Shape
shape_of lists f = shape f.height (list_at lists f.open)

abbrev pub known_of : List (List Catching) → Seen → Known
known_of lists seen.Never = Never
known_of lists (seen.Once f) = Once (shape_of lists f)
known_of lists seen.Mixed = Mixed

-- the number of the list of open catches is one that there is
abbrev pub IsIn : List (List Catching) → Seen → Type 0
IsIn lists seen.Never = ⊤
IsIn lists (seen.Once f) = f.open < length lists
IsIn lists seen.Mixed = ⊤

-- what is known of each place
abbrev pub facts : Walk → List Known
facts w = map (known_of w.openings) w.seen.items

abbrev pub IsWalk : Walk → Type 0
IsWalk w = All (IsIn w.openings) w.seen.items

-- some ways are learned
pub record Moves (ws : List Way) (old new : Walk) : Type 0 where
  pub goes_on : GoesOn old.openings new.openings
  pub walk : IsWalk new
  pub grows : Grows ws (facts old) old.todo.items (facts new) new.todo.items

-- what is known of a place, each of its exits being such that it may be taken
abbrev pub MayLead : RawProgram → ℕ → Known → Effect → List Exit → Type 0
MayLead p at Never e xs = ⊤
MayLead p at (Once f) e xs = exits_hold p at f e xs ≡ true
MayLead p at Mixed e xs = ⊤

-- a walk through a program, and something that is known in it
pub record IsReady (p : RawProgram) (w : Walk) (v : Seen) : Type 0 where
  pub walk : IsWalk w
  pub inside : IsIn w.openings v
  pub size : length w.seen.items ≡ length p.instrs

-- a walk in which no catch is open at number 0
pub record IsStarted (w : Walk) : Type 0 where
  pub walk : IsWalk w
  pub first : list_at w.openings 0 ≡ []
  pub some : 0 < length w.openings

-- nothing is known yet, and nothing is to be looked at
pub record IsNew (n : ℕ) (w : Walk) : Type 0 where
  pub started : IsStarted w
  pub facts_are : facts w ≡ replicate n Never
  pub todo_is : w.todo.items ≡ []

-- How much is left to do before the budget has to fall. It ends each run between two questions.
use Rattle.std.specs.Prelude.{◌<◌, ℕ, zero, suc, ◌+◌, ◌-◌, ◌*◌, ⊤, List, [], ◌∷◌, Option, Some, slice_get, length}
use Rattle.lp_instr.specs.declared.instr.Instr.{Instr}
use Rattle.lp_instr.specs.declared.instr.Instr.TheVariants.{LoopTurn}
use Rattle.lp_language.specs.Course.{Scene, Outcome, CanAnswer}
use Rattle.lp_instr.specs.Code.{Code, Catching}
use Rattle.lp_isa.specs.Machine.{Moment, Next, Goes, Ended, Awaits, Wrong, step}
use Rattle.lp_instr.specs.Sound.{Bounds, Shapes, IsSound}
use Rattle.lp_isa.specs.SoundCode.{Matches}

abbrev pub is_turn : Option Instr → ℕ
is_turn (Some LoopTurn) = 0
is_turn i = 1

-- at a place: twice the budget, one more where it is no turn of a loop, and the instructions behind it
unfoldable pub ahead : List Instr → ℕ → ℕ → ℕ
ahead code left at = (2 * left + is_turn (slice_get code at)) * (length code + 1) + (length code - at)

abbrev pub three_to : ℕ → ℕ
three_to zero = 1
three_to (suc n) = three_to n + three_to n + three_to n

abbrev pub catches_work : List Instr → ℕ → List Catching → ℕ
catches_work code left [] = 0
catches_work code left (c ∷ cs) = three_to (ahead code left c.place) + catches_work code left cs

-- at the place, and at those where the open catches lead
unfoldable pub work : List Instr → ℕ → ℕ → List Catching → ℕ
work code left at catches = three_to (ahead code left at) + catches_work code left catches

abbrev pub work_of : Code → Moment → ℕ
work_of code m = work code.instrs m.state.budget m.place m.catches

-- what comes next has less to do, whatever an outcome is that can be
abbrev pub NextLess : Code → ℕ → Next → Type 0
NextLess code n (Goes m) = work_of code m < n
NextLess code n (Ended e) = ⊤
NextLess code n (Awaits a k) = (o : Outcome) → CanAnswer a o → NextLess code n (k o)
NextLess code n Wrong = ⊤

-- Each instruction of sound code leaves less to do.
abbrev pub SoundCodeEnds : Type 0
SoundCodeEnds = (code : Code) (b : Bounds) (from to : ℕ) (shapes : Shapes) (c : Scene) (m : Moment)
    → IsSound code b from to shapes → Matches shapes m → NextLess code (work_of code m) (step code c m)

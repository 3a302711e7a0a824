-- That sound code never fails, and that translated code is sound.
use Rattle.std.specs.Prelude.{◌≡◌, ℕ, ⊤, Some, length, slice_get}
use Rattle.lp_instr.specs.declared.instr.Instr.{Instr}
use Rattle.lp_instr.specs.Code.{Code}
use Rattle.lp_instr.specs.Sound.{Shape, Shapes, Bounds, IsNamed, IsSound}
use Rattle.lp_language.specs.Resolve.{Function, Heritage}
use Rattle.lp_language.specs.Course.{Scene, Outcome}
use Rattle.lp_isa.specs.Translates.{MakesFun, MakesInitOf}
use Rattle.lp_isa.specs.Machine.{Moment, Next, Goes, Ended, Awaits, Wrong, step}

-- a moment of a run is as the shapes say
pub record Matches (shapes : Shapes) (m : Moment) : Type 0 where
  pub shape : Shape
  pub reached : shapes m.place ≡ Some shape
  pub height : length m.stack ≡ shape.height
  pub catches : m.catches ≡ shape.catches

-- what comes next is so too, whatever an outcome is
abbrev pub NextMatches : Shapes → Next → Type 0
NextMatches shapes (Goes m) = Matches shapes m
NextMatches shapes (Ended e) = ⊤
NextMatches shapes (Awaits a k) = (o : Outcome) → NextMatches shapes (k o)
NextMatches shapes Wrong = ⊥

-- Sound code never comes to an instruction that finds too little, or to a place outside: from a moment that is as the
-- shapes say, each instruction leads to such a moment, to the function's end, or to a question.
abbrev pub SoundCodeNeverFails : Type 0
SoundCodeNeverFails = (code : Code) (b : Bounds) (from to : ℕ) (shapes : Shapes) (c : Scene) (m : Moment)
    → IsSound code b from to shapes → Matches shapes m → NextMatches shapes (step code c m)

-- Translated code is sound: wherever code stands for a function's body, and each instruction names what is there, the
-- code is sound, with some greatest height.
abbrev pub TranslatedCodeIsSound : Type 0
TranslatedCodeIsSound = (h : Heritage) (f : Function) (code : Code) (b : Bounds) (from : ℕ) (makes : MakesFun h f code from)
    → ((p : ℕ) (i : Instr) → slice_get code.instrs p ≡ Some i → IsNamed code b i)
    → (top : ℕ) × (shapes : Shapes) × IsSound code (record b { max_height = top }) from makes.0 shapes

-- and so is the code of initialisers
abbrev pub TranslatedInitialisersAreSound : Type 0
TranslatedInitialisersAreSound = (h : Heritage) (code : Code) (b : Bounds) (from : ℕ) (makes : MakesInitOf h code from)
    → ((p : ℕ) (i : Instr) → slice_get code.instrs p ≡ Some i → IsNamed code b i)
    → (top : ℕ) × (shapes : Shapes) × IsSound code (record b { max_height = top }) from makes.0 shapes

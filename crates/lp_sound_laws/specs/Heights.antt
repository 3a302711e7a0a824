-- How high the stack may become.
use Rattle.std.specs.Prelude.{◌≡◌, ℕ, ◌+◌, ◌*◌, ◌≤◌, ◌<◌, List, [], ◌∷◌, Some, slice_get}
use Rattle.lp_instr.specs.declared.instr.Instr.{Instr}
use Rattle.lp_instr.specs.declared.instr.Instr.TheVariants.{PushInt, PushText, PushLocal, PushGlobal, Dup, Dup2, MakeArray, MakeMap, CallSlot, CallFixed, CallEfun, CallSimul, Scan, CatchBegin, EachBegin, EachNext}
use Rattle.lp_instr.specs.Code.{Code}
use Rattle.lp_instr.specs.Sound.{Bounds, IsNamed, IsSound, Shapes}

-- how many values an instruction leaves at most beyond those that it takes
abbrev pub gain : Instr → ℕ
gain (PushInt z) = 1
gain (PushText k) = 1
gain (PushLocal k) = 1
gain (PushGlobal k) = 1
gain Dup = 1
gain Dup2 = 2
gain (MakeArray n) = 1
gain (MakeMap n) = 1
gain (CallSlot k n) = 1
gain (CallFixed parent j n) = 1
gain (CallEfun e n) = 1
gain (CallSimul k n) = 1
gain (Scan n) = 2 * n + 1
gain (CatchBegin to) = 1
gain (EachBegin n) = 1
gain (EachNext to n) = n
gain i = 0

abbrev pub gains : List Instr → ℕ
gains [] = 0
gains (i ∷ is) = gain i + gains is

-- The stack of sound code need not become higher than what all its instructions leave together: in some shapes it never is.
-- And in these the code is sound for any names in the tables of parents, and any bounds with that height, in which what it
-- names is there.
abbrev pub SoundCodeIsLow : Type 0
SoundCodeIsLow =
    (code : Code) (b : Bounds) (from to : ℕ) (shapes : Shapes) → IsSound code b from to shapes
    → (lower : Shapes) × ((parents : List (List (List ℕ))) (c : Bounds) → c.max_height ≡ gains code.instrs
    → ((p : ℕ) (i : Instr) → from ≤ p → p < to → slice_get code.instrs p ≡ Some i → IsNamed (record code { parents = parents }) c i)
    → IsSound (record code { parents = parents }) c from to lower)

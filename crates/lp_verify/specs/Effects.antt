-- What each instruction takes and leaves, and where it leads.
use Rattle.std.specs.Prelude.{ℕ, ◌+◌, ◌*◌, true, false, Some, None}
use Rattle.lp_instr.specs.declared.instr.Instr.{Instr}
use Rattle.lp_instr.specs.declared.instr.Instr.TheVariants.{PushInt, PushText, PushLocal, SetLocal, PushGlobal, SetGlobal, Pop, Dup, Dup2, Unary, Binary, Step, Rotate, Index, SetIndex, Range, MakeArray, MakeMap, Jump, JumpIfZero, JumpIfNotZero, KeepIfZero, KeepIfNotZero, LoopTurn, CallSlot, CallFixed, CallOther, CallEfun, CallSimul, Scan, CatchBegin, CatchEnd, Switch, EachBegin, EachNext, Return, ReturnZero}
use Rattle.lp_instr.specs.Sound.{end_count}
use Rattle.lp_verify.specs.declared.effect.Change.TheVariants.{Stay, Opens, Closes}
use Rattle.lp_verify.specs.declared.effect.Effect.{Effect}

-- an instruction that takes n values, leaves k, and goes on with the next one
abbrev pub flow : ℕ → ℕ → Effect
flow n k = record { takes = n; next = Some (record { leaves = k; change = Stay }); jump = None; row = None; ends = false }

-- one that may also go on elsewhere, where it leaves j
abbrev pub branch : ℕ → ℕ → ℕ → ℕ → Effect
branch n k to j = record { takes = n; next = Some (record { leaves = k; change = Stay }); jump = Some (record { to = to; leaves = j }); row = None; ends = false }

abbrev pub effect_of : Instr → Effect
effect_of (PushInt z) = flow 0 1
effect_of (PushText k) = flow 0 1
effect_of (PushLocal k) = flow 0 1
effect_of (SetLocal k) = flow 1 1
effect_of (PushGlobal k) = flow 0 1
effect_of (SetGlobal k) = flow 1 1
effect_of Pop = flow 1 0
effect_of Dup = flow 1 2
effect_of Dup2 = flow 2 4
effect_of (Unary op) = flow 1 1
effect_of (Binary op) = flow 2 1
effect_of (Step op) = flow 1 1
effect_of (Rotate n) = flow n n
effect_of (Index e) = flow 2 1
effect_of (SetIndex e) = flow 3 1
effect_of (Range x y) = flow (1 + end_count x + end_count y) 1
effect_of (MakeArray n) = flow n 1
effect_of (MakeMap n) = flow (2 * n) 1
effect_of (Jump to) = record { takes = 0; next = None; jump = Some (record { to = to; leaves = 0 }); row = None; ends = false }
effect_of (JumpIfZero to) = branch 1 0 to 0
effect_of (JumpIfNotZero to) = branch 1 0 to 0
effect_of (KeepIfZero to) = branch 1 0 to 1
effect_of (KeepIfNotZero to) = branch 1 0 to 1
effect_of LoopTurn = flow 0 0
effect_of (CallSlot k n) = flow n 1
effect_of (CallFixed parent j n) = flow n 1
effect_of (CallOther n) = flow (n + 2) 1
effect_of (CallEfun e n) = flow n 1
effect_of (CallSimul k n) = flow n 1
effect_of (Scan n) = flow 2 (2 * n + 1)
effect_of (CatchBegin to) = record { takes = 0; next = Some (record { leaves = 0; change = Opens to }); jump = Some (record { to = to; leaves = 1 }); row = None; ends = false }
effect_of CatchEnd = record { takes = 0; next = Some (record { leaves = 0; change = Closes }); jump = None; row = None; ends = false }
effect_of (Switch k) = record { takes = 1; next = None; jump = None; row = Some k; ends = false }
effect_of (EachBegin n) = flow 1 2
effect_of (EachNext to n) = branch 2 0 to (n + 2)
effect_of Return = record { takes = 1; next = None; jump = None; row = None; ends = true }
effect_of ReturnZero = record { takes = 0; next = None; jump = None; row = None; ends = true }

-- What a call that may need room answers.
use Rattle.std.specs.Prelude.{⊤, Result, Ok, Err}
use Rattle.lp_cells.specs.declared.fault.CellFault.{CellFault}
use Rattle.lp_cells.specs.declared.fault.CellFault.TheVariants.{NoMemory, TooLong, BadIndex}

-- why a call for more room may be refused: without memory, or as too long where it is
abbrev pub IsRefusal : Type 0 → CellFault → Type 0
IsRefusal full NoMemory = ⊤
IsRefusal full TooLong = full
IsRefusal full BadIndex = ⊥

-- it is refused as too long exactly where `full` holds; on a refusal `kept` holds, and else `done` of its value
abbrev pub UnlessFull : {T : Type 0} → Type 0 → (T → Type 0) → Type 0 → Result T CellFault → Type 0
UnlessFull full done kept (Ok v) = (¬ full) × done v
UnlessFull full done kept (Err e) = IsRefusal full e × kept

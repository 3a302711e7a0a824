-- When a unit has no tables.
use Rattle.std.specs.Prelude.{◌≡◌, Option, Some, ⊤}
use Rattle.lp_types_expr.specs.declared.fault.FaultAt.{FaultAt}
use Rattle.lp_layout.specs.declared.fault.InheritFault.{InheritFault}
use Rattle.lp_layout.specs.declared.fault.InheritFault.TheVariants.{NoMemory, At}

-- an answer is the first fault; memory may always run out
abbrev pub IsCaused : Option FaultAt → InheritFault → Type 0
IsCaused o NoMemory = ⊤
IsCaused o (At line kind) = o ≡ Some (record { line = line; kind = kind })

-- What an `Err` of a check tells.
use Rattle.std.specs.Prelude.{◌≡◌, List, [], ⊤}
use Rattle.lp_types_expr.specs.declared.fault.FaultAt.{FaultAt}
use Rattle.lp_types.specs.declared.fault.TypeFaults.{TypeFaults}
use Rattle.lp_types.specs.declared.fault.TypeFaults.TheVariants.{NoMemory, Faults}

-- these faults, of which there is one at least, or that there was no memory
abbrev pub IsToldOf : List FaultAt → TypeFaults → Type 0
IsToldOf all NoMemory = ⊤
IsToldOf all (Faults fs) = (fs.items ≡ all) × (all ≡ [] → ⊥)

-- Why a served run cannot begin.
use Rattle.std.specs.Prelude.{◌≡◌, ℕ, Bool, true, ⊤}
use Rattle.lp_mio_wire.specs.Faults.{Names}
use Rattle.lp_adapters.specs.declared.opening.OpenFault.{OpenFault}
use Rattle.lp_adapters.specs.declared.opening.OpenFault.TheVariants as faults

-- a fault of a port names one of these, and one of a record comes only where there is to be one
abbrev pub IsFaultOf : ℕ → ℕ → ℕ → Bool → OpenFault → Type 0
IsFaultOf port control ws records (faults.Folder kind) = ⊤
IsFaultOf port control ws records (faults.Wire fault) = Names port control ws fault
IsFaultOf port control ws records (faults.Record kind) = records ≡ true
IsFaultOf port control ws records faults.NoMemory = ⊤

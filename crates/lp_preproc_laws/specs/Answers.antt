-- What each file has.
use Rattle.std.specs.Prelude.{ℕ, List, ◌⊎◌}
use Rattle.lp_tree.specs.declared.fault.FaultKind.{FaultKind}
use Rattle.lp_tree.specs.declared.pragma.Pragmas.{Pragmas}
use Rattle.lp_tree.specs.declared.token.Token.{Token}
use Rattle.lp_preproc.specs.State.{Setting}
use Rattle.lp_preproc.specs.Expansion.{IsExpansion, IsFirstFault}

-- The file that is compiled has an expansion or a first fault.
abbrev pub HasAnswer : Setting → Type 0
HasAnswer c = ((ts : List Token) × (p : Pragmas) × IsExpansion c ts p) ⊎ ((kind : FaultKind) × (line : ℕ) × IsFirstFault c kind line)

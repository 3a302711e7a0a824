-- Sets of names.
use Rattle.std.specs.Prelude.{ℕ, List, Bool}
use Rattle.std.specs.List.{list_any}
use Rattle.lp_instr.specs.EfunList.{is_name}
use Rattle.lp_types.specs.declared.names.NameSet.{NameSet}

-- whether a name is in a set
abbrev pub is_in : NameSet → List ℕ → Bool
is_in s w = list_any (λ k. is_name w k.items) s.names.keys

-- Maps by names.
use Rattle.std.specs.Prelude.{ℕ, List, Option, Vec}
use Rattle.std.specs.HashMap.{HashMap, get_by}
use Rattle.std.specs.declared.alloc.Global.{Global}
use Rattle.lp_instr.specs.EfunList.{is_name}

-- what a map has at a name
abbrev pub named : {X S : Type 0} → HashMap (Vec ℕ Global) X S → List ℕ → Option X
named m w = get_by (λ k. is_name w k.items) m

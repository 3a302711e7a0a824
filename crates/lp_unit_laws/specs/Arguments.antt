-- Which calls of efuns stand in a unit without faults.
use Rattle.std.specs.Prelude.{◌≡◌, ℕ, List, []}
use Rattle.lp_tree.specs.Units.{ItemTree}
use Rattle.lp_instr.specs.declared.efun.Efun.{Efun}
use Rattle.lp_language.specs.Resolve.{own_variables}
use Rattle.lp_language.specs.Scope.{Callee, AnEfun}
use Rattle.lp_isa.specs.Programs.{own_functions}
use Rattle.lp_types_expr.specs.Known.{Around, plain_callee}
use Rattle.lp_types_expr.specs.Known as kinds
use Rattle.lp_types.specs.TypeFaults.{items_faults}
use Rattle.lp_sound_laws.specs.Counted.{FunctionsCounted, VariablesCounted}

-- the check of types takes each name for an efun that means one
abbrev pub KnowsEfuns : (List ℕ → Callee) → Around → Type 0
KnowsEfuns c a = (w : List ℕ) (e : Efun) → c w ≡ AnEfun e → plain_callee a w ≡ kinds.AnEfun e

-- Where the types of a unit have no fault, each call of an efun has a number of arguments that it allows.
abbrev pub WellTypedIsCounted : Type 0
WellTypedIsCounted =
    (c : List ℕ → Callee) (a : Around) (is : List ItemTree) → KnowsEfuns c a → items_faults a [] [] is ≡ [] → FunctionsCounted c (own_functions is) × VariablesCounted c (own_variables is)

-- The first of some faults, and the faults of a unit's layout item by item.
use Rattle.std.specs.Prelude.{ℕ, List, [], ◌∷◌, ◌++◌, length, Option, Some, None}
use Rattle.lp_tree.specs.declared.fault.FaultKind.{FaultKind}
use Rattle.lp_tree.specs.Units.{ItemTree, Inherit, Proto, Fun, Var}
use Rattle.lp_code.specs.declared.tables.Tables.{Tables}
use Rattle.lp_types_expr.specs.declared.fault.FaultAt.{FaultAt}
use Rattle.lp_types_expr.specs.Walk.{all_at, fault_at}
use Rattle.lp_layout.specs.LayoutFaults.{Limits, call_guilt, declarators_calls, function_kinds, inherit_kinds, stmts_calls, stmts_locals, too_many}

abbrev pub first_kind : List FaultKind → Option FaultKind
first_kind [] = None
first_kind (k ∷ ks) = Some k

-- a fault at a line, where there is a kind
abbrev pub at_if : ℕ → Option FaultKind → Option FaultAt
at_if line None = None
at_if line (Some k) = Some (fault_at line k)

-- the faults of one item, behind some inherits and before others
abbrev pub item_layout : Limits → List FaultKind → List Tables → List Tables → ItemTree → List FaultAt
item_layout m whole earlier [] (Inherit line path) = all_at line whole
item_layout m whole earlier (t ∷ ts) (Inherit line path) = all_at line (inherit_kinds earlier t ++ whole)
item_layout m whole earlier others (Proto line ms ty w ps) = all_at line (too_many m.arguments (length ps) ++ whole)
item_layout m whole earlier others (Fun line ms ty w ps b) = all_at line (function_kinds m earlier w (length ps) (stmts_locals b.stmts) ++ whole) ++ stmts_calls (call_guilt m earlier) b.stmts
item_layout m whole earlier others (Var line ms base ds) = all_at line whole ++ declarators_calls (call_guilt m earlier) ds

-- the parents of the inherits up to an item, and those of the inherits behind it
abbrev pub earlier_behind : List Tables → List Tables → ItemTree → List Tables
earlier_behind earlier [] x = earlier
earlier_behind earlier (t ∷ ts) (Inherit line path) = earlier ++ t ∷ []
earlier_behind earlier (t ∷ ts) (Proto line ms ty w ps) = earlier
earlier_behind earlier (t ∷ ts) (Fun line ms ty w ps b) = earlier
earlier_behind earlier (t ∷ ts) (Var line ms base ds) = earlier

abbrev pub others_behind : List Tables → ItemTree → List Tables
others_behind [] x = []
others_behind (t ∷ ts) (Inherit line path) = ts
others_behind (t ∷ ts) (Proto line ms ty w ps) = t ∷ ts
others_behind (t ∷ ts) (Fun line ms ty w ps b) = t ∷ ts
others_behind (t ∷ ts) (Var line ms base ds) = t ∷ ts

use Rattle.std.proofs.Common.{◌≡◌, ℕ, List, take, map}
use Rattle.lp_tree.specs.StatementView.{declarator_of}
use Rattle.lp_types_expr.specs.NameMaps.{named}
use Rattle.lp_types_expr.specs.Signatures.{declared_kind, or_else}
use Rattle.lp_types_expr.proofs.items.add_declared.Given as goal

abbrev pub invariant-loop-one : goal.invariant-loop-one
invariant-loop-one l = (w : List ℕ) → named l.kinds w ≡ or_else (declared_kind l.base (map declarator_of (take l.one-index l.ones)) w) (named l.fn.kinds w)

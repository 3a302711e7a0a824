-- What holds in the loops over statements, and over the parts of a switch: what was told so far and what the rest tells is
-- what the whole tells.
use Rattle.std.specs.Prelude.{◌≡◌, List, [], ◌++◌}
use Rattle.lp_tree.specs.declared.stmt.Label.{Label}
use Rattle.lp_tree.specs.Statements.{StmtTrees, PartTrees}
use Rattle.lp_types_expr.specs.declared.fault.FaultAt.{FaultAt}
use Rattle.lp_types_expr.specs.Known.{Around}
use Rattle.lp_types_expr.specs.Scopes.{Scope}
use Rattle.lp_types.specs.declared.labels.Labels.{Labels}
use Rattle.lp_types.specs.Labels.{Knows}
use Rattle.lp_types.specs.Pieces.{IsWithin}
use Rattle.lp_types.specs.TypeFaults.{stmts_faults, parts_faults}

pub record InStmts (a : Around) (first now : Scope) (before told : List FaultAt) (all rest : StmtTrees) : Type 0 where
  pub within : IsWithin first now
  pub faults : before ++ stmts_faults a first all ≡ told ++ stmts_faults a now rest

pub record InParts (a : Around) (first now : Scope) (before told : List FaultAt) (all rest : PartTrees) (labels : Labels) : Type 0 where
  pub within : IsWithin first now
  pub earlier : List Label
  pub knows : Knows labels earlier
  pub faults : before ++ parts_faults a first [] all ≡ told ++ parts_faults a now earlier rest

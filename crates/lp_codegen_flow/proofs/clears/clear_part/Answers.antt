use Rattle.std.proofs.Common.{sym, ap, length}
use Rattle.lp_language.specs.Scope.{slots_from}
use Rattle.lp_codegen_flow.specs.Switches.{declared_part}
use Rattle.lp_codegen_flow.proofs.Clearing.{cleared_none, cleared_as}
use Rattle.lp_codegen_flow.proofs.clears.clear_part.Goals as goal

pub returns-in-Label : goal.returns-in-Label
returns-in-Label c = cleared_as (ap (λ p. slots_from c.args.first (declared_part p)) (sym c.in-Label.is)) (ap (λ p. length (declared_part p)) (sym c.in-Label.is)) (cleared_none c.args.first _)

pub returns-in_ok-next-in-Stmt : goal.returns-in_ok-next-in-Stmt
returns-in_ok-next-in-Stmt c = cleared_as (ap (λ p. slots_from c.args.first (declared_part p)) (sym c.in-Stmt.is)) (ap (λ p. length (declared_part p)) (sym c.in-Stmt.is)) c.in_ok-next-in-Stmt.ensures

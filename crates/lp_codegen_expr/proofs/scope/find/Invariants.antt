use Rattle.std.proofs.Common.{◌≡◌, drop}
use Rattle.lp_language.specs.Resolve.{or_else}
use Rattle.lp_language.specs.Scope.{slot_of, slot_from}
use Rattle.lp_codegen_expr.proofs.scope.find.Given as goal

abbrev pub invariant-loop-i : goal.invariant-loop-i
invariant-loop-i l = slot_of l.names l.name ≡ or_else (slot_from l.i (drop l.i l.names) l.name) l.found

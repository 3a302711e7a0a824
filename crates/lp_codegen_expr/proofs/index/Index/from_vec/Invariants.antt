use Rattle.std.proofs.Common.{take}
use Rattle.lp_codegen_expr.specs.Found.{HasLast}
use Rattle.lp_codegen_expr.proofs.index.Index.from_vec.Given as goal

abbrev pub invariant-loop-i : goal.invariant-loop-i
invariant-loop-i l = HasLast (take l.i l.names.items) l.places

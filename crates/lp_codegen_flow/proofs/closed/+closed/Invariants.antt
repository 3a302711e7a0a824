use Rattle.std.proofs.Common.{◌≡◌, true}
use Rattle.lp_codegen_flow.specs.Closed.{with}
use Rattle.lp_codegen_flow.proofs.Leaving.{closed_from, parts_from}
use Rattle.lp_codegen_flow.proofs.closed.+closed.Given as goal

abbrev pub invariant-are_closed-loop-s : goal.invariant-are_closed-loop-s
invariant-are_closed-loop-s l = closed_from (with l.may_break l.may_continue) l.stmts.items 0 ≡ closed_from (with l.may_break l.may_continue) l.stmts.items l.s-index

abbrev pub invariant-parts_closed-loop-part : goal.invariant-parts_closed-loop-part
invariant-parts_closed-loop-part l = parts_from (with true l.may_continue) l.parts.items 0 ≡ parts_from (with true l.may_continue) l.parts.items l.part-index

use Rattle.std.proofs.Common.{sym, ◌∙◌}
use Rattle.lp_instr.specs.declared.instr.Instr.TheVariants.{CallSlot, CallSimul, CallEfun}
use Rattle.lp_codegen_expr.specs.declared.scope.Called.TheVariants.{Simul, Efun}
use Rattle.lp_codegen_expr.proofs.Compose.{one_at, one_two, with_text_n}
use Rattle.lp_codegen_expr.proofs.Meanings.{call_adds, row_adds}
use Rattle.lp_codegen_expr.proofs.calls.gen_call.Goals as goal

pub returns-in_ok-put-in-Row : goal.returns-in_ok-put-in-Row
returns-in_ok-put-in-Row c =
    row_adds c.args.name.now c.args.count c.in-Row.k (sym c.in-Row.is ∙ c.callee.ensures) (one_two CallSlot c.in_ok-k-in-Row.ensures c.in_ok-n.ensures c.in_ok-put-in-Row.ensures)

pub returns-in_ok-put-in-Simul : goal.returns-in_ok-put-in-Simul
returns-in_ok-put-in-Simul c =
    call_adds c.args.name.now c.args.count Simul (sym c.in-Simul.is ∙ c.callee.ensures) (with_text_n CallSimul c.args.name.now _ c.in_ok-n.ensures c.in_ok-k-in-Simul.ensures c.in_ok-put-in-Simul.ensures)

pub returns-in_ok-put-in-Efun : goal.returns-in_ok-put-in-Efun
returns-in_ok-put-in-Efun c =
    call_adds c.args.name.now c.args.count (Efun c.in-Efun.e) (sym c.in-Efun.is ∙ c.callee.ensures) (one_at (CallEfun c.in-Efun.e) c.in_ok-n.ensures c.in_ok-put-in-Efun.ensures)

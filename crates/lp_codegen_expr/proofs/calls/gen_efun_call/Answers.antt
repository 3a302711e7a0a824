use Rattle.std.proofs.Common.{sym, ap, ◌∙◌}
use Rattle.lp_instr.specs.EfunList.{efun_named}
use Rattle.lp_instr.specs.declared.instr.Instr.TheVariants.{CallEfun}
use Rattle.lp_codegen_expr.proofs.Compose.{one_at}
use Rattle.lp_codegen_expr.proofs.Meanings.{efun_adds}
use Rattle.lp_codegen_expr.proofs.calls.gen_efun_call.Goals as goal

pub returns-in_ok-put-in-Some : goal.returns-in_ok-put-in-Some
returns-in_ok-put-in-Some c =
    λ l. efun_adds c.args.name.now c.args.count c.in-Some.e (sym (ap efun_named c.as_slice.ensures) ∙ sym c.named.ensures ∙ c.in-Some.is) (one_at (CallEfun c.in-Some.e) c.in_ok-n.ensures c.in_ok-put-in-Some.ensures)

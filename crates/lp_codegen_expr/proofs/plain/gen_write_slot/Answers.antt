use Rattle.std.proofs.Common.{sym, ◌∙◌}
use Rattle.lp_instr.specs.declared.instr.Instr.TheVariants.{SetLocal, SetGlobal}
use Rattle.lp_codegen_expr.specs.declared.scope.Variable.TheVariants.{Local, Global}
use Rattle.lp_codegen_expr.proofs.Compose.{one_at}
use Rattle.lp_codegen_expr.proofs.Meanings.{write_adds}
use Rattle.lp_codegen_expr.proofs.plain.gen_write_slot.Goals as goal

pub returns-in_ok-put-in-Local : goal.returns-in_ok-put-in-Local
returns-in_ok-put-in-Local c =
    write_adds c.args.scope.now.locals.items c.args.name.now (Local c.in-Local.k) (sym c.in-Local.is ∙ c.look_up.ensures) (one_at SetLocal c.in_ok-k-in-Local.ensures c.in_ok-put-in-Local.ensures)

pub returns-in_ok-put-in-Global : goal.returns-in_ok-put-in-Global
returns-in_ok-put-in-Global c =
    write_adds c.args.scope.now.locals.items c.args.name.now (Global c.in-Global.k) (sym c.in-Global.is ∙ c.look_up.ensures) (one_at SetGlobal c.in_ok-k-in-Global.ensures c.in_ok-put-in-Global.ensures)

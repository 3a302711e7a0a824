use Rattle.lp_instr.specs.declared.instr.Instr.TheVariants.{Pop}
use Rattle.lp_codegen_expr.proofs.Compose.{seq, one_adds}
use Rattle.lp_codegen_flow.proofs.plain.gen_run.Goals as goal

pub returns : goal.returns
returns c = seq c.in_ok-gen_expr.ensures (one_adds Pop c.in_ok-put.ensures)

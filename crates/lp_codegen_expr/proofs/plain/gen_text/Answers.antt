use Rattle.lp_instr.specs.declared.instr.Instr.TheVariants.{PushText}
use Rattle.lp_codegen_expr.proofs.Compose.{with_text}
use Rattle.lp_codegen_expr.proofs.plain.gen_text.Goals as goal

pub returns : goal.returns
returns c = λ l. with_text PushText c.args.text.now _ c.in_ok-k.ensures c.in_ok-put.ensures

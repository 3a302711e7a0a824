use Rattle.lp_codegen_flow.proofs.Loops.{break_adds}
use Rattle.lp_codegen_flow.proofs.plain.gen_break.Goals as goal

pub returns : goal.returns
returns c = λ l n ns. break_adds c.in_ok-put_open.ensures

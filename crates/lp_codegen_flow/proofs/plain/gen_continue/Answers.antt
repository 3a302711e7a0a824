use Rattle.lp_codegen_flow.proofs.Loops.{continue_adds}
use Rattle.lp_codegen_flow.proofs.plain.gen_continue.Goals as goal

pub returns : goal.returns
returns c = λ l n ns. continue_adds c.in_ok-put_open.ensures

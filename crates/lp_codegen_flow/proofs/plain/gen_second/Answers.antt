use Rattle.std.proofs.Common.{sym}
use Rattle.lp_codegen_flow.proofs.Scopes.{second_none, second_some, second_as}
use Rattle.lp_codegen_flow.proofs.plain.gen_second.Goals as goal

pub returns-in_ok-gen_each-in-Some : goal.returns-in_ok-gen_each-in-Some
returns-in_ok-gen_each-in-Some c = second_as (sym c.in-Some.is) (second_some c.in-Some.each c.in_ok-gen_each-in-Some.ensures)

pub returns-in-None : goal.returns-in-None
returns-in-None c = second_as (sym c.in-None.is) second_none

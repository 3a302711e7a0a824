use Rattle.std.proofs.Common.{◌∙◌, Some, ap}
use Rattle.std.proofs.lemmas.Result.{IfOk-weaker}
use Rattle.lp_shadowing.proofs.Barred.{tested}
use Rattle.lp_shadowing.proofs.barring.is_forbidden.Goals as goal

pub returns-in-Some-program_in : goal.returns-in-Some-program_in
returns-in-Some-program_in c =
    let a = c.args in
    IfOk-weaker c.program_forbids.result _ _
    (λ b k. tested b a.live.now a.this a.o c.raw.result.now c.raw-in-Some-program_in.result.now c.requires.this c.requires.other
    (λ x e. ap Some c.raw.ensures.same ∙ c.in-Some.ensures x e) (λ x e. ap Some c.raw-in-Some-program_in.ensures.same ∙ c.in-Some-program_in.ensures x e) k) c.program_forbids.ensures

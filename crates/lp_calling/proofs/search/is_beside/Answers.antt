use Rattle.std.proofs.Common.{Some, subst, sym}
use Rattle.lp_calling.specs.Searches.{IsBeside}
use Rattle.lp_calling.proofs.Audiences.{lies_so}
use Rattle.lp_calling.proofs.Searches.{beside_given, beside_this}
use Rattle.lp_calling.proofs.search.is_beside.Goals as goal

pub returns-in-Some : goal.returns-in-Some
returns-in-Some c =
    let a = c.args in
    subst (λ x. IsBeside c.is_at.result a.live.now a.this x a.o) (sym c.in-Some.is)
    (subst (λ b. IsBeside b a.live.now a.this (Some c.in-Some.e) a.o) (sym c.is_at.ensures)
    (beside_given a.live.now a.this c.in-Some.e a.o c.environment-place.result (lies_so a.live.now a.o c.environment-place.result c.environment-place.ensures)))

pub returns-in-None : goal.returns-in-None
returns-in-None c =
    let a = c.args in
    subst (λ x. IsBeside c.is_near.result a.live.now a.this x a.o) (sym c.in-None.is)
    (beside_this a.live.now a.this a.o c.environment-place.result c.environment.result c.is_near.result (lies_so a.live.now a.o c.environment-place.result c.environment-place.ensures)
    (lies_so a.live.now a.this c.environment.result c.environment.ensures) c.is_near.ensures)

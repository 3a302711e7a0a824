use Rattle.std.proofs.Common.{refl, subst, sym}
use Rattle.lp_values.specs.declared.error.ErrorKind.TheVariants as kinds
use Rattle.lp_moving.specs.Moving.{IsRefused}
use Rattle.lp_calling.specs.Moving.{Refuses}
use Rattle.lp_calling.proofs.moving.error_of.Goals as goal

pub returns-in-IsShadow : goal.returns-in-IsShadow
returns-in-IsShadow c = λ r h. subst (λ r. Refuses r kinds.IsShadow) (sym (subst (λ f. IsRefused f r) c.in-IsShadow.is h)) refl

pub returns-in-WouldContainItself : goal.returns-in-WouldContainItself
returns-in-WouldContainItself c = λ r h. subst (λ r. Refuses r kinds.WouldContainItself) (sym (subst (λ f. IsRefused f r) c.in-WouldContainItself.is h)) refl

use Rattle.std.proofs.Common.{◌∙◌, ap, not, is_some}
use Rattle.lp_shadows.proofs.Shadowed.{ok_allows}
use Rattle.lp_shadows.proofs.shadows.may_shadow.Goals as goal

pub returns : goal.returns
returns c = λ ps ss h. c.is_ok.ensures.value ∙ ok_allows c.may_shadow.result ∙ ap (λ o. not (is_some o)) (c.may_shadow.ensures ps ss h)

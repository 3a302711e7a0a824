use Rattle.lp_part_laws.proofs.Texts.{resolved_in_text, resolved_named}
use Rattle.lp_part_laws.proofs.law_texts.Goals as goal

pub returns : goal.returns
returns c = λ h w f e. (resolved_in_text h w f e, resolved_named h w f e)

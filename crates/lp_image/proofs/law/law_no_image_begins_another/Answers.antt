use Rattle.lp_image.proofs.Whole.{not_another}
use Rattle.lp_image.proofs.law.law_no_image_begins_another.Goals as goal

pub returns : goal.returns
returns c = not_another

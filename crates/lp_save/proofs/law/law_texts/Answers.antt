use Rattle.lp_save.proofs.TextLaws.{text_read_again}
use Rattle.lp_save.proofs.law.law_texts.Goals as goal

pub returns : goal.returns
returns c = text_read_again

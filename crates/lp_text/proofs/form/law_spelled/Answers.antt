use Rattle.lp_text.proofs.FormLemmas.{form_spelled}
use Rattle.lp_text.proofs.form.law_spelled.Goals as goal

pub returns : goal.returns
returns c = form_spelled

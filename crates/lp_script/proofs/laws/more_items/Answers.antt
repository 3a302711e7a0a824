use Rattle.lp_script.proofs.GivenLemmas.{stands_more, end_is_script, end_is_large, end_is_bad}
use Rattle.lp_script.proofs.laws.more_items.Goals as goal

pub returns : goal.returns
returns c = record { more = stands_more; script = end_is_script; large = end_is_large; bad = end_is_bad }

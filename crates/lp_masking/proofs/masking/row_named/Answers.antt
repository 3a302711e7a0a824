use Rattle.std.proofs.Common.{sym, ◌∙◌}
use Rattle.lp_masking.proofs.Rows.{named_none, named_some}
use Rattle.lp_masking.proofs.masking.row_named.Goals as goal

pub returns-in-Some : goal.returns-in-Some
returns-in-Some c = c.slot_at.ensures ∙ named_some c.args.name.now c.args.whole.now.tables.slots c.in-Some.k (sym c.in-Some.ensures)

pub returns-in-None : goal.returns-in-None
returns-in-None c = sym (named_none c.args.name.now c.args.whole.now.tables.slots (sym c.in-None.ensures))

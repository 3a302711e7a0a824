use Rattle.std.proofs.Common.{◌∙◌, sym}
use Rattle.lp_targets.proofs.Lookups.{named_none, named_some}
use Rattle.lp_loading.proofs.own.row_named.Goals as goal

pub returns-in-Some : goal.returns-in-Some
returns-in-Some c = c.slot_at.ensures ∙ named_some c.args.name.now c.args.raw.now.tables.slots c.in-Some.k (sym c.place.ensures.is ∙ c.in-Some.is)

pub returns-in-None : goal.returns-in-None
returns-in-None c = sym (named_none c.args.name.now c.args.raw.now.tables.slots (sym c.place.ensures.is ∙ c.in-None.is))

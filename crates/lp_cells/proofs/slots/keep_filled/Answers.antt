use Rattle.std.proofs.Common.{is_some, rules}
use Rattle.std.proofs.lemmas.List.Elements.{filter_from_retain}
use Rattle.lp_cells.proofs.slots.keep_filled.Goals as goal

pub returns : goal.returns
returns c = filter_from_retain _ is_some (λ p x b q call. search rules) _ _ _ c.retain.ensures.filtered

use Rattle.std.proofs.Common.{rules}
use Rattle.std.proofs.lemmas.Fn.{filter_same}
use Rattle.lp_save.specs.SaveText.{is_among}
use Rattle.lp_save.proofs.cell_set.CellSet.keep_in.Goals as goal

pub returns : goal.returns
returns c = rw (← c.self.view_is) (filter_same _ (λ d. is_among d c.args.others.now) _ (λ x b f' k. search rules) _ _ c.retain.ensures.filtered)

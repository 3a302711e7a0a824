use Rattle.lp_preproc.proofs.TableLemmas.{after_change, same_table}
use Rattle.lp_preproc.proofs.table.Table.remove.Goals as goal

pub returns : goal.returns
returns c = same_table _ _ (after_change c.args.name.now c.args.self.now.macros c.remove.new.self _ c.remove.ensures.updates)

use Rattle.std.proofs.Common.{◌∙◌}
use Rattle.lp_files.proofs.FileLemmas.{undone}
use Rattle.lp_files.proofs.store.Store.append.Goals as goal

pub returns-in-Err-clause-err : goal.returns-in-Err-clause-err
returns-in-Err-clause-err c = record {
  files = c.in-Err.ensures.same;
  changed = c.take_back.ensures ∙ undone c.in_ok-fresh.fresh c.args.path.now c.args.self.now.changed c.add.new.self c.in_ok-fresh.ensures.fresh c.in_ok-fresh.ensures.there c.in_ok-fresh.ensures.ok;
}

use Rattle.lp_save.proofs.WalkLemmas.{shared_same}
use Rattle.lp_save.proofs.save.shared_cells.Goals as goal

pub returns : goal.returns
returns c = λ w s. shared_same c.args.walker w c.keep_in.new.self s c.keep_in.ensures

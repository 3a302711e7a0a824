use Rattle.lp_verify.proofs.Opened.{adds_from, stored_at, same_opening, decides_opening}
use Rattle.lp_verify.proofs.openings.put.Goals as goal

pub returns-clause-adds : goal.returns-clause-adds
returns-clause-adds c = adds_from c.args.rows.now.keys c.insert_full.new.self.keys c.args.opening same_opening c.in_ok-at.ensures.keys decides_opening

pub returns-clause-at : goal.returns-clause-at
returns-clause-at c = stored_at c.insert_full.new.self.keys c.args.opening c.in_ok-at.at same_opening c.in_ok-at.ensures.stored decides_opening

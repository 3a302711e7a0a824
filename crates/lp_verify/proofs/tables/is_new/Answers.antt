use Rattle.lp_verify.proofs.Naming.{puts_from}
use Rattle.lp_verify.proofs.tables.is_new.Goals as goal

pub returns : goal.returns
returns c = puts_from c.args.names.now.keys c.insert_full.new.self.keys c.args.name c.in_ok-new.new c.in_ok-new.ensures.keys c.in_ok-new.ensures.added

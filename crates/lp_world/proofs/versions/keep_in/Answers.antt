use Rattle.lp_world.proofs.Answering.{version_kept, version_same}
use Rattle.lp_world.proofs.versions.keep_in.Goals as goal

pub returns-clause-ok : goal.returns-clause-ok
returns-clause-ok c = version_kept c.keep.result c.args.row.now c.in-Some.v c.keep.new.self c.args.part c.args.slot c.args.answer c.in-Some.is c.keep.ensures.ok

pub returns-clause-err : goal.returns-clause-err
returns-clause-err c = version_same c.keep.result c.args.row.now c.in-Some.v c.keep.new.self c.in-Some.is c.keep.ensures.err

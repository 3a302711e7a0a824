use Rattle.std.proofs.Common.{refl}
use Rattle.lp_verify.proofs.Leading.{leave_moves}
use Rattle.lp_verify.proofs.walk.Walk.leave.Goals as goal

pub returns : goal.returns
returns c = leave_moves c.args.self.now _ c.learn.new.self c.args.form c.args.effect c.args.exit c.height_behind-height.result c.in_ok-open.open c.requires.ready.walk c.in_ok-open.ensures.more refl refl c.in_ok-open.ensures.list c.in_ok-learn.ensures c.height_behind-height.ensures

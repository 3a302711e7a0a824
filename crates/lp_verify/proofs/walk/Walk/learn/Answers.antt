use Rattle.std.proofs.Common.{refl, rules}
use Rattle.lp_verify.proofs.Walking.{learn_none, learn_more, in_at, not_known}
use Rattle.lp_verify.proofs.walk.Walk.learn.Goals as goal

pub says-requires-clause-old_in : goal.says-requires-clause-old_in
says-requires-clause-old_in c = in_at c.args.self.now.openings c.args.self.now.seen.items c.args.to c.index-old.result.now c.requires.inside c.index-old.ensures c.requires.walk

pub returns-then-says : goal.returns-then-says
returns-then-says c = learn_none c.args.self.now c.args.to c.args.value c.index-old.result.now c.requires.walk c.requires.inside c.index-old.ensures (c.says.ensures.0 (search rules))

pub returns : goal.returns
returns c = learn_more c.args.self.now _ c.args.to c.args.value c.index-old.result.now c.join.result c.requires.walk c.requires.inside c.index-old.ensures (not_known c.says.result _ c.says.ensures.1 c.if-says.false) c.join.ensures.same (c.join.ensures.inside c.requires.value_in) refl refl c.in_ok-push.ensures.items

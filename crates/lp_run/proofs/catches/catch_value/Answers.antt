use Rattle.std.proofs.Common.{rules, ◌≡◌, ◌++◌, ◌∷◌, [], take}
use Rattle.lp_run.proofs.Caught.{caught_at}
use Rattle.lp_run.proofs.catches.catch_value.Goals as goal

pub returns-in_ok-push-in-Some-clause-table : goal.returns-in_ok-push-in-Some-clause-table
returns-in_ok-push-in-Some-clause-table c =
    let e : c.args.frame.now.catches.items ≡ c.pop.new.self.items ++ c.in-Some.c ∷ [] = search rules in
    let s : c.push.new.stack.items ≡ take c.in-Some.c.height c.args.stack.now.items ++ c.args.v ∷ [] = search rules in
    caught_at c.args.v c.args.stack.now.items c.push.new.stack.items c.args.frame.now c.pop.new.self c.in-Some.c e s

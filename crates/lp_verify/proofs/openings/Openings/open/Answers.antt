use Rattle.std.proofs.Common.{arith}
use Rattle.lp_verify.proofs.Opened.{adds_list, adds_goes, adds_openings, below_view}
use Rattle.lp_verify.proofs.openings.Openings.open.Goals as goal

pub overflow_add-result : goal.overflow_add-result
overflow_add-result c = omega (arith, c.in_ok-at.ensures.few)

pub invariant_of-self-2 : goal.invariant_of-self-2
invariant_of-self-2 c = adds_openings c.self.inside.rows.keys c.put.new.rows.keys c.args.opening c.self.invariant (below_view c.self.inside.rows.keys c.args.opening.outer c.args.self.now c.self.view_is c.requires) c.in_ok-at.ensures.adds

pub returns-clause-list : goal.returns-clause-list
returns-clause-list c = adds_list c.self.inside.rows.keys c.put.new.rows.keys c.args.opening c.in_ok-at.at c.args.self.now c.self.invariant c.self.view_is c.requires c.in_ok-at.ensures.adds c.in_ok-at.ensures.at

pub returns-clause-more : goal.returns-clause-more
returns-clause-more c = adds_goes c.self.inside.rows.keys c.put.new.rows.keys c.args.opening c.args.self.now c.self.view_is c.in_ok-at.ensures.adds

use Rattle.std.proofs.Common.{arith, ◌∙◌, ◌<◌, ◌≡◌, length, true, false, sym}
use Rattle.std.proofs.lemmas.Bool.Decides.{nat_tests}
use Rattle.lp_parser_expr.specs.StackView.{stack_of}
use Rattle.lp_parser_expr.proofs.Stacks.{top_right, lift_as}
use Rattle.lp_parser_expr.proofs.stack.Stack.lift.Goals as goal

pub returns-then-is_place : goal.returns-then-is_place
returns-then-is_place c =
    let size : c.len.result ≡ length c.args.self.now.frames.items = c.len.ensures ∙ c.args.self.now.frames.ok.0 in let some : 0 < c.len.result = grind (arith, nat_tests) in
    lift_as _ (stack_of c.args.self.now) true c.args.is_place (sym c.if-is_place.true) (top_right _ c.len.result _ size some c.index-open.ensures c.args.self.now.right).0

pub returns : goal.returns
returns c =
    let size : c.len.result ≡ length c.args.self.now.frames.items = c.len.ensures ∙ c.args.self.now.frames.ok.0 in let some : 0 < c.len.result = grind (arith, nat_tests) in
    lift_as _ (stack_of c.args.self.now) false c.args.is_place (sym c.if-is_place.false) (top_right _ c.len.result _ size some c.index-open.ensures c.args.self.now.right).1.0

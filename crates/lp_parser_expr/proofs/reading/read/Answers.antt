use Rattle.std.proofs.Common.{ap, ◌∙◌, ◌≡◌, arith}
use Rattle.std.specs.Prelude.{Some}
use Rattle.lp_tree.specs.TreeView.{tree_of}
use Rattle.lp_parser_expr.specs.Machine.{finished}
use Rattle.lp_parser_expr.specs.View.{tree_in}
use Rattle.lp_parser_expr.specs.Moves.{state_of}
use Rattle.lp_parser_expr.specs.StackView.{stack_of}
use Rattle.lp_parser_expr.proofs.Readings.{same_tree, stop_ended, stop_goes, more_than, no_more_than}
use Rattle.lp_parser_expr.proofs.reading.read.Goals as goal

pub returns-in-Ends-Some : goal.returns-in-Ends-Some
returns-in-Ends-Some c =
    let st = state_of c.loop-i.focus (stack_of c.loop-i.stack) in
    let r = stop_ended c.args.limit c.args.tokens.now c.loop-i.i c.index-tokens-i.result st c.in_ok-seen.seen _ c.in_ok-next.field-0 c.in-Ends-Some.field-0 c.loop-i-test.true c.loop-i.invariant.walked c.loop-i.invariant.shallow c.in_ok-seen.ensures c.index-tokens-i.is c.in_ok-next.ensures c.in-Ends-Some.is in
    let tree : finished st ≡ Some (tree_of c.in-Ends-Some.whole.expr.value) = r.2 ∙ ap tree_in c.in-Ends-Some.field-0-is in
    let same = same_tree _ _ c.in-Ends-Some.whole-is in
    (st, r.0, r.1, cc)

pub returns-in-Ends-None : goal.returns-in-Ends-None
returns-in-Ends-None c =
    let st = state_of c.loop-i.focus (stack_of c.loop-i.stack) in
    let r = stop_ended c.args.limit c.args.tokens.now c.loop-i.i c.index-tokens-i.result st c.in_ok-seen.seen _ c.in_ok-next.field-0 c.in-Ends-None.field-0 c.loop-i-test.true c.loop-i.invariant.walked c.loop-i.invariant.shallow c.in_ok-seen.ensures c.index-tokens-i.is c.in_ok-next.ensures c.in-Ends-None.is in
    (st, r.0, r.1, r.2 ∙ ap tree_in c.in-Ends-None.field-0-is)

pub returns-then-least-limit : goal.returns-then-least-limit
returns-then-least-limit c =
    let st = state_of c.loop-i.focus (stack_of c.loop-i.stack) in
    let next = state_of c.in-Goes.next (stack_of c.step.new.stack) in (
      st,
      next,
      record { within = omega (arith, c.loop-i-test.true); walked = c.loop-i.invariant.walked; shallow = c.loop-i.invariant.shallow },
      c.loop-i-test.true,
      stop_goes c.args.tokens.now c.loop-i.i c.index-tokens-i.result st c.in_ok-seen.seen (stack_of c.step.new.stack) c.in_ok-next.field-0 c.in-Goes.next c.loop-i-test.true c.loop-i.invariant.walked c.in_ok-seen.ensures c.index-tokens-i.is c.in_ok-next.ensures c.in-Goes.is,
      more_than c.args.limit c.least.result _ c.least.ensures c.if-least-limit.true,
    )

pub loop-i-preserved : goal.loop-i-preserved
loop-i-preserved c =
    let st = state_of c.loop-i.focus (stack_of c.loop-i.stack) in
    record {
      walked = stop_goes c.args.tokens.now c.loop-i.i c.index-tokens-i.result st c.in_ok-seen.seen (stack_of c.step.new.stack) c.in_ok-next.field-0 c.in-Goes.next c.loop-i-test.true c.loop-i.invariant.walked c.in_ok-seen.ensures c.index-tokens-i.is c.in_ok-next.ensures c.in-Goes.is;
      shallow = λ _. no_more_than c.args.limit c.least.result _ c.least.ensures c.requires c.if-least-limit.false;
    }

use Rattle.std.proofs.Common.{◌≡◌, ◌+◌, ◌-◌, Bool, false, IfSome, arith, rules, subst, length}
use Rattle.lp_cells.specs.Cells.{IsThere}
use Rattle.lp_values.specs.declared.id.ObjId.{ObjId}
use Rattle.lp_tree.specs.declared.expr.Edge.TheVariants.{Front}
use Rattle.lp_ops.specs.Operands.{operand}
use Rattle.lp_ops.specs.Operators as operators
use Rattle.lp_ops.specs.declared.effect.Effect.TheVariants as effects
use Rattle.lp_step.specs.declared.worked.Worked.TheVariants as worked
use Rattle.lp_step.proofs.Fits.{pushed_fit}
use Rattle.lp_step.proofs.Indexed.{indexed, taken_two}
use Rattle.lp_step.proofs.Led.{value}
use Rattle.lp_run.specs.Takes.{at_place}
use Rattle.lp_run.proofs.Reading.{is_read}
use Rattle.lp_run.proofs.common.at_front.Goals as goal

pub returns-in-Some : goal.returns-in-Some
returns-in-Some c =
    let n : c.len-n.result ≡ length c.args.stack.now.items = search rules in
    let r =
    is_read c.args.live.now c.args.stack.now.items c.put_for_two.new.stack.items c.len-n.result c.args.left.now c.value_at-x.result.now c.value_at-i.result.now c.in-Some.v n c.requires.operands c.value_at-x.ensures c.value_at-i.ensures
    c.requires.there (omega (arith, c.if-left-eq0.false))
    (subst (λ o. IfSome o (λ v. (l : ObjId → Bool) → operators.index l false (operand l c.args.live.now.cells c.value_at-x.result.now) (operand l c.args.live.now.cells c.value_at-i.result.now) ≡ effects.Gives v)) c.in-Some.is c.in_ok-v.ensures.value)
    c.put_for_two.ensures in
    record {
      table = λ a m h fine named.
          indexed a c.args.live.now c.args.stack.now.items r.rest c.put_for_two.new.stack.items (at_place c.args.frame.now c.args.at.now) (c.args.at.now + 1) c.args.left.now (c.args.left.now - 1) m Front (worked.Value c.in-Some.v) _ h
          r.on (value r.now) fine;
      keeps = λ f. (
        pushed_fit c.args.live.now r.rest c.put_for_two.new.stack.items c.in-Some.v (subst (λ o. IfSome o (IsThere c.args.live.now.cells)) c.in-Some.is (c.in_ok-v.ensures.there f.closed.cells)) r.now
            (taken_two c.args.live.now c.args.stack.now.items r.rest r.on.0 r.on.1 r.on.2 f),
        tt,
      );
    }

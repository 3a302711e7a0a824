use Rattle.std.proofs.Common.{◌∙◌, ap, map}
use Rattle.lp_values.specs.declared.value.Value.TheVariants as values
use Rattle.lp_ops.specs.Operands.{operand}
use Rattle.lp_meaning.specs.EfunArguments.{object_arg}
use Rattle.lp_world.specs.Rows.{live_in}
use Rattle.lp_calling.proofs.Calling.{fit_with}
use Rattle.lp_calling.proofs.Searches.{absent_starts, present_starts}
use Rattle.lp_calling.proofs.search.begin_object.Goals as goal

pub returns-then-not-is_beside-clause-starts : goal.returns-then-not-is_beside-clause-starts
returns-then-not-is_beside-clause-starts c =
    let a = c.args in
    absent_starts a.caller.now a.live.now a.low a.stack.now.items a.stack.now.items c.requires.low a.o c.object_at-around.result c.is_beside.result c.requires.object
    (λ cells. c.object_at-around.ensures.value cells ∙ ap (λ ws. object_arg (map (operand (live_in a.live.now.objects) cells) ws) 1) c.above.ensures) c.is_beside.ensures c.if-not-is_beside.true

pub returns-clause-starts : goal.returns-clause-starts
returns-clause-starts c =
    let a = c.args in
    present_starts a.caller.now a.live.now a.low a.stack.now.items c.put_at.new.stack.items c.requires.low a.o c.object_at-around.result c.is_beside.result c.requires.object
    (λ cells. c.object_at-around.ensures.value cells ∙ ap (λ ws. object_arg (map (operand (live_in a.live.now.objects) cells) ws) 1) c.above.ensures) c.is_beside.ensures c.if-not-is_beside.false
    c.in_ok-put_at.ensures

pub returns-clause-fit : goal.returns-clause-fit
returns-clause-fit c = λ h. fit_with c.args.live.now c.args.stack.now.items c.put_at.new.stack.items c.args.low (values.Obj c.args.o) c.in_ok-put_at.ensures tt h

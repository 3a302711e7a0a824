use Rattle.std.proofs.Common.{◌∙◌, None, Some, ap, drop, map, subst, sym}
use Rattle.lp_ops.specs.Operands.{operand}
use Rattle.lp_meaning.specs.EfunArguments.{object_arg}
use Rattle.lp_world.specs.Rows.{live_in}
use Rattle.lp_efuns.proofs.Enabled.{row_there}
use Rattle.lp_shadowing.specs.Shadowing.{ActsShadow}
use Rattle.lp_shadowing.proofs.Begun.{named_so, nobody_acts}
use Rattle.lp_shadowing.proofs.shadowing.act.Goals as goal

pub shadow-requires-clause-other : goal.shadow-requires-clause-other
shadow-requires-clause-other g c = row_there c.args.live.now.objects c.in-Some.o c.in-Some.ensures.live

pub shadow-requires-clause-names : goal.shadow-requires-clause-names
shadow-requires-clause-names g c =
    named_so c.args.live.now (drop c.args.low c.args.stack.now.items) (Some c.in-Some.o)
    (λ cells. c.in-Some.ensures.value cells ∙ ap (λ ws. object_arg (map (operand (live_in c.args.live.now.objects) cells) ws) 0) c.above.ensures)

pub returns-in-None-clause-acts : goal.returns-in-None-clause-acts
returns-in-None-clause-acts g c = λ t.
    let a = c.args in
    subst (λ r. ActsShadow r a.caller.now (g.W.SwapFile.content a.swap.now) a.live.now a.live.now a.low a.stack.now.items a.stack.now.items) (sym c.nothing.ensures.value)
    (nobody_acts a.caller.now (g.W.SwapFile.content a.swap.now) a.live.now a.low a.stack.now.items c.requires.low
    (named_so a.live.now (drop a.low a.stack.now.items) None (λ cells. c.in-None.ensures.value cells ∙ ap (λ ws. object_arg (map (operand (live_in a.live.now.objects) cells) ws) 0) c.above.ensures)))

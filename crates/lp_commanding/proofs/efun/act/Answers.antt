use Rattle.std.proofs.Common.{◌∙◌, ap, map, subst}
use Rattle.lp_ops.specs.Operands.{operand}
use Rattle.lp_meaning.specs.EfunArguments.{text_arg}
use Rattle.lp_efuns.proofs.Enabled.{row_there}
use Rattle.lp_commanding.specs.Efuns.{CanCommand}
use Rattle.lp_commanding.proofs.Commanded.{line_acts, nobody_acts}
use Rattle.lp_commanding.proofs.efun.act.Goals as goal

pub returns-then-not-can_command-clause-acts : goal.returns-then-not-can_command-clause-acts
returns-then-not-can_command-clause-acts c =
    let a = c.args in
    nobody_acts a.caller.now a.live.now a.low a.stack.now.items c.cut.new.stack.items c.end_efun.result a.budget.now c.end_efun.new.budget c.cut.ensures.items
    (subst (λ b. CanCommand b a.live.now a.caller.now.this) c.if-not-can_command.true c.can_command.ensures.can) c.end_efun.ensures.ends

pub returns-clause-acts : goal.returns-clause-acts
returns-clause-acts c =
    let a = c.args in
    line_acts a.caller.now a.live.now a.low a.stack.now.items c.cut-2.new.stack.items c.in_ok-line.line a.budget.now c.requires.low c.cut-2.ensures.items
    (subst (λ b. CanCommand b a.live.now a.caller.now.this) c.if-not-can_command.false c.can_command.ensures.can)
    (λ l cells. c.in_ok-line.ensures l cells ∙ ap (λ ws. text_arg (map (operand l cells) ws) 0) c.above.ensures)

pub returns-clause-ready : goal.returns-clause-ready
returns-clause-ready c = row_there c.args.live.now.objects c.args.caller.now.this (c.can_command.ensures.live c.if-not-can_command.false)

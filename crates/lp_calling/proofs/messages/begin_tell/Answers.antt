use Rattle.std.proofs.Common.{◌∙◌, [], ap, map, subst, sym}
use Rattle.lp_ops.specs.Operands.{operand}
use Rattle.lp_meaning.specs.EfunArguments.{object_arg, text_arg}
use Rattle.lp_world.specs.Rows.{live_in}
use Rattle.lp_calling.specs.Targets.{told_stage}
use Rattle.lp_calling.specs.Jobs.{IsStageReady}
use Rattle.lp_calling.proofs.Telling.{tell_starts, told_ready}
use Rattle.lp_calling.proofs.messages.begin_tell.Goals as goal

pub returns-clause-starts : goal.returns-clause-starts
returns-clause-starts c = λ caller.
    tell_starts caller c.args.live.now c.args.low c.args.stack.now.items c.tell_stage-stage.result c.in_ok-text.text c.requires.low
    (λ cells. c.tell_stage-stage.ensures cells ∙ ap (λ ws. told_stage (object_arg (map (operand (live_in c.args.live.now.objects) cells) ws) 0) c.in_ok-text.text) c.above-2.ensures)
    (λ l cells. c.in_ok-text.ensures l cells ∙ ap (λ ws. text_arg (map (operand l cells) ws) 1) c.above.ensures)

pub returns-clause-ready : goal.returns-clause-ready
returns-clause-ready c = λ objects.
    subst (λ st. IsStageReady objects st) (sym (c.tell_stage-stage.ensures []))
    (told_ready objects (object_arg (map (operand (live_in c.args.live.now.objects) []) c.above-2.result.now) 0) c.in_ok-text.text)

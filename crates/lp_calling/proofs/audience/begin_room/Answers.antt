use Rattle.std.proofs.Common.{◌∙◌, ap, map}
use Rattle.lp_ops.specs.Operands.{operand}
use Rattle.lp_meaning.specs.EfunArguments.{object_arg}
use Rattle.lp_world.specs.Rows.{live_in}
use Rattle.lp_calling.proofs.Audiences.{no_room_starts}
use Rattle.lp_calling.proofs.audience.begin_room.Goals as goal

pub begin_in-requires-clause-place : goal.begin_in-requires-clause-place
begin_in-requires-clause-place c = λ cells. c.in-Some.ensures.value cells ∙ ap (λ ws. object_arg (map (operand (live_in c.args.live.now.objects) cells) ws) 0) c.above.ensures

pub returns-in-None-clause-starts : goal.returns-in-None-clause-starts
returns-in-None-clause-starts c = λ caller.
    no_room_starts caller c.args.live.now c.args.low c.args.stack.now.items c.requires.low
    (λ cells. c.in-None.ensures.value cells ∙ ap (λ ws. object_arg (map (operand (live_in c.args.live.now.objects) cells) ws) 0) c.above.ensures)

use Rattle.std.proofs.Common.{◌∙◌, ap, map}
use Rattle.lp_ops.specs.Operands.{operand}
use Rattle.lp_meaning.specs.EfunArguments.{arg}
use Rattle.lp_world.specs.Rows.{live_in}
use Rattle.lp_calling.specs.Targets.{target_of}
use Rattle.lp_calling.proofs.Searches.{nothing_starts}
use Rattle.lp_calling.proofs.search.begin_present.Goals as goal

pub begin_object-requires-clause-object : goal.begin_object-requires-clause-object
begin_object-requires-clause-object c = λ cells. c.in-Live.ensures.value cells ∙ ap (λ ws. target_of (arg (map (operand (live_in c.args.live.now.objects) cells) ws) 0)) c.above.ensures

pub begin_text-requires-clause-text : goal.begin_text-requires-clause-text
begin_text-requires-clause-text c = λ cells. c.in-Named.ensures.value cells ∙ ap (λ ws. target_of (arg (map (operand (live_in c.args.live.now.objects) cells) ws) 0)) c.above.ensures

pub returns-in-Nothing-clause-starts : goal.returns-in-Nothing-clause-starts
returns-in-Nothing-clause-starts c =
    nothing_starts c.args.caller.now c.args.live.now c.args.low c.args.stack.now.items c.args.stack.now.items c.requires.low
    (λ cells. c.in-Nothing.ensures.value cells ∙ ap (λ ws. target_of (arg (map (operand (live_in c.args.live.now.objects) cells) ws) 0)) c.above.ensures)

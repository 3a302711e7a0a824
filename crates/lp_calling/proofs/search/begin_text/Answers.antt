use Rattle.std.proofs.Common.{◌∙◌, ap, map}
use Rattle.lp_ops.specs.Operands.{operand}
use Rattle.lp_meaning.specs.EfunArguments.{object_arg, text_arg}
use Rattle.lp_world.specs.Rows.{live_in}
use Rattle.lp_calling.proofs.Searches.{search_starts}
use Rattle.lp_calling.proofs.search.begin_text.Goals as goal

pub returns-clause-starts : goal.returns-clause-starts
returns-clause-starts c =
    let a = c.args in
    search_starts a.caller.now a.live.now a.low a.stack.now.items a.stack.now.items c.requires.low c.object_at-around.result c.in_ok-text.text c.in_ok-search.search c.requires.text
    (λ cells. c.object_at-around.ensures.value cells ∙ ap (λ ws. object_arg (map (operand (live_in a.live.now.objects) cells) ws) 1) c.above-2.ensures)
    (λ l cells. c.in_ok-text.ensures l cells ∙ ap (λ ws. text_arg (map (operand l cells) ws) 0) c.above.ensures) c.in_ok-search.ensures

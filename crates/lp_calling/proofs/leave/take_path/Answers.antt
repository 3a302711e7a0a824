use Rattle.std.proofs.Common.{◌∙◌, ap}
use Rattle.lp_meaning.specs.FileEfuns.{path_answered}
use Rattle.lp_ops.specs.Operands.{operand}
use Rattle.lp_world.specs.Rows.{live_in}
use Rattle.lp_calling.proofs.Leaving.{path_granted}
use Rattle.lp_calling.proofs.leave.take_path.Goals as goal

pub returns-clause-granted : goal.returns-clause-granted
returns-clause-granted c = λ o.
    path_granted (live_in c.args.objects.now) c.args.deed c.args.path.now o c.args.v.now c.in_ok-used.used
    (λ cells. c.in_ok-used.ensures.used cells ∙ ap (λ t. path_answered t (operand (live_in c.args.objects.now) cells c.args.v.now)) c.as_slice.ensures)

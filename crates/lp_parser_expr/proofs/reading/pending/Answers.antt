use Rattle.std.proofs.Common.{true, refl, ap, ◌∙◌}
use Rattle.lp_parser_expr.specs.Capped.{capped}
use Rattle.lp_parser_expr.specs.Depth.{up, total}
use Rattle.lp_parser_expr.specs.StackView.{stack_of}
use Rattle.lp_parser_expr.specs.View.{frame_of}
use Rattle.lp_parser_expr.proofs.Stacks.{opened_open}
use Rattle.lp_parser_expr.proofs.reading.pending.Goals as goal

pub returns : goal.returns
returns c =
    let f = frame_of c.args.frame.now in
    let s = stack_of c.args.stack.now in
    opened_open f s c.levels_ended.result _ c.levels_ended.ensures c.in_default.is
    (c.levels-2.ensures (up f true 1) (c.lifted.ensures (up f true) 1 c.own_lift.ensures refl) ∙ ap (λ b. capped (total s b (up f true 1))) c.makes_place.ensures)

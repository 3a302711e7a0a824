use Rattle.std.proofs.Common.{refl, ◌∙◌, true, false, ◌∷◌}
use Rattle.lp_parser_expr.specs.Depth.{makes, up, total}
use Rattle.lp_parser_expr.specs.View.{frame_of}
use Rattle.lp_parser_expr.specs.StackView.{stack_of}
use Rattle.lp_parser_expr.proofs.Stacks.{lift_as, opened_least, opened_open}
use Rattle.lp_parser_expr.proofs.stack.Stack.opened.Goals as goal
use Rattle.lp_parser_expr.proofs.stack.Stack.opened.Goals.{in-Some, in-None}

pub returns-clause-right : goal.returns-clause-right
returns-clause-right c =
    let f = frame_of c.args.frame in
    let s = stack_of c.args.self.now in
    let outer = lift_as _ s _ (makes f) c.makes_place.ensures c.lift-outer.ensures in
    let place = c.inside-place.ensures (up f true) (total s (makes f)) outer c.own_lift.ensures in
    let other = c.inside-other.ensures (up f false) (total s (makes f)) outer c.own_lift-2.ensures in (
      place,
      (
        other,
        elim c.match-levels_ended.branch [
          | in-Some w ↦ w.least-is ∙ opened_least f s c.levels_ended.result _ _ c.levels_ended.ensures w.in-Some.is (λ n e. w.lifted-least.ensures (total s false) n w.lift.ensures e)
          | in-None w ↦ w.least-is ∙ opened_open f s c.levels_ended.result _ c.levels_ended.ensures w.in-None.is (w.lifted-least-in-None.ensures (total (f ∷ s) true) 1 place refl)
        ],
      ),
    )

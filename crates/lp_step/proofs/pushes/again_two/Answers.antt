use Rattle.std.proofs.Common.{ap, ◌∙◌, ◌++◌, ◌∷◌, [], ◌≡◌, rules, length}
use Rattle.lp_step.proofs.Moves.{two_again}
use Rattle.lp_step.proofs.Fits.{pushed_fit, got_there}
use Rattle.lp_step.proofs.pushes.again_two.Goals as goal

pub returns : goal.returns
returns c = let n : c.len-below.result ≡ length c.args.stack.now.items = search rules in record {
  table = λ live budget a m h fine named.
      two_again a live _ _ c.args.frame.now budget m c.in_ok-x.x c.in_ok-y.y _ n h c.requires.operands c.in_ok-x.ensures c.in_ok-y.ensures (c.in_ok-push-2.ensures ∙ ap (λ s. s ++ c.in_ok-y.y ∷ []) c.in_ok-push.ensures) fine;
  keeps = λ live f. (pushed_fit live _ _ _ (got_there live _ _ _ c.in_ok-y.ensures f) c.in_ok-push-2.ensures (pushed_fit live _ _ _ (got_there live _ _ _ c.in_ok-x.ensures f) c.in_ok-push.ensures f), tt);
}

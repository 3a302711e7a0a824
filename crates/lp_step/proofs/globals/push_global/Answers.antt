use Rattle.std.proofs.Common.{◌∙◌, ap, sym, Some}
use Rattle.lp_step.proofs.Variables.{variable_pushed, variable_there}
use Rattle.lp_step.proofs.Fits.{pushed_fit}
use Rattle.lp_step.proofs.globals.push_global.Goals as goal

pub returns : goal.returns
returns c = record {
  table = λ budget a m h fine named. variable_pushed a c.args.live.now _ _ c.args.frame.now budget m c.args.k _ h c.requires.there (λ vs e. c.variable.ensures vs e ∙ ap Some (sym c.in_ok-v.ensures)) c.in_ok-push.ensures;
  keeps = λ f. (pushed_fit c.args.live.now _ _ _ (variable_there c.args.live.now _ c.args.frame.now.this _ _ c.requires.there (λ vs e. c.variable.ensures vs e ∙ ap Some (sym c.in_ok-v.ensures)) f) c.in_ok-push.ensures f, tt);
}

use Rattle.std.proofs.Common.{◌∙◌, refl, ap, sym, Some}
use Rattle.lp_step.proofs.Variables.{variable_pushed, variable_there}
use Rattle.lp_step.proofs.Fits.{pushed_fit}
use Rattle.lp_run.specs.Takes.{at_place}
use Rattle.lp_run.proofs.common.push_global.Goals as goal

pub returns : goal.returns
returns c = (
  refl,
  λ budget. record {
    table = λ a m h fine named. variable_pushed a c.args.live.now _ _ (at_place c.args.frame.now c.args.at.now) budget m c.args.k _ h c.requires.there (λ vs e. c.variable.ensures vs e ∙ ap Some (sym c.in_ok-v.ensures)) c.in_ok-push.ensures;
    keeps = λ f. (pushed_fit c.args.live.now _ _ _ (variable_there c.args.live.now _ c.args.frame.now.this _ _ c.requires.there (λ vs e. c.variable.ensures vs e ∙ ap Some (sym c.in_ok-v.ensures)) f) c.in_ok-push.ensures f, tt);
  },
)

use Rattle.std.proofs.Common.{◌≡◌, length, rules}
use Rattle.lp_step.proofs.Variables.{variable_fit, variable_set, written_home}
use Rattle.lp_step.proofs.Fits.{got_there}
use Rattle.lp_step.proofs.globals.set_global.Goals as goal

pub returns : goal.returns
returns c = let n : c.len.result ≡ length c.args.stack.now.items = search rules in record {
  table = λ budget a m h fine named. variable_set a c.args.live.now _ _ c.args.frame.now budget m c.args.k c.in_ok-v.v _ n h c.requires.there c.in_ok-v.ensures c.set_variable.ensures fine;
  keeps = λ f. (variable_fit c.args.live.now _ _ c.args.frame.now.this _ c.in_ok-v.v c.requires.there c.set_variable.ensures (got_there c.args.live.now _ _ _ c.in_ok-v.ensures f) f, tt);
  home = written_home c.args.live.now.objects _ c.args.frame.now.this _ c.in_ok-v.v c.requires.there c.set_variable.ensures;
}

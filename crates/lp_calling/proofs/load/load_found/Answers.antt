use Rattle.lp_values.specs.declared.value.Value.TheVariants as values
use Rattle.lp_calling.proofs.Calling.{fit_with}
use Rattle.lp_calling.proofs.Loading.{found_starts}
use Rattle.lp_calling.proofs.load.load_found.Goals as goal

pub returns-clause-starts : goal.returns-clause-starts
returns-clause-starts c = λ caller. found_starts caller c.args.live.now c.args.low c.args.stack.now.items c.put_at.new.stack.items c.args.o c.requires.low c.requires.loadable c.in_ok-put_at.ensures

pub returns-clause-fit : goal.returns-clause-fit
returns-clause-fit c = λ h. fit_with c.args.live.now c.args.stack.now.items c.put_at.new.stack.items c.args.low (values.Obj c.args.o) c.in_ok-put_at.ensures tt h

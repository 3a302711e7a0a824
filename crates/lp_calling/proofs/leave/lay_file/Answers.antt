use Rattle.lp_instr.specs.EfunList.{efun_name}
use Rattle.lp_language.specs.Course.{zero_value}
use Rattle.lp_values.specs.declared.value.Value.TheVariants as values
use Rattle.lp_calling.specs.Leave.{asker_value}
use Rattle.lp_calling.proofs.Leaving.{laid}
use Rattle.lp_calling.proofs.leave.lay_file.Goals as goal

pub returns-clause-items : goal.returns-clause-items
returns-clause-items c =
    let a = c.args in
    laid a.stack.now.items c.lay_path.new.stack.items c.lay_name.new.stack.items c.push.new.self.items (values.Str a.path.now) zero_value (values.Str (efun_name a.efun)) (asker_value a.asker) c.asker_value.result
    c.in_ok-lay_path.ensures.items c.in_ok-lay_name.ensures.items c.in_ok-push.ensures.items c.asker_value.ensures.value

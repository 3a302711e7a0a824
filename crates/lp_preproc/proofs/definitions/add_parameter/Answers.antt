use Rattle.std.proofs.Common.{ap, sym, ◌∙◌, subst, IfOk}
use Rattle.std.specs.Option.{option_copied}
use Rattle.lp_preproc.specs.Directives.{IsParameter}
use Rattle.lp_preproc.proofs.ParameterLemmas.{parameter_added}
use Rattle.lp_preproc.proofs.definitions.add_parameter.Goals as goal

pub returns-in-Some : goal.returns-in-Some
returns-in-Some c =
    subst (λ m. IfOk c.add.result (IsParameter c.args.names.now m c.add.new.self)) (sym (ap option_copied c.in-Some.is) ∙ c.name_part.ensures)
    (parameter_added c.in-Some.name.now c.args.names.now c.add.new.self c.add.result c.add.ensures)

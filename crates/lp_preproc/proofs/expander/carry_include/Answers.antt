use Rattle.std.proofs.Common.{sym, ◌∙◌, subst, ◌∷◌}
use Rattle.lp_tree.specs.declared.fault.FaultKind.TheVariants.{BadDirective}
use Rattle.lp_preproc.specs.State.{State}
use Rattle.lp_preproc.specs.Directives.{include}
use Rattle.lp_preproc.specs.Expansion.{Faulty, LeadsTo, fails}
use Rattle.lp_preproc.specs.Steps.{whole_of}
use Rattle.lp_preproc.proofs.expander.carry_include.Goals as goal

pub returns-in_default : goal.returns-in_default
returns-in_default c = λ c' e.
    let s : State = record (whole_of c.args.expander.now) { files = c.args.source ∷ c.args.expander.now.files } in
    subst (λ p. LeadsTo c' (include c' s p c.args.line) (Faulty BadDirective c.args.line)) (sym c.in_default.is ∙ c.in_ok-path.ensures c' e) fails

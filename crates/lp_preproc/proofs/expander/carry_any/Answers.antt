use Rattle.std.proofs.Common.{sym, subst, ◌∷◌}
use Rattle.lp_tree.specs.declared.fault.FaultKind.TheVariants.{BadDirective}
use Rattle.lp_preproc.specs.State.{State}
use Rattle.lp_preproc.specs.Directives.{carried_out}
use Rattle.lp_preproc.specs.Expansion.{Faulty, LeadsTo, fails}
use Rattle.lp_preproc.specs.Steps.{Does, whole_of}
use Rattle.lp_preproc.proofs.Leading.{does_reached}
use Rattle.lp_preproc.proofs.expander.carry_any.Goals as goal

pub returns-in-None : goal.returns-in-None
returns-in-None c = λ c' i.
    let s : State = record (whole_of c.args.expander.now) { files = c.args.source ∷ c.args.expander.now.files } in
    subst (λ d. LeadsTo c' (carried_out c' s c.args.source d c.args.rest.now c.args.line) (Faulty BadDirective c.args.line)) (sym c.in-None.is) fails

pub returns-in-Some : goal.returns-in-Some
returns-in-Some c = λ c' i.
    let s : State = record (whole_of c.args.expander.now) { files = c.args.source ∷ c.args.expander.now.files } in
    let t = whole_of c.carry_directive.new.expander in
    does_reached c' _ c.carry_directive.result t
    (subst (λ d. Does (carried_out c' s c.args.source d c.args.rest.now c.args.line) c.carry_directive.result t) (sym c.in-Some.is) (c.carry_directive.ensures c' i.files))

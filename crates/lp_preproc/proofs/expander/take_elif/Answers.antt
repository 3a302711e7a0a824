use Rattle.std.proofs.Common.{sym, subst, ◌∷◌, rules}
use Rattle.lp_tree.specs.declared.fault.FaultKind.TheVariants.{StrayElse}
use Rattle.lp_preproc.specs.State.{State}
use Rattle.lp_preproc.specs.Directives.{elif}
use Rattle.lp_preproc.specs.Expansion.{Faulty, LeadsTo, fails}
use Rattle.lp_preproc.specs.Steps.{whole_of}
use Rattle.lp_preproc.proofs.Leading.{leads_same}
use Rattle.lp_preproc.proofs.expander.take_elif.Goals as goal

pub returns-in_default : goal.returns-in_default
returns-in_default c = λ c' i.
    let s : State = record (whole_of c.args.expander.now) { files = c.args.source ∷ c.args.expander.now.files } in
    subst (λ gs. LeadsTo c' (elif s c.args.source.included gs c.args.rest.now c.args.line) (Faulty StrayElse c.args.line)) (sym c.in_default.ensures.0) fails

pub returns-then-group : goal.returns-then-group
returns-then-group c = λ c' i.
    let s : State = record (whole_of c.args.expander.now) { files = c.args.source ∷ c.args.expander.now.files } in
    subst (λ gs. LeadsTo c' (elif s c.args.source.included gs c.args.rest.now c.args.line) (Faulty StrayElse c.args.line)) (sym c.in-Some.ensures) (rw c.if-group.true fails)

pub returns : goal.returns
returns c = λ c' i. leads_same c' _ _ (search rules)

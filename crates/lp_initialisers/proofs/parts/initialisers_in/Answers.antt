use Rattle.std.proofs.Common.{ap, length, refl, subst}
use Rattle.lp_initialisers.specs.Callees.{IsBase}
use Rattle.lp_initialisers.specs.Rows.{IsInitialiserRowIf}
use Rattle.lp_initialisers.proofs.PartBases.{base_is, no_base, same_base}
use Rattle.lp_initialisers.proofs.parts.initialisers_in.Goals as goal

pub returns-in_err-base-clause-found : goal.returns-in_err-base-clause-found
returns-in_err-base-clause-found c = λ h p at fits mine.
    no_base p.base c.base_of.result c.in_err-base.was (base_is h c.args.whole.now c.args.own.now c.args.part p c.base_of.result at fits mine (subst (λ n. IsBase c.args.whole.now c.args.part n c.base_of.result) (ap length c.as_slice.ensures) c.base_of.ensures))

pub returns-clause-found : goal.returns-clause-found
returns-clause-found c = λ h p at fits mine.
    let row = subst (IsInitialiserRowIf p.tree c.args.own.now) c.in_ok-fun.was (c.initialiser_row.ensures p.tree mine) in
    let base = same_base c.in_ok-base.base p.base c.base_of.result c.in_ok-base.was
    (base_is h c.args.whole.now c.args.own.now c.args.part p c.base_of.result at fits mine (subst (λ n. IsBase c.args.whole.now c.args.part n c.base_of.result) (ap length c.as_slice.ensures) c.base_of.ensures)) in
    (row.0, record { this = refl; part = refl; program = refl; base = base; row = row.1 })

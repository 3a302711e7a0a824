use Rattle.std.proofs.Common.{◌+◌, ◌-◌, arith, ap, Some, subst, sym}
use Rattle.lp_part_laws.specs.Parts.{IsSplit}
use Rattle.lp_initialisers.proofs.parts.base_of.Goals as goal

pub returns-then-base : goal.returns-then-base
returns-then-base c = λ base f b s.
    let e = c.first_variable-base.ensures base (subst (λ z. IsSplit z (c.args.part + 1 - c.args.count) base) (sym c.as_slice.ensures) s) in
    absurd (omega (arith, e, b))

pub returns : goal.returns
returns c = λ base f b s.
    let e = c.first_variable-base.ensures base (subst (λ z. IsSplit z (c.args.part + 1 - c.args.count) base) (sym c.as_slice.ensures) s) in
    ap (λ z. Some z) e

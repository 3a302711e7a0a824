use Rattle.std.proofs.Common.{◌+◌, ◌-◌, arith, ap, Some, subst, sym}
use Rattle.lp_part_laws.specs.Parts.{IsSplit}
use Rattle.lp_targets.specs.Callees.{answer_for}
use Rattle.lp_targets.proofs.callees.callee_in.Goals as goal

pub returns-then-base-clause-is : goal.returns-then-base-clause-is
returns-then-base-clause-is c = λ base f p b s.
    let e = c.first_variable-base.ensures base (subst (λ z. IsSplit z (c.args.at.part + 1 - c.args.outline.now.parts) base) (sym c.as_slice.ensures) s) in
    absurd (omega (arith, e, b))

pub returns-clause-is : goal.returns-clause-is
returns-clause-is c = λ base f p b s.
    let e = c.first_variable-base.ensures base (subst (λ z. IsSplit z (c.args.at.part + 1 - c.args.outline.now.parts) base) (sym c.as_slice.ensures) s) in
    ap (λ z. Some (answer_for c.args.this c.args.program c.args.at.part z c.args.at.fun)) e

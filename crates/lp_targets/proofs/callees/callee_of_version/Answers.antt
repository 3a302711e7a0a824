use Rattle.std.proofs.Common.{◌≡◌, ◌∙◌, ◌+◌, ◌-◌, ◌<◌, ◌≤◌, arith, ap, sym, subst}
use Rattle.lp_values.specs.declared.id.ProgId.{ProgId}
use Rattle.lp_world.specs.Rows.{row_at}
use Rattle.lp_world.specs.declared.versions.Version.{Version}
use Rattle.lp_part_laws.specs.Parts.{IsSplit}
use Rattle.lp_targets.proofs.Lookups.{if_some, one_some}
use Rattle.lp_targets.proofs.callees.callee_of_version.Goals as goal

pub returns-in-Some-clause-function : goal.returns-in-Some-clause-function
returns-in-Some-clause-function c = if_some c.callee_in.result (λ x h. (c.in-Some.v.now, sym c.in-Some.ensures, h.0)) c.callee_in.ensures.function

pub returns-in-Some-clause-there : goal.returns-in-Some-clause-there
returns-in-Some-clause-there c = if_some c.callee_in.result (λ x h. record {
  version = c.in-Some.v.now;
  there = ap (λ (p : ProgId). row_at c.args.versions.now p.0) h.1 ∙ sym c.in-Some.ensures;
  function = let a = h.0 in let b = h.2 in omega (arith, a, b);
}) c.callee_in.ensures.function

pub returns-in-Some-clause-is : goal.returns-in-Some-clause-is
returns-in-Some-clause-is c = λ v base e f p b s.
    let same : c.in-Some.v.now ≡ v = one_some c.in-Some.v.now v (c.in-Some.ensures ∙ e) in
    c.callee_in.ensures.is base
    (subst (λ (z : Version). c.args.at.fun < z.outline.functions) (sym same) f)
    (subst (λ (z : Version). z.outline.parts ≤ c.args.at.part + 1) (sym same) p)
    b
    (subst (λ (z : Version). IsSplit c.args.whole.now.tables.vars (c.args.at.part + 1 - z.outline.parts) base) (sym same) s)

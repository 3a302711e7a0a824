use Rattle.std.proofs.Common.{◌≡◌, ◌∙◌, Some, sym, subst}
use Rattle.lp_values.specs.declared.id.ProgId.{ProgId}
use Rattle.lp_world.specs.Rows.{row_at}
use Rattle.lp_targets.specs.Callees.{answer_for}
use Rattle.lp_targets.proofs.Lookups.{if_some, one_some}
use Rattle.lp_targets.proofs.callees.callee_at.Goals as goal

pub returns-in-Some-clause-function : goal.returns-in-Some-clause-function
returns-in-Some-clause-function c = if_some c.callee_of_version.result (λ x h. record {
  number = c.in-Some.program;
  listed = sym c.in-Some.ensures;
  version = h.0;
  there = h.1;
  row = h.2;
}) c.callee_of_version.ensures.function

pub returns-in-Some-clause-is : goal.returns-in-Some-clause-is
returns-in-Some-clause-is c = λ n v base l e f p b s.
    let same : c.in-Some.program ≡ n = one_some c.in-Some.program n (c.in-Some.ensures ∙ l) in
    subst (λ (z : ProgId). c.callee_of_version.result ≡ Some (answer_for c.args.this z c.args.at.part base c.args.at.fun)) same
    (c.callee_of_version.ensures.is v base (subst (λ (z : ProgId). row_at c.args.versions.now z.0 ≡ Some v) (sym same) e) f p b s)

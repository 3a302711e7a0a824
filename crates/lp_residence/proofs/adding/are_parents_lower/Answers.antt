use Rattle.std.proofs.Common.{◌<◌, All, subst}
use Rattle.std.proofs.lemmas.List.{take_all}
use Rattle.std.proofs.lemmas.List.Elements.{All-more}
use Rattle.lp_values.specs.declared.id.ProgId.{ProgId}
use Rattle.lp_residence.proofs.adding.are_parents_lower.Goals as goal

pub loop-p-preserved : goal.loop-p-preserved
loop-p-preserved c = All-more (λ (p : ProgId). p.0 < c.args.number) c.args.parents.now c.loop-p.p-index (record { 0 = 0 }) c.loop-p-test.true c.loop-p.invariant c.if-not-is_lower.ensures

pub returns : goal.returns
returns c = subst (All (λ (p : ProgId). p.0 < c.args.number)) (take_all c.loop-p.p-index c.args.parents.now c.loop-p-test.false) c.loop-p.invariant

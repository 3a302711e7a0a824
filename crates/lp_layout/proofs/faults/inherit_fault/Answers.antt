use Rattle.std.proofs.Common.{◌<◌, length, ap, ◌∙◌, rules}
use Rattle.lp_tree.specs.declared.fault.FaultKind.TheVariants.{NomaskOverridden, NoInheritPragma, TooManyNames}
use Rattle.lp_types_expr.specs.ExprFaults.{when}
use Rattle.lp_types_expr.specs.Signatures.{or_else}
use Rattle.lp_layout.specs.Firsts.{at_if, first_kind}
use Rattle.lp_layout.specs.LayoutFaults.{limits, stands_beside}
use Rattle.lp_layout.proofs.FirstFaults.{inherit_first}
use Rattle.lp_layout.proofs.faults.inherit_fault.Goals as goal

pub returns : goal.returns
returns c = λ ts k p.
    let t = c.index-others-0.result in
    let whole = when c.args.is_large TooManyNames in
    let some : 0 < length c.args.others.now = search rules in
    c.at_if-2.ensures ∙ ap (at_if c.args.line)
    (c.earlier.ensures ∙ ap (λ z. or_else z c.when-whole.result)
    (c.earlier-kind.ensures ∙ ap (λ z. or_else z c.when-2.result) (c.when.ensures ∙ ap (λ b. first_kind (when b NomaskOverridden)) (c.in_ok-is_beside.ensures ts k)) ∙ ap (λ z. or_else (first_kind (when (stands_beside ts t) NomaskOverridden)) z) c.when-2.ensures)
    ∙ ap (λ z. or_else (or_else (first_kind (when (stands_beside ts t) NomaskOverridden)) (first_kind (when t.pragmas.no_inherit NoInheritPragma))) z) c.when-whole.ensures)
    ∙ inherit_first limits whole ts c.args.others.now t c.args.line p some c.index-others-0.is

use Rattle.std.proofs.Common.{List, ap, ◌∙◌}
use Rattle.std.specs.List.{list_any}
use Rattle.lp_code.specs.declared.tables.Slot.{Slot}
use Rattle.lp_types_expr.specs.NameMaps.{named}
use Rattle.lp_layout.specs.LayoutFaults.{source}
use Rattle.lp_layout.specs.Standing.{clashes}
use Rattle.lp_layout.proofs.Beside.{beside_known}
use Rattle.lp_layout.proofs.nomask.stands_beside.Goals as goal

pub returns : goal.returns
returns c = λ ts k.
    c.in_ok-is_beside.ensures ∙ ap (λ (l : List Slot). list_any (λ s. clashes (named c.args.known.now s.name) (source c.args.parent.now s.name)) l) c.as_slice.ensures ∙ beside_known ts c.args.parent.now c.args.known.now k

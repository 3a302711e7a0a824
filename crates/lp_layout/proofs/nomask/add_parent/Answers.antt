use Rattle.std.proofs.Common.{List, map, subst}
use Rattle.lp_code.specs.declared.tables.Slot.{Slot}
use Rattle.lp_layout.specs.Standing.{KnowsSome}
use Rattle.lp_layout.proofs.Beside.{some_all}
use Rattle.lp_layout.proofs.nomask.add_parent.Goals as goal

pub returns : goal.returns
returns c = λ ts k.
    some_all ts c.args.parent.now c.add_names.new.known (subst (λ (l : List Slot). KnowsSome ts c.args.parent.now (map (λ s. s.name) l) c.add_names.new.known) c.as_slice.ensures (c.in_ok-add_names.ensures ts k))

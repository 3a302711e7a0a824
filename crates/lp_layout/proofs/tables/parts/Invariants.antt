use Rattle.std.proofs.Common.{◌≡◌, take}
use Rattle.lp_layout.specs.Layout.{parts_before}
use Rattle.lp_layout.proofs.tables.parts.Given as goal

abbrev pub invariant-loop-parent : goal.invariant-loop-parent
invariant-loop-parent l = l.parts.items ≡ parts_before (take l.parent-index l.parents)

use Rattle.std.proofs.Common.{map, take}
use Rattle.lp_tree.specs.UnitView.{item_of}
use Rattle.lp_isa.specs.Programs.{own_functions}
use Rattle.lp_codegen_expr.specs.Drafts.{draft_of}
use Rattle.lp_codegen_unit.specs.Stands.{FunctionsStand}
use Rattle.lp_codegen_unit.proofs.functions.gen_functions.Given as goal

abbrev pub invariant-loop-item : goal.invariant-loop-item
invariant-loop-item l = FunctionsStand (own_functions (map item_of (take l.item-index l.items.items))) l.rows.items l.initial.scope l.scope (draft_of l.initial.into) (draft_of l.into)

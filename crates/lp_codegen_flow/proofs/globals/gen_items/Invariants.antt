use Rattle.std.proofs.Common.{map, take}
use Rattle.lp_tree.specs.UnitView.{item_of}
use Rattle.lp_language.specs.Resolve.{own_variables}
use Rattle.lp_codegen_expr.specs.Drafts.{draft_of}
use Rattle.lp_codegen_flow.specs.Initialisers.{Initialises}
use Rattle.lp_codegen_flow.proofs.globals.gen_items.Given as goal

abbrev pub invariant-loop-item : goal.invariant-loop-item
invariant-loop-item l = Initialises (own_variables (map item_of (take l.item-index l.items.items))) l.first l.place l.scope (draft_of l.initial.into) (draft_of l.into)

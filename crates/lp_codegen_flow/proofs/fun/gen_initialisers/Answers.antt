use Rattle.std.proofs.Common.{map}
use Rattle.lp_tree.specs.UnitView.{item_of}
use Rattle.lp_language.specs.Resolve.{own_variables}
use Rattle.lp_codegen_flow.proofs.Initialising.{init_stands}
use Rattle.lp_codegen_flow.proofs.fun.gen_initialisers.Goals as goal

pub returns : goal.returns
returns c =
    init_stands c.args.scope.now (own_variables (map item_of c.args.items.now.items)) _ c.in_ok-from.ensures c.in_ok-gen_items.ensures c.in_ok-put.ensures c.lead.ensures
